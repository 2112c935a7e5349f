use Rattle.std.proofs.Common.{codes, refl}
use Rattle.statement.specs.Print.{line}
use Rattle.statement.proofs.WriterPrefixes.{stopped}
use Rattle.dump_steps.specs.Dump.{keys_of}
use Rattle.dumping.specs.Deletion.{pair_of}
use Rattle.dumping.specs.DumpText.{where_text}
use Rattle.dumping.specs.Name.{named}
use Rattle.dumping.proofs.DumpTextPieces.{failed_2, printed_3}
use Rattle.dumping.proofs.row.print_update.Goals as goal

pub returns-in_err-print_named : goal.returns-in_err-print_named
returns-in_err-print_named g c = stopped _ _ _ _ (named (codes "1: UPDATE ") c.args.table.now.name (codes " SET ")) _ c.from_residual.ensures.1 c.in_err-print_named.ensures

pub returns-in_err-print_pair : goal.returns-in_err-print_pair
returns-in_err-print_pair g c =
    failed_2 _ _ _ _ _ (named (codes "1: UPDATE ") c.args.table.now.name (codes " SET ")) (pair_of c.args.table.now c.args.column c.args.value.now)
    (line (where_text c.args.table.now (keys_of c.args.table.now c.args.key.now).comparisons)) _ refl
    c.from_residual-in_err-print_pair.ensures.1 c.in_ok-print_named.ensures c.in_err-print_pair.ensures

pub returns : goal.returns
returns g c =
    printed_3 _ _ _ _ _ (named (codes "1: UPDATE ") c.args.table.now.name (codes " SET ")) (pair_of c.args.table.now c.args.column c.args.value.now)
    (line (where_text c.args.table.now (keys_of c.args.table.now c.args.key.now).comparisons)) _ refl
    c.in_ok-print_named.ensures c.in_ok-print_pair.ensures c.print_where.ensures
