use Rattle.std.proofs.Common.{◌++◌, codes, refl}
use Rattle.statement.specs.Print.{line}
use Rattle.statement.proofs.WriterPrefixes.{stopped}
use Rattle.dumping.specs.DumpText.{type_text}
use Rattle.dumping.specs.Name.{named}
use Rattle.dumping.proofs.DumpTextPieces.{failed_2, printed_3}
use Rattle.dumping.proofs.column.print_column.Goals as goal

pub returns-in_err-print_named : goal.returns-in_err-print_named
returns-in_err-print_named g c = stopped _ _ _ _ (named (codes "1: ALTER TABLE ") c.args.table.now.name (codes " ADD COLUMN ")) _ c.from_residual.ensures.1 c.in_err-print_named.ensures

pub returns-in_err-write_all : goal.returns-in_err-write_all
returns-in_err-write_all g c =
    failed_2 _ _ _ _ _ (named (codes "1: ALTER TABLE ") c.args.table.now.name (codes " ADD COLUMN ")) _ (codes " " ++ line (type_text c.args.column.now.of)) _ refl
    c.from_residual-in_err-write_all.ensures.1 c.in_ok-print_named.ensures (rw (c.as_bytes.ensures.value, c.text.ensures) at c.in_err-write_all.ensures)

pub returns : goal.returns
returns g c =
    printed_3 _ _ _ _ _ (named (codes "1: ALTER TABLE ") c.args.table.now.name (codes " ADD COLUMN ")) _ (codes " " ++ line (type_text c.args.column.now.of)) _ refl
    c.in_ok-print_named.ensures (rw (c.as_bytes.ensures.value, c.text.ensures) at c.in_ok-write_all.ensures) c.print_type.ensures
