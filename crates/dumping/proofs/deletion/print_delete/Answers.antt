use Rattle.std.proofs.Common.{codes, []}
use Rattle.statement.proofs.WriterPrefixes.{stopped}
use Rattle.dumping.specs.Name.{named}
use Rattle.dumping.proofs.deletion.print_delete.Goals as goal

pub returns-in_err-print_named : goal.returns-in_err-print_named
returns-in_err-print_named g c = stopped _ _ _ _ (named (codes "1: DELETE FROM ") c.args.table.now.name []) _ c.from_residual.ensures.1 c.in_err-print_named.ensures
