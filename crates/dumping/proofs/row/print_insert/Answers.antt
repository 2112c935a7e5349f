use Rattle.std.proofs.Common.{codes}
use Rattle.statement.proofs.WriterPrefixes.{stopped}
use Rattle.dumping.specs.Name.{named}
use Rattle.dumping.proofs.row.print_insert.Goals as goal

pub returns-in_err-print_named : goal.returns-in_err-print_named
returns-in_err-print_named g c = stopped _ _ _ _ (named (codes "1: INSERT INTO ") c.args.table.now.name (codes " VALUES (")) _ c.from_residual.ensures.1 c.in_err-print_named.ensures
