use Rattle.std.proofs.Common.{codes, length}
use Rattle.statement.specs.Print.{numbered}
use Rattle.statement.proofs.WriterPrefixes.{stopped}
use Rattle.statement.proofs.print.print_periods.Goals as goal

pub returns-in_err-print_numbered : goal.returns-in_err-print_numbered
returns-in_err-print_numbered g c = stopped _ _ _ _ (numbered (codes "rows ") (length c.args.shown.now)) _ c.from_residual.ensures.1 c.in_err-print_numbered.ensures
