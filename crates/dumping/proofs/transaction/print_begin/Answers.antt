use Rattle.std.proofs.Common.{codes}
use Rattle.statement.specs.Print.{numbered}
use Rattle.statement.proofs.WriterPrefixes.{stopped}
use Rattle.dumping.proofs.transaction.print_begin.Goals as goal

pub returns-in_err-print_numbered : goal.returns-in_err-print_numbered
returns-in_err-print_numbered g c = stopped _ _ _ _ (numbered (codes "clock: ") c.args.at) _ c.from_residual.ensures.1 c.in_err-print_numbered.ensures
