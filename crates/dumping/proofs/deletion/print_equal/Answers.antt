use Rattle.std.proofs.Common.{codes}
use Rattle.statement.proofs.WriterPrefixes.{stopped}
use Rattle.dumping.proofs.deletion.print_equal.Goals as goal

pub returns-in_err-write_all : goal.returns-in_err-write_all
returns-in_err-write_all g c = stopped _ _ _ _ (codes " = ") _ c.from_residual.ensures.1 c.in_err-write_all.ensures
