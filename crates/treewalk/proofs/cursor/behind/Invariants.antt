use Rattle.std.proofs.Common.{length}
use Rattle.treewalk.proofs.cursor.behind.Given as goal

abbrev pub decreases-loop-rest : goal.decreases-loop-rest
decreases-loop-rest l = length l.rest
