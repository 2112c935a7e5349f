use Rattle.std.proofs.Common.{◌≡◌, length}
use Rattle.statement.specs.Token.{next}
use Rattle.statement.proofs.token.BlanksSeparators.next.Given as goal

abbrev pub invariant-loop-rest : goal.invariant-loop-rest
invariant-loop-rest l = next l.rest ≡ next l.bytes

abbrev pub decreases-loop-rest : goal.decreases-loop-rest
decreases-loop-rest l = length l.rest
