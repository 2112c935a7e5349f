use Rattle.std.proofs.Common.{◌≡◌, length}
use Rattle.searchrange.specs.SearchRange.{next_prefix}
use Rattle.searchrange.proofs.prefix.next_prefix.Given as goal

abbrev pub invariant-loop-front : goal.invariant-loop-front
invariant-loop-front l = next_prefix l.front ≡ next_prefix l.prefix

abbrev pub decreases-loop-front : goal.decreases-loop-front
decreases-loop-front l = length l.front
