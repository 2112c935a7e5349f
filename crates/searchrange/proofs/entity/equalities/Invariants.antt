use Rattle.std.proofs.Common.{◌≡◌, take}
use Rattle.periods.specs.EntityKeys.{equalities}
use Rattle.searchrange.proofs.entity.equalities.Given as goal

abbrev pub invariant-loop-i : goal.invariant-loop-i
invariant-loop-i l = l.comparisons.items ≡ equalities (take l.i l.columns) l.values
