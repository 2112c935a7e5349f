use Rattle.std.proofs.Common.{sym, ap, ◌∙◌}
use Rattle.values.specs.Versions.{holds}
use Rattle.staging.proofs.BoundKept.{held_at, held_below}
use Rattle.staging.proofs.bound.is_above.Goals as goal

pub returns-then-is_exceeded : goal.returns-then-is_exceeded
returns-then-is_exceeded c = λ is k all.
    held_below c.args.table.now k c.comparison-item.result c.in-Some.first.now c.args.parts.now (sym c.in-Some.ensures.value)
    (sym c.is_of_first.ensures ∙ c.if-is_of_first.true) (sym c.is_exceeded.ensures ∙ c.if-is_exceeded.true)
    (ap (holds c.args.table.now k) c.comparison-item.is ∙ held_at c.args.table.now k c.args.comparisons.now c.loop-comparison.comparison-index c.comparison-item.result c.loop-comparison-test.true all)
