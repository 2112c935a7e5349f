use Rattle.std.proofs.Common.{sym, ap, ◌∙◌}
use Rattle.values.specs.Versions.{holds}
use Rattle.staging.proofs.BoundKept.{held_at, held_from}
use Rattle.staging.proofs.bound.bound_below.Goals as goal

pub returns-then-bounds_below : goal.returns-then-bounds_below
returns-then-bounds_below c = λ k all.
    held_from c.args.table.now k c.comparison-item.result (sym c.is_of_first.ensures ∙ c.if-is_of_first.true) (sym c.bounds_below.ensures ∙ c.if-bounds_below.true)
    (ap (holds c.args.table.now k) c.comparison-item.is ∙ held_at c.args.table.now k c.args.comparisons.now c.loop-comparison.comparison-index c.comparison-item.result c.loop-comparison-test.true all)
