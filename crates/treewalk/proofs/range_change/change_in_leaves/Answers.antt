use Rattle.std.proofs.Common.{ap, ◌∙◌}
use Rattle.values.specs.Event.{Event}
use Rattle.std.specs.Prelude.{List}
use Rattle.treewalk.specs.Gather.{events_at}
use Rattle.treewalk.specs.RangeChange.{event_since_in}
use Rattle.treewalk.proofs.RangeChangeLatest.{latest_of_more}
use Rattle.treewalk.proofs.RangeChangeShown.{counts}
use Rattle.treewalk.proofs.range_change.change_in_leaves.Goals as goal

pub loop-number-preserved : goal.loop-number-preserved
loop-number-preserved c =
    latest_of_more (counts c.args.range.now c.args.start) (events_at c.args.nodes.now) c.args.numbers.now c.loop-number.number-index c.loop-number.latest c.in_ok-found.found c.latest_of-latest.result c.loop-number-test.true c.loop-number.invariant
    (c.in_ok-found.ensures.ok ∙ ap (λ (es : List Event). event_since_in es c.args.start c.args.range.now) c.leaf_of.ensures.events) c.latest_of-latest.ensures
