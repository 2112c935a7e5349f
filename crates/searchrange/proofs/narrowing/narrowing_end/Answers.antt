use Rattle.std.proofs.Common.{rules, ◌<◌, ◌∙◌, length}
use Rattle.searchrange.proofs.NarrowingSteps.{ends_here, ends_later}
use Rattle.searchrange.proofs.narrowing.narrowing_end.Goals as goal

pub returns-in-None : goal.returns-in-None
returns-in-None c =
    let within : c.loop-place.place < length c.args.table.now.key = search rules in
    ends_here c.args.table.now c.args.comparisons.now c.loop-place.place c.args.table.now.key within c.in-None.ensures
    ∙ c.loop-place.invariant

pub loop-place-preserved : goal.loop-place-preserved
loop-place-preserved c =
    let within : c.loop-place.place < length c.args.table.now.key = search rules in
    ends_later c.args.table.now c.args.comparisons.now c.loop-place.place c.args.table.now.key within c.in-Some._value.now c.in-Some.ensures
    ∙ c.loop-place.invariant
