use Rattle.std.proofs.Common.{◌≡◌, ◌∙◌, ◌<◌, length, rules}
use Rattle.searchrange.specs.SearchRange.{narrowed_at}
use Rattle.searchrange.proofs.NarrowingSteps.{stops, goes_on}
use Rattle.searchrange.proofs.narrowing.narrow.Goals as goal

pub returns-in-None : goal.returns-in-None
returns-in-None c =
    let within : c.loop-place.place < length c.args.table.now.key = search rules in
    let is : c.in_ok-range.range ≡ narrowed_at c.args.table.now c.loop-place.place c.loop-place.prefix.items c.args.comparisons.now c.loop-place.range = search rules in
    stops c.args.table.now c.args.comparisons.now c.loop-place.place c.loop-place.prefix.items c.args.table.now.key c.loop-place.range c.in_ok-range.range within is c.in-None.ensures
    ∙ c.loop-place.invariant

pub loop-place-preserved : goal.loop-place-preserved
loop-place-preserved c =
    let within : c.loop-place.place < length c.args.table.now.key = search rules in
    let is : c.in_ok-range.range ≡ narrowed_at c.args.table.now c.loop-place.place c.loop-place.prefix.items c.args.comparisons.now c.loop-place.range = search rules in
    goes_on c.args.table.now c.args.comparisons.now c.loop-place.place c.loop-place.prefix.items c.args.table.now.key c.loop-place.range c.in_ok-range.range within is
    c.in-Some.value.now c.push_part.new.bytes.items c.in-Some.ensures c.in_ok-push_part-in-Some.ensures
    ∙ c.loop-place.invariant
