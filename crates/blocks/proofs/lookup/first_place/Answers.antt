use Rattle.std.proofs.Common.{◌≡◌, ◌<◌, false, Some, sym, ◌∙◌, arith, rules}
use Rattle.keyrange.specs.Range.{is_below}
use Rattle.blocks.specs.Event.{point_from}
use Rattle.blocks.specs.Lookup.{past_row_field, is_wanted}
use Rattle.blocks.proofs.LookupSteps.{first_past}
use Rattle.blocks.proofs.lookup.first_place.Goals as goal

pub loop-preserved : goal.loop-preserved
unfolding is_wanted
loop-preserved c =
    let key = c.args.key.now in
    let other = c.in_ok-other.other.now in
    let row = c.in_ok-other.row.now in
    let below : c.loop.counter < c.args.n = omega arith in
    let point : point_from c.loop.rest.now ≡ Some ((other, c.in_ok-other.at), row) = search rules in
    let unwanted : is_wanted key c.args.low c.args.high (other, c.in_ok-other.at) ≡ false = search rules in
    let not_behind : is_below key other ≡ false = search rules in
    let past : past_row_field row ≡ Some c.in_ok-rest.rest.now = search rules in
    sym (first_past key c.args.low c.args.high c.args.n c.loop.counter c.loop.rest.now other row c.in_ok-other.at (Some c.in_ok-rest.rest.now) below point unwanted not_behind past)
    ∙ c.loop.invariant
