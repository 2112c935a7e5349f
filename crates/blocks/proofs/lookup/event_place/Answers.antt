use Rattle.std.proofs.Common.{◌≡◌, ◌-◌, ◌+◌, ◌<◌, Bool, true, false, Some, ap, sym, ◌∙◌, arith, rules, if◌then◌else◌}
use Rattle.keyrange.specs.Range.{is_below}
use Rattle.blocks.specs.Event.{point_from}
use Rattle.blocks.specs.Lookup.{past_row_field, is_wanted, event_place}
use Rattle.blocks.proofs.LookupSteps.{as_taken, place_past}
use Rattle.blocks.proofs.lookup.event_place.Goals as goal
use Rattle.blocks.proofs.lookup.event_place.Goals.{then-is_wanted, else-is_wanted}

pub loop-preserved : goal.loop-preserved
unfolding is_wanted
loop-preserved c =
    let key = c.args.key.now in
    let other = c.in-Some.other.now in
    let row = c.in-Some.row.now in
    let found = as_taken c.loop.found in
    let below : c.loop.counter < c.args.n = omega arith in
    let point : point_from c.loop.rest.now ≡ Some ((other, c.in-Some.at), row) = search rules in
    let not_behind : is_below key other ≡ false = search rules in
    let past : past_row_field row ≡ Some c.in-Some-past_row_field.left.now = search rules in
    let wanted : c.is_wanted.result ≡ is_wanted key c.args.low c.args.high (other, c.in-Some.at) = search rules in
    let now : as_taken c.if-is_wanted.found ≡ (if c.is_wanted.result then Some (c.in-Some.at, row) else found) = elim c.if-is_wanted.branch [
      | then-is_wanted w ↦ (let is : c.is_wanted.result ≡ true = search rules in ap as_taken w.found-is ∙ sym (ap (λ (t : Bool). if t then Some (c.in-Some.at, row) else found) is))
      | else-is_wanted w ↦ (let is : c.is_wanted.result ≡ false = search rules in ap as_taken w.found-is ∙ sym (ap (λ (t : Bool). if t then Some (c.in-Some.at, row) else found) is))
    ] in
    ap (event_place (c.args.n - (c.loop.counter + 1)) c.in-Some-past_row_field.left.now key c.args.low c.args.high)
    (now ∙ ap (λ (t : Bool). if t then Some (c.in-Some.at, row) else found) wanted)
    ∙ sym (place_past key c.args.low c.args.high c.args.n c.loop.counter c.loop.rest.now found other row c.in-Some.at (Some c.in-Some-past_row_field.left.now) below point not_behind past)
    ∙ c.loop.invariant
