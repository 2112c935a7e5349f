use Rattle.std.proofs.Common.{◌≡◌, ◌+◌, ◌-◌, ◌∙◌, arith, length, min, refl, sym}
use Rattle.eventlist.proofs.NearbyBounds.{until_reached, past_least}
use Rattle.eventlist.proofs.nearby.bounds_behind.Goals as goal

pub loop-low-init : goal.loop-low-init
loop-low-init c =
    let up = until_reached c.args.key.now c.args.instant c.args.events.now c.requires.sorted c.args.near (c.args.near + 1) c.requires.behind refl in
    record { some = omega arith; few = omega arith; inside = up.0; passed = up.1 }

pub loop-low-smaller : goal.loop-low-smaller
loop-low-smaller c =
    let some = c.loop-low.invariant.some in
    let up = until_reached c.args.key.now c.args.instant c.args.events.now c.requires.sorted (c.loop-low.low + c.loop-low.step - 1) (c.loop-low.low + c.loop-low.step) (sym c.is_until_at.ensures ∙ c.loop-low-test.true) (omega (arith, some)) in
    let inside = up.0 in omega (arith, some, inside)

pub loop-low-preserved : goal.loop-low-preserved
loop-low-preserved c =
    let some = c.loop-low.invariant.some in
    let few = c.loop-low.invariant.few in
    let up = until_reached c.args.key.now c.args.instant c.args.events.now c.requires.sorted (c.loop-low.low + c.loop-low.step - 1) (c.loop-low.low + c.loop-low.step) (sym c.is_until_at.ensures ∙ c.loop-low-test.true) (omega (arith, some)) in
    record { some = omega (arith, some); few = omega (arith, few); inside = up.0; passed = up.1 }

pub returns : goal.returns
returns c =
    let some = c.loop-low.invariant.some in
    let inside = c.loop-low.invariant.inside in
    let least : c.min.result ≡ min (c.loop-low.low + c.loop-low.step - 1) (length c.args.events.now) = omega (arith, c.min.ensures) in
    record {
      ordered = omega (arith, least, some, inside);
      inside = omega (arith, least);
      passed = c.loop-low.invariant.passed;
      none = past_least c.args.key.now c.args.instant c.args.events.now c.requires.sorted (c.loop-low.low + c.loop-low.step - 1) c.min.result (sym c.is_until_at.ensures ∙ c.loop-low-test.false) least;
    }
