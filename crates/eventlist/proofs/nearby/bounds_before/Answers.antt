use Rattle.std.proofs.Common.{◌+◌, ◌-◌, ◌∙◌, arith, refl, sym}
use Rattle.eventlist.proofs.KeyGroupEvents.{until_past}
use Rattle.eventlist.proofs.NearbyBounds.{until_reached}
use Rattle.eventlist.proofs.nearby.bounds_before.Goals as goal

pub loop-step-init : goal.loop-step-init
loop-step-init c = record {
  some = omega arith;
  inside = c.requires.bound;
  none = until_past c.args.key.now c.args.instant c.args.events.now c.args.near c.requires.sorted c.requires.before;
}

pub returns-then-is_until_at : goal.returns-then-is_until_at
returns-then-is_until_at c =
    let some = c.loop-step.invariant.some in
    let lower = c.loop-step-test.true in
    record {
      ordered = omega (arith, some, lower);
      inside = c.loop-step.invariant.inside;
      passed = (until_reached c.args.key.now c.args.instant c.args.events.now c.requires.sorted (c.loop-step.high - c.loop-step.step) (c.loop-step.high - c.loop-step.step + 1) (sym c.is_until_at.ensures ∙ c.if-is_until_at.true) refl).1;
      none = c.loop-step.invariant.none;
    }

pub loop-step-preserved : goal.loop-step-preserved
loop-step-preserved c =
    let some = c.loop-step.invariant.some in
    let inside = c.loop-step.invariant.inside in
    record {
      some = omega (arith, some);
      inside = omega (arith, inside);
      none = until_past c.args.key.now c.args.instant c.args.events.now (c.loop-step.high - c.loop-step.step) c.requires.sorted (sym c.is_until_at.ensures ∙ c.if-is_until_at.false);
    }
