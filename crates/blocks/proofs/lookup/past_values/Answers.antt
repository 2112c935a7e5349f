use Rattle.std.proofs.Common.{◌≡◌, ◌<◌, Some, sym, ◌∙◌, arith, rules}
use Rattle.blocks.specs.Lookup.{past_value}
use Rattle.blocks.proofs.LookupSteps.{values_step}
use Rattle.blocks.proofs.lookup.past_values.Goals as goal

pub loop-preserved : goal.loop-preserved
loop-preserved c =
    let below : c.loop.counter < c.args.n = omega arith in
    let past : past_value c.loop.rest.now ≡ Some c.in-Some.left.now = search rules in
    sym (values_step c.args.n c.loop.counter c.loop.rest.now (Some c.in-Some.left.now) below past) ∙ c.loop.invariant
