use Rattle.std.proofs.Common.{sym, ◌∙◌}
use Rattle.eventlist.proofs.KeyGroupEvents.{until_more, until_past}
use Rattle.eventlist.proofs.key_group.place_near.Goals as goal

pub loop-place-preserved : goal.loop-place-preserved
loop-place-preserved c =
    let more = until_more c.args.key.now c.args.instant c.args.events.now c.loop-place.place (sym c.is_until_at.ensures ∙ c.loop-place-test.true) c.loop-place.invariant.passed in
    record { bound = more.0; passed = more.1 }

pub returns-clause-first : goal.returns-clause-first
returns-clause-first c =
    (c.loop-place.invariant.passed, until_past c.args.key.now c.args.instant c.args.events.now c.loop-place.place c.requires (sym c.is_until_at.ensures ∙ c.loop-place-test.false))
