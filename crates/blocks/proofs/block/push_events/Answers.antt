use Rattle.std.proofs.Common.{◌≡◌, ◌<◌, ◌≤◌, ◌++◌, length, get_or, rules}
use Rattle.blocks.specs.Event.{event_field, IsKept}
use Rattle.blocks.proofs.EventSteps.{pushed_more, all_pushed}
use Rattle.blocks.proofs.block.push_events.Goals as goal

pub loop-event-preserved : goal.loop-event-preserved
loop-event-preserved c =
    let item = c.event-item.result in
    let within : c.loop-event.event-index < length c.args.events.now = search rules in
    let is : item ≡ get_or c.args.events.now c.loop-event.event-index item = search rules in
    let more : c.push_event.new.bytes.items ≡ c.loop-event.bytes.items ++ event_field item = search rules in
    let kept : IsKept item = search rules in
    pushed_more c.args.bytes.now.items c.args.events.now c.loop-event.event-index item c.loop-event.bytes.items c.push_event.new.bytes.items within is more kept c.loop-event.invariant

pub returns-clause-kept : goal.returns-clause-kept
returns-clause-kept c =
    let past : length c.args.events.now ≤ c.loop-event.event-index = search rules in
    all_pushed c.args.bytes.now.items c.args.events.now c.loop-event.event-index c.loop-event.bytes.items past c.loop-event.invariant
