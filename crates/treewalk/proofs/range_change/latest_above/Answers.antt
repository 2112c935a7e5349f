use Rattle.std.proofs.Common.{rules, ◌≡◌, ◌<◌, ◌∙◌, ap, length, get_or, nat_lt, Some, None, if◌then◌else◌}
use Rattle.values.specs.Commits.{latest_of}
use Rattle.values.specs.Event.{Event}
use Rattle.treewalk.proofs.RangeChangeLatest.{latest_more}
use Rattle.treewalk.proofs.range_change.latest_above.Goals as goal

pub loop-event-preserved : goal.loop-event-preserved
loop-event-preserved c =
    let item = c.event-item.result in
    let within : c.loop-event.event-index < length c.args.events.now = search rules in
    let is : item ≡ get_or c.args.events.now c.loop-event.event-index item = search rules in
    latest_more (λ e. nat_lt c.args.start e.at) c.args.events.now c.loop-event.event-index item c.loop-event.latest c.latest_of-latest.result within is c.loop-event.invariant
    (c.latest_of-latest.ensures ∙ ap (latest_of c.loop-event.latest) (c.above.ensures ∙ ap (λ t. if nat_lt c.args.start t then Some t else None) (c.at.ensures ∙ ap (λ (e : Event). e.at) c.event.ensures)))
