use Rattle.std.proofs.Common.{rules, ◌≡◌, ◌<◌, ◌∙◌, get_or, length}
use Rattle.systime_query.proofs.StandingTaken.{one_more}
use Rattle.systime_query.proofs.standing.rows_shown.Goals as goal

pub loop-event-preserved : goal.loop-event-preserved
loop-event-preserved c = λ all.
    let item = c.event-item.result in
    let s = c.args.search.now in
    let within : c.loop-event.event-index < length c.args.events.now = search rules in
    let is : item ≡ get_or c.args.events.now c.loop-event.event-index item = search rules in
    one_more s.table s.keys s.range c.args.events.now c.loop-event.event-index item c.loop-event.rows.items c.push_some.new.list.items c.in_ok-row_in.field-0 within is
    c.in_ok-row_in.ensures.ok
    c.in_ok-push_some.ensures all
    ∙ c.loop-event.invariant all
