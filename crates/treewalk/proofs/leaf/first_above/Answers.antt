use Rattle.std.proofs.Common.{Some, true, false, sym, ap, ◌∙◌, is_eq, arith}
use Rattle.values.specs.Event.{Event}
use Rattle.values.specs.Events.{is_bytes}
use Rattle.treewalk.proofs.ChangeAfterPlaced.{past_all, at_place}
use Rattle.treewalk.proofs.leaf.first_above.Goals as goal

pub returns-then-place-events : goal.returns-then-place-events
returns-then-place-events c = past_all c.args.key.now c.args.after c.args.events.now c.place_after-place.result c.place_after-place.ensures.first c.if-place-events.true

pub returns-then-is_eq : goal.returns-then-is_eq
returns-then-is_eq c =
    let same = ap is_eq c.cmp.ensures ∙ ap (is_bytes c.args.key.now) (c.key.ensures.is ∙ ap (λ (e : Event). e.key) c.event-event.ensures) in
    ap Some (c.at.ensures ∙ ap (λ (e : Event). e.at) c.event-event.ensures)
    ∙ at_place c.args.key.now c.args.after c.args.events.now c.place_after-place.result c.place_after-place.ensures.first c.requires c.index-events-place.result
    (let le = c.place_after-place.ensures.bound in let other = c.if-place-events.false in omega (arith, other)) c.index-events-place.is
    true (sym (c.is_eq.ensures ∙ same) ∙ c.if-is_eq.true)

pub returns-else-is_eq : goal.returns-else-is_eq
returns-else-is_eq c =
    let same = ap is_eq c.cmp.ensures ∙ ap (is_bytes c.args.key.now) (c.key.ensures.is ∙ ap (λ (e : Event). e.key) c.event-event.ensures) in
    at_place c.args.key.now c.args.after c.args.events.now c.place_after-place.result c.place_after-place.ensures.first c.requires c.index-events-place.result
    (let le = c.place_after-place.ensures.bound in let other = c.if-place-events.false in omega (arith, other)) c.index-events-place.is
    false (sym (c.is_eq.ensures ∙ same) ∙ c.if-is_eq.false)
