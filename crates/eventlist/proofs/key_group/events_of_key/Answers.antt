use Rattle.std.proofs.Common.{◌≤◌, ◌∙◌, List, take, length, ap, sym, subst}
use Rattle.std.specs.List.Sorted.{IsStrictlySortedBy}
use Rattle.values.specs.Event.{Event}
use Rattle.values.specs.Events.{event_cmp}
use Rattle.eventlist.specs.Place.{AreFirst, is_until}
use Rattle.eventlist.proofs.PlaceParts.{sorted_drop}
use Rattle.eventlist.proofs.KeyGroupEvents.{of_key_is}
use Rattle.eventlist.proofs.key_group.events_of_key.Goals as goal

pub place_near-requires : goal.place_near-requires
place_near-requires c =
    subst (IsStrictlySortedBy event_cmp) (sym c.split_at.ensures.back) (sorted_drop event_cmp c.args.events.now c.place_from-place.result c.requires)

pub returns-clause-are : goal.returns-clause-are
returns-clause-are c =
    c.split_at-2.ensures.front
    ∙ ap (take c.place_near.result) c.split_at.ensures.back
    ∙ of_key_is c.args.key.now c.args.after c.args.last c.args.events.now c.place_from-place.result c.place_near.result c.place_from-place.ensures.bound c.place_from-place.ensures.first
    (subst (λ l. c.place_near.result ≤ length l) c.split_at.ensures.back c.place_near.ensures.bound)
    (subst (λ (l : List Event). AreFirst (is_until c.args.key.now c.args.last) l c.place_near.result) c.split_at.ensures.back c.place_near.ensures.first)
