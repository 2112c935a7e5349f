use Rattle.std.proofs.Common.{◌≤◌, ◌∙◌, List, ap, drop, take, length, subst, sym}
use Rattle.std.specs.List.Sorted.{IsStrictlySortedBy}
use Rattle.values.specs.Event.{Event}
use Rattle.values.specs.Events.{event_cmp}
use Rattle.eventlist.specs.Place.{AreFirst, is_until}
use Rattle.eventlist.proofs.NearbyBounds.{first_between}
use Rattle.eventlist.proofs.PlaceParts.{sorted_take, sorted_drop}
use Rattle.eventlist.proofs.nearby.place_from.Goals as goal

pub place_after-requires : goal.place_after-requires
place_after-requires c =
    let part = c.split_at-2.ensures.back ∙ ap (drop c.bounds_around-low.result.0) c.split_at.ensures.front in
    subst (IsStrictlySortedBy event_cmp) (sym part) (sorted_drop event_cmp (take c.bounds_around-low.result.1 c.args.events.now) c.bounds_around-low.result.0 (sorted_take event_cmp c.args.events.now c.bounds_around-low.result.1 c.requires))

pub returns-clause-first : goal.returns-clause-first
returns-clause-first c =
    let part = c.split_at-2.ensures.back ∙ ap (drop c.bounds_around-low.result.0) c.split_at.ensures.front in
    first_between c.args.key.now c.args.instant c.args.events.now c.bounds_around-low.result.0 c.bounds_around-low.result.1 c.place_after.result c.bounds_around-low.ensures
    (subst (λ l. c.place_after.result ≤ length l) part c.place_after.ensures.bound)
    (subst (λ (l : List Event). AreFirst (is_until c.args.key.now c.args.instant) l c.place_after.result) part c.place_after.ensures.first)
