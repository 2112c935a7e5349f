use Rattle.std.proofs.Common.{◌≤◌, List, length, subst, sym}
use Rattle.std.specs.List.Sorted.{IsStrictlySortedBy}
use Rattle.values.specs.Event.{Event}
use Rattle.values.specs.Events.{event_cmp}
use Rattle.eventlist.specs.Place.{AreFirst}
use Rattle.eventlist.proofs.ListingRanges.{not_above}
use Rattle.eventlist.proofs.PlaceParts.{sorted_take}
use Rattle.eventlist.proofs.KeyGroupJumps.{first_within}
use Rattle.eventlist.proofs.key_group.end_of_key.Goals as goal

pub place_behind_key-requires : goal.place_behind_key-requires
place_behind_key-requires c = subst (IsStrictlySortedBy event_cmp) (sym c.split_at.ensures.front) (sorted_take event_cmp c.args.events.now c.reach_of-reach.result c.requires)

pub returns-clause-first : goal.returns-clause-first
returns-clause-first c =
    first_within (not_above c.args.key.now) c.args.events.now c.reach_of-reach.result c.place_behind_key.result c.reach_of-reach.ensures.bound
    (subst (λ l. c.place_behind_key.result ≤ length l) c.split_at.ensures.front c.place_behind_key.ensures.bound)
    c.reach_of-reach.ensures.none
    (subst (λ (l : List Event). AreFirst (not_above c.args.key.now) l c.place_behind_key.result) c.split_at.ensures.front c.place_behind_key.ensures.first)
