use Rattle.std.proofs.Common.{◌<◌, ◌∙◌, List, sym, ap, subst}
use Rattle.std.specs.List.Sorted.{IsStrictlySortedBy}
use Rattle.values.specs.Event.{Event}
use Rattle.values.specs.Events.{event_cmp}
use Rattle.eventlist.specs.Place.{AreFirst}
use Rattle.eventlist.specs.KeyGroup.{first_key, AreOfKey}
use Rattle.eventlist.proofs.ListingRanges.{not_above}
use Rattle.eventlist.proofs.PlaceParts.{sorted_take, sorted_drop}
use Rattle.eventlist.proofs.KeyGroupJumps.{first_is, one_key_is, some_first}
use Rattle.eventlist.proofs.key_group.split_first_key.Goals as goal

parted : (c : goal.After-split_at) → AreFirst (not_above (first_key c.args.events.now)) c.args.events.now c.end_of_key.result
parted c =
    subst (λ (key : List _). AreFirst (not_above key) c.args.events.now c.end_of_key.result)
    (c.key-key.ensures.is ∙ ap (λ (e : Event). e.key) c.event.ensures ∙ first_is c.args.events.now c.index-events-0.result c.requires.some c.index-events-0.is)
    c.end_of_key.ensures.first

pub returns-clause-some : goal.returns-clause-some
returns-clause-some c = subst (λ n. 0 < n) (sym c.split_at.ensures.front_len) (some_first c.args.events.now c.end_of_key.result c.requires.some (parted c))

pub returns-clause-one_key : goal.returns-clause-one_key
returns-clause-one_key c = subst (AreOfKey (first_key c.args.events.now)) (sym c.split_at.ensures.front) (one_key_is c.args.events.now c.end_of_key.result c.requires.sorted c.end_of_key.ensures.bound (parted c))

pub returns-clause-front_sorted : goal.returns-clause-front_sorted
returns-clause-front_sorted c = subst (IsStrictlySortedBy event_cmp) (sym c.split_at.ensures.front) (sorted_take event_cmp c.args.events.now c.end_of_key.result c.requires.sorted)

pub returns-clause-back_sorted : goal.returns-clause-back_sorted
returns-clause-back_sorted c = subst (IsStrictlySortedBy event_cmp) (sym c.split_at.ensures.back) (sorted_drop event_cmp c.args.events.now c.end_of_key.result c.requires.sorted)
