use Rattle.std.proofs.Common.{◌≤◌, ◌∙◌, List, take, length, ap, sym, subst}
use Rattle.std.specs.List.Sorted.{IsStrictlySortedBy}
use Rattle.values.specs.Event.{Event}
use Rattle.values.specs.Events.{event_cmp}
use Rattle.keyrange.specs.Range.{is_before_end}
use Rattle.eventlist.specs.Place.{AreFirst}
use Rattle.eventlist.proofs.PlaceParts.{sorted_drop, sorted_take}
use Rattle.eventlist.proofs.RangeEvents.{of_range_is}
use Rattle.eventlist.proofs.range.of_range.Goals as goal

pub place_of_end-requires : goal.place_of_end-requires
place_of_end-requires c =
    subst (IsStrictlySortedBy event_cmp) (sym c.split_at.ensures.back) (sorted_drop event_cmp c.args.events.now c.place_of_key.result c.requires)

pub returns-clause-are : goal.returns-clause-are
returns-clause-are c =
    c.split_at-2.ensures.front
    ∙ ap (take c.place_of_end.result) c.split_at.ensures.back
    ∙ of_range_is c.args.events.now c.args.range.now c.place_of_key.result c.place_of_end.result c.place_of_key.ensures.bound c.place_of_key.ensures.first
    (subst (λ l. c.place_of_end.result ≤ length l) c.split_at.ensures.back c.place_of_end.ensures.bound)
    (subst (λ (l : List Event). AreFirst (λ e. is_before_end e.key c.args.range.now.hi) l c.place_of_end.result) c.split_at.ensures.back c.place_of_end.ensures.first)

pub returns-clause-sorted : goal.returns-clause-sorted
returns-clause-sorted c =
    subst (IsStrictlySortedBy event_cmp) (sym c.split_at-2.ensures.front) (sorted_take event_cmp c.split_at.result.1.now c.place_of_end.result (subst (IsStrictlySortedBy event_cmp) (sym c.split_at.ensures.back) (sorted_drop event_cmp c.args.events.now c.place_of_key.result c.requires)))
