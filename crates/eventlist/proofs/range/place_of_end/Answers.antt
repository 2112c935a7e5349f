use Rattle.std.proofs.Common.{subst, sym}
use Rattle.std.specs.List.Sorted.{IsStrictlySortedBy}
use Rattle.values.specs.Events.{event_cmp}
use Rattle.eventlist.proofs.PlaceParts.{sorted_take}
use Rattle.eventlist.proofs.range.place_of_end.Goals as goal

pub place_of_key-requires : goal.place_of_key-requires
place_of_key-requires c = subst (IsStrictlySortedBy event_cmp) (sym c.split_at.ensures.front) (sorted_take event_cmp c.args.events.now c.reach_below.result c.requires)
