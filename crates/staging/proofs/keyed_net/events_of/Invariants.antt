use Rattle.std.proofs.Common.{◌≡◌, []}
use Rattle.std.specs.Vec.Iter.{into_iter_items}
use Rattle.std.specs.List.Sorted.{IsStrictlySortedBy}
use Rattle.values.specs.Events.{event_cmp, put_net}
use Rattle.staging.proofs.keyed_net.events_of.Given as goal

abbrev pub invariant-loop-change : goal.invariant-loop-change
invariant-loop-change l = record {
  to_come : put_net l.instant (into_iter_items l.change-iterator) l.events.items ≡ put_net l.instant l.fn.changes.items [];
  sorted : IsStrictlySortedBy event_cmp l.events.items;
}
