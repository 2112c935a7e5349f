use Rattle.std.proofs.Common.{sym, subst}
use Rattle.std.specs.List.Sorted.{IsStrictlySortedBy}
use Rattle.values.specs.Events.{event_cmp, put_net}
use Rattle.eventlist.proofs.PlaceOrder.{sorted_none}
use Rattle.staging.proofs.keyed_net.events_of.Goals as goal

pub loop-change-init : goal.loop-change-init
loop-change-init c = record {
  to_come = λ i. put_net c.args.instant (c.into_iter-change-iterator.ensures.into_iter_gives.0 i) (c.requires.empty i);
  sorted = subst (IsStrictlySortedBy event_cmp) (sym c.requires.empty) (sorted_none event_cmp);
}
