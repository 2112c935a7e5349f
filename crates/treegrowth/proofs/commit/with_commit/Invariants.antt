use Rattle.std.proofs.Common.{◌≡◌}
use Rattle.std.specs.Vec.Iter.{into_iter_items}
use Rattle.treenodes.specs.Map.{changes}
use Rattle.treenodes.specs.Sound.{IsTreeOf}
use Rattle.treenodes.specs.History.{KeepsHistory}
use Rattle.treegrowth.specs.Commit.{put_each}
use Rattle.treegrowth.specs.Places.{SplitsOverfull}
use Rattle.treegrowth.proofs.CommitDue.{IsDue}
use Rattle.treegrowth.proofs.commit.with_commit.Given as goal

abbrev pub invariant-loop-event : goal.invariant-loop-event
invariant-loop-event l = record {
  kept : IsTreeOf l.nodes (changes l.nodes);
  due : IsDue (changes l.nodes) l.last l.instant (into_iter_items l.event-iterator);
  to_come : put_each (into_iter_items l.event-iterator) (changes l.nodes) ≡ put_each l.fn.events.items (changes l.fn.nodes);
  history : KeepsHistory l.fn.nodes l.nodes;
  splits : SplitsOverfull l.fn.events.items (into_iter_items l.event-iterator) l.fn.nodes l.nodes;
}
