use Rattle.std.specs.Vec.Iter.{into_iter_items}
use Rattle.histories.proofs.DueRuns.{Ran}
use Rattle.interleaving.specs.SystemState.{world}
use Rattle.interleaving.proofs.system.System.run.Given as goal

abbrev pub invariant-loop-step : goal.invariant-loop-step
invariant-loop-step l = Ran l.fn.schema l.fn.steps.items (world l.system) l.replies.items (into_iter_items l.step-iterator)
