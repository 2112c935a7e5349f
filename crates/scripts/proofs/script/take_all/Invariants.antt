use Rattle.std.specs.Vec.Iter.{into_iter_items}
use Rattle.scripts.proofs.ScriptLeading.{Leading}
use Rattle.scripts.proofs.script.take_all.Given as goal

abbrev pub invariant-loop-step : goal.invariant-loop-step
invariant-loop-step l = Leading l.fn.system l.system l.fn.first.items (into_iter_items l.step-iterator)
