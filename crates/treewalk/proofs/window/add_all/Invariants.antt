use Rattle.std.proofs.Common.{◌≡◌, ◌++◌, drop}
use Rattle.treewalk.proofs.window.add_all.Given as goal

abbrev pub invariant-loop-event : goal.invariant-loop-event
invariant-loop-event l = l.found.items ++ drop l.event-index l.events ≡ l.fn.found.items ++ l.events
