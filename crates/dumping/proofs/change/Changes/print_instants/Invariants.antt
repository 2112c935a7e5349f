use Rattle.std.proofs.Common.{ℕ, List, length}
use Rattle.dumping.specs.History.{AreRuns}
use Rattle.dumping.proofs.HistoryRuns.{HasCome}
use Rattle.dumping.proofs.change.Changes.print_instants.Given as goal

abbrev pub invariant-loop-place : goal.invariant-loop-place
invariant-loop-place g l =
    (instants : List ℕ) → AreRuns l.self.events.now instants l.places
    → HasCome l.self.tables.now l.self.events.now instants (g.W.Write.contents l.fn.writer) (g.W.Write.contents l.writer) l.fn.widths l.widths l.rest

abbrev pub decreases-loop-place : goal.decreases-loop-place
decreases-loop-place g l = length l.rest
