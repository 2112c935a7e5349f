use Rattle.treegrowth.specs.Commit.{IsCommit}
use Rattle.tree_tests.proofs.treegrowth_tests.rows.Given as goal

abbrev pub invariant-loop-number : goal.invariant-loop-number
invariant-loop-number g l = IsCommit l.at l.events.items
