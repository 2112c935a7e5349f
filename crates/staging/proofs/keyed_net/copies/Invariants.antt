use Rattle.std.proofs.Common.{◌≡◌, ◌++◌, drop}
use Rattle.staging.proofs.keyed_net.copies.Given as goal

abbrev pub invariant-loop-change : goal.invariant-loop-change
invariant-loop-change l = l.copies.items ++ drop l.change-index l.changes ≡ l.changes
