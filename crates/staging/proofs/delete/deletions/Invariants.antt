use Rattle.std.proofs.Common.{◌≡◌}
use Rattle.staging.specs.Staged.{deletions}
use Rattle.staging.proofs.delete.deletions.Given as goal

abbrev pub invariant-loop-key : goal.invariant-loop-key
invariant-loop-key l = l.changes.items ≡ deletions l.yielded
