use Rattle.std.proofs.Common.{◌≡◌}
use Rattle.values.specs.Writes.{full_rows}
use Rattle.staging.specs.Staged.{updates}
use Rattle.staging.proofs.update.updates.Given as goal

abbrev pub invariant-loop-key : goal.invariant-loop-key
invariant-loop-key l = l.changes.items ≡ updates l.sets (full_rows l.table l.yielded)
