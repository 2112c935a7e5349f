use Rattle.std.proofs.Common.{◌≡◌}
use Rattle.values.specs.Writes.{full_rows}
use Rattle.staging.proofs.staged.full_rows.Given as goal

abbrev pub invariant-loop-key : goal.invariant-loop-key
invariant-loop-key l = l.rows.items ≡ full_rows l.table l.yielded
