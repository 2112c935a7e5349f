use Rattle.std.proofs.Common.{◌≡◌}
use Rattle.values.specs.Writes.{full_rows}
use Rattle.staging.specs.Staged.{overlap_rows}
use Rattle.staging.proofs.portion.Portion.taken.Given as goal

abbrev pub invariant-loop-key : goal.invariant-loop-key
invariant-loop-key l =
    l.rows.items ≡ full_rows l.self.table.now (overlap_rows l.self.period.now l.self.span l.yielded)
