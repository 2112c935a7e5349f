use Rattle.std.proofs.Common.{◌≡◌}
use Rattle.values.specs.Writes.{overlapping}
use Rattle.staging.specs.Own.{WhenRead, rows_seen}
use Rattle.staging.specs.Staged.{AreRead}
use Rattle.staging.proofs.OverlapSeen.{overlap_at}
use Rattle.staging.proofs.staged.Staged.first_overlap.Given as goal

abbrev pub invariant-loop-i : goal.invariant-loop-i
invariant-loop-i l = record {
  found : WhenRead l.table l.view l.self (λ schema m.
      overlap_at l.table l.period (rows_seen m l.self) l.rows l.i ≡ overlapping l.table l.rows (rows_seen m l.self));
  read : WhenRead l.table l.view l.self (λ schema m. AreRead l.period (rows_seen m l.self) l.read);
}
