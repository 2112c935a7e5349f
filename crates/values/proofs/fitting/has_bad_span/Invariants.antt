use Rattle.std.proofs.Common.{◌≡◌, Some, drop}
use Rattle.values.specs.Write.{has_bad_span}
use Rattle.values.proofs.fitting.has_bad_span.Given as goal

abbrev pub invariant-loop-row : goal.invariant-loop-row
invariant-loop-row l =
    has_bad_span (Some l.period) (drop l.row-index l.rows) ≡ has_bad_span (Some l.period) l.rows
