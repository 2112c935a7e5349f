use Rattle.std.proofs.Common.{◌≡◌, Some, drop}
use Rattle.std.specs.List.{list_any}
use Rattle.values.specs.Period.{span_of}
use Rattle.values.specs.Entity.{clash_by}
use Rattle.staging.specs.Staged.{keyed_rows}
use Rattle.staging.proofs.overlap.overlaps_earlier.Given as goal

abbrev pub invariant-loop-i : goal.invariant-loop-i
invariant-loop-i l = record {
  left : list_any (clash_by (Some l.period) (l.key, l.row)) (keyed_rows (drop l.i l.keys) (drop l.i l.rows)) ≡ list_any (clash_by (Some l.period) (l.key, l.row)) (keyed_rows l.keys l.rows);
  span_is : l.span ≡ span_of l.period l.row;
}
