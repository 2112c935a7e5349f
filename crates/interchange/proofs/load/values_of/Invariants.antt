use Rattle.std.proofs.Common.{◌≡◌, ◌+◌, [], drop}
use Rattle.csv.specs.Records.{fields_of}
use Rattle.interchange.specs.Load.{values_from}
use Rattle.interchange.proofs.load.values_of.Given as goal

abbrev pub invariant-loop-i : goal.invariant-loop-i
invariant-loop-i l = values_from l.columns (fields_of l.fields) l.values.items (l.i + 1) (drop l.i l.table.columns) ≡ values_from l.columns (fields_of l.fields) [] 1 l.table.columns
