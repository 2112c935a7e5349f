use Rattle.std.proofs.Common.{◌≡◌, ◌++◌, drop}
use Rattle.csv.specs.Records.{fields_of}
use Rattle.interchange.specs.Load.{column_list}
use Rattle.interchange.proofs.load.column_list.Given as goal

abbrev pub invariant-loop-i : goal.invariant-loop-i
invariant-loop-i l = l.columns.items ++ column_list l.table (drop l.i (fields_of l.header)) ≡ column_list l.table (fields_of l.header)
