use Rattle.std.proofs.Common.{◌≡◌, [], drop, map}
use Rattle.csv.specs.Records.{fields_of}
use Rattle.interchange.specs.Load.{rows_from}
use Rattle.interchange.proofs.load.rows_from.Given as goal

abbrev pub invariant-loop-fields : goal.invariant-loop-fields
invariant-loop-fields l = rows_from l.table l.columns l.rows.items (map fields_of (drop l.fields-index l.records)) ≡ rows_from l.table l.columns [] (map fields_of l.records)
