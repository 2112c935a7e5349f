use Rattle.std.proofs.Common.{◌≡◌, ◌++◌, [], drop, map}
use Rattle.csv.specs.Records.{fields_of, partial_of}
use Rattle.interchange.proofs.version.print_names.Given as goal

abbrev pub invariant-loop-column : goal.invariant-loop-column
invariant-loop-column l = record {
  fields : fields_of l.fields ++ map (λ column. column.name) (drop l.column-index l.table.columns) ≡ fields_of l.fn.fields ++ map (λ column. column.name) l.table.columns;
  whole : partial_of l.fields ≡ [];
}
