use Rattle.std.proofs.Common.{◌≡◌, ◌++◌, [], drop, map}
use Rattle.csv.specs.Records.{fields_of, partial_of}
use Rattle.interchange.specs.Version.{field_of}
use Rattle.interchange.proofs.version.print_row.Given as goal

abbrev pub invariant-loop-value : goal.invariant-loop-value
invariant-loop-value l = record {
  fields : fields_of l.fields ++ map field_of (drop l.value-index l.row) ≡ fields_of l.fn.fields ++ map field_of l.row;
  whole : partial_of l.fields ≡ [];
}
