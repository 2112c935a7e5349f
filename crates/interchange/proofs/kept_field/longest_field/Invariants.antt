use Rattle.std.proofs.Common.{◌≡◌, drop, length, max}
use Rattle.std.specs.List.{fold}
use Rattle.interchange.specs.KeptField.{longest_field}
use Rattle.interchange.proofs.kept_field.longest_field.Given as goal

abbrev pub invariant-loop-column : goal.invariant-loop-column
invariant-loop-column l = fold (λ most column. max most (length column.name)) l.longest (drop l.column-index l.table.columns) ≡ longest_field l.table
