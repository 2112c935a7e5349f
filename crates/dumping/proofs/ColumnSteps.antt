-- The lines that add columns are those of the steps.
use Rattle.std.proofs.Common.{◌≡◌, ℕ, List, [], ◌∷◌, ◌++◌, Option, None, Some, refl, ap, ◌∙◌, append_assoc, map}
use Rattle.std.specs.List.{flat_map}
use Rattle.values.specs.declared.table.Column.{Column}
use Rattle.values.specs.declared.table.Table.{Table}
use Rattle.values.specs.Tables.{Schema, table_at}
use Rattle.steps.specs.declared.step.Step.TheVariants.{AddColumn}
use Rattle.statement.specs.Print.{line}
use Rattle.dump_steps.specs.Widths.{additions}
use Rattle.dumping.specs.Column.{column_line, columns_between, columns_text}
use Rattle.dumping.specs.DumpText.{addition_text, steps_text}

-- a table is found by its number
pub found : (text : Table → List ℕ) (table : Table) (o : Option Table) → o ≡ Some table → (elim o [ None ↦ [] | Some t ↦ text t ]) ≡ text table
found text table o e = ap (λ (p : Option Table). elim p [ None ↦ [] | Some t ↦ text t ]) e

column_line_is : (table : Table) (column : Column) → line (addition_text table column.name column.of) ≡ column_line table column
column_line_is table column = simp append_assoc

pub column_steps : (tables : Schema) (table : Table) → table_at tables table.number ≡ Some table → (columns : List Column)
    → steps_text tables (map (λ c. AddColumn 1 table.number c.name c.of) columns) ≡ flat_map (column_line table) columns
column_steps tables table here [] = refl
column_steps tables table here (c ∷ columns) =
    ap (λ l. l ++ steps_text tables (map (λ c. AddColumn 1 table.number c.name c.of) columns))
    (found (λ t. line (addition_text t c.name c.of)) table (table_at tables table.number) here ∙ column_line_is table c)
    ∙ ap (λ l. column_line table c ++ l) (column_steps tables table here columns)

pub addition_steps : (tables : Schema) (table : Table) → table_at tables table.number ≡ Some table → (from to : ℕ) → steps_text tables (additions table from to) ≡ columns_text table from to
addition_steps tables table here from to = column_steps tables table here (columns_between table from to)
