-- A row whose line would be too long: its texts are set by statements of their own.
use Rattle.std.specs.Prelude.{ℕ, ◌+◌, List, [], ◌∷◌, ◌++◌, Option, Some, None, Bool, false, not, if◌then◌else◌}
use Rattle.values.specs.declared.value.Value.{Value}
use Rattle.values.specs.declared.value.Value.TheVariants.{Text, Null}
use Rattle.values.specs.declared.query.Keys.{Keys}
use Rattle.values.specs.declared.table.Column.{Column}
use Rattle.values.specs.declared.table.Table.{Table}
use Rattle.values.specs.Tables.{column_at, is_fixed_column}
use Rattle.values.specs.Log.{Row}
use Rattle.steps.specs.declared.step.Step.{Step}
use Rattle.steps.specs.declared.step.Step.TheVariants.{Update}

-- a text that a statement may set
abbrev pub is_set_apart : Table → ℕ → Value → Bool
is_set_apart table column (Text text) = not (is_fixed_column table column)
is_set_apart table column value = false

-- what stands for it before: NULL, or the empty text where NULL may not be
abbrev pub stand_in : Option Column → Value
stand_in None = Null
stand_in (Some column) = if column.not_null then Text [] else Null

module _ (table : Table) where
  -- the values of a row from a column on, with what stands for such texts
  abbrev pub cut_short : ℕ → Row → Row
  cut_short column [] = []
  cut_short column (v ∷ row) =
      (if is_set_apart table column v then stand_in (column_at table column) else v)
      ∷ cut_short (column + 1) row

  -- the statements that set them
  abbrev pub settings : Keys → ℕ → Row → List Step
  settings keys column [] = []
  settings keys column (v ∷ row) =
      (if is_set_apart table column v
      then Update 1 keys (record { column = column; value = v } ∷ []) ∷ [] else [])
      ++ settings keys (column + 1) row
