-- The columns that were added, each before the first row that has it.
use Rattle.std.specs.Prelude.{ℕ, ◌-◌, List, [], ◌∷◌, ◌++◌, Option, Some, None, length, map, drop, take, max, slice_set}
use Rattle.std.specs.List.{flat_map, slice_get}
use Rattle.std.specs.Option.{unwrap_or}
use Rattle.values.specs.declared.key.Key.{Key}
use Rattle.values.specs.declared.table.Table.{Table}
use Rattle.values.specs.Tables.{Schema, table_at}
use Rattle.values.specs.Log.{Net, Row}
use Rattle.steps.specs.declared.step.Step.{Step}
use Rattle.steps.specs.declared.step.Step.TheVariants.{AddColumn}

-- how many columns each table has, in the order of their numbers
abbrev pub Widths : Type 0
Widths = List ℕ

abbrev pub widths_of : Schema → Widths
widths_of schema = map (λ table. length table.columns) schema.tables

abbrev pub width_at : Widths → ℕ → ℕ
width_at w number = unwrap_or (slice_get w (number - 1)) 0

-- the steps that add a table's columns from one width up to another
abbrev pub additions : Table → (from to : ℕ) → List Step
additions table from to =
    map (λ c. AddColumn 1 table.number c.name c.of) (drop from (take to table.columns))

-- the widths where a key's row is there
abbrev pub wider : Widths → Key → Option Row → Widths
wider w key None = w
wider w key (Some row) = slice_set w (key.table - 1) (max (width_at w key.table) (length row))

abbrev pub widths_after : Widths → Net → Widths
widths_after w [] = w
widths_after w (c ∷ net) = widths_after (wider w c.0 c.1) net

module _ (tables : Schema) where
  -- the columns that a row has and its table has not
  abbrev pub widening : Widths → Key → Option Row → List Step
  widening w key None = []
  widening w key (Some row) = elim (table_at tables key.table) [
    | None ↦ []
    | Some table ↦ additions table (width_at w key.table) (length row)
  ]

  abbrev pub widen_all : Widths → Net → List Step
  widen_all w [] = []
  widen_all w (c ∷ net) = widening w c.0 c.1 ++ widen_all (wider w c.0 c.1) net

  -- those that no row has
  abbrev pub last_additions : Widths → List Step
  last_additions w =
      flat_map (λ table. additions table (width_at w table.number) (length table.columns)) tables.tables
