-- The text of a dump: its steps as the lines of a script.
use Rattle.std.specs.Prelude.{ℕ, List, [], ◌∷◌, ◌++◌, Some, None, Bool, length, nat_lt, codes, decimal}
use Rattle.std.specs.List.{flat_map}
use Rattle.values.specs.declared.key.Transaction.{Transaction}
use Rattle.values.specs.declared.query.Comparison.{Comparison}
use Rattle.values.specs.declared.query.Keys.{Keys}
use Rattle.values.specs.declared.query.Set.{Set}
use Rattle.values.specs.declared.table.ColumnType.{ColumnType}
use Rattle.values.specs.declared.table.ColumnType.TheVariants.{Int, Text, Varchar, Boolean}
use Rattle.values.specs.declared.table.Table.{Table}
use Rattle.values.specs.Tables.{Schema, column_at, table_at}
use Rattle.values.specs.Log.{Log, Row, State, last as last_instant, state}
use Rattle.steps.specs.declared.step.Step.{Step}
use Rattle.steps.specs.declared.step.Step.TheVariants.{AddColumn, Begin, Commit, Delete, Insert, Update}
use Rattle.lines.specs.Partial.{longest_line}
use Rattle.statement.specs.Print.{line, numbered, value_text, values_text}
use Rattle.dump_steps.specs.Dump.{transaction_steps}
use Rattle.dump_steps.specs.Widths.{Widths, last_additions, widen_all, widths_after, widths_of}

-- ---- names

abbrev pub column_name : Table → ℕ → List ℕ
column_name table column = elim (column_at table column) [ None ↦ [] | Some c ↦ c.name ]

abbrev pub type_text : ColumnType → List ℕ
type_text Int = codes "INT"
type_text Text = codes "TEXT"
type_text (Varchar n) = codes "VARCHAR(" ++ (decimal n ++ codes ")")
type_text Boolean = codes "BOOLEAN"

-- ---- statements

-- a column and its value
abbrev pub pair_text : Table → Comparison → List ℕ
pair_text table c = column_name table c.column ++ (codes " = " ++ value_text c.value)

abbrev pub next_pair : Table → Comparison → List ℕ
next_pair table c = codes " AND " ++ pair_text table c

abbrev pub where_text : Table → List Comparison → List ℕ
where_text table [] = []
where_text table (c ∷ cs) = codes " WHERE " ++ (pair_text table c ++ flat_map (next_pair table) cs)

abbrev pub set_text : Table → Set → List ℕ
set_text table s = column_name table s.column ++ (codes " = " ++ value_text s.value)

abbrev pub insert_text : Table → Row → List ℕ
insert_text table row =
    codes "1: INSERT INTO " ++ (table.name ++ (codes " VALUES " ++ values_text row))

abbrev pub delete_text : Table → Keys → List ℕ
delete_text table keys =
    codes "1: DELETE FROM " ++ (table.name ++ where_text table keys.comparisons)

abbrev pub update_text : Table → Keys → Set → List ℕ
update_text table keys s =
    codes "1: UPDATE " ++ (table.name ++ (codes " SET " ++ (set_text table s ++ where_text table keys.comparisons)))

abbrev pub addition_text : Table → List ℕ → ColumnType → List ℕ
addition_text table name of =
    codes "1: ALTER TABLE " ++ (table.name ++ (codes " ADD COLUMN " ++ (name ++ (codes " " ++ type_text of))))

-- the line would be longer than a line may be
abbrev pub is_long : Table → Row → Bool
is_long table row = nat_lt longest_line (length (insert_text table row))

-- ---- steps

abbrev pub each_line : {A : Type 0} → (A → List ℕ) → List A → List ℕ
each_line text xs = flat_map (λ x. line (text x)) xs

abbrev pub in_table : Schema → ℕ → (Table → List ℕ) → List ℕ
in_table tables number text = elim (table_at tables number) [ None ↦ [] | Some table ↦ text table ]

-- the lines of a step, by tables that have all columns
abbrev pub step_text : Schema → Step → List ℕ
step_text tables (Begin i) = line (codes "1: BEGIN")
step_text tables (Insert i number rows) =
    in_table tables number (λ table. each_line (insert_text table) rows)
step_text tables (Delete i keys) =
    in_table tables keys.table (λ table. line (delete_text table keys))
step_text tables (Update i keys sets) =
    in_table tables keys.table (λ table. each_line (update_text table keys) sets)
step_text tables (AddColumn i number name of) =
    in_table tables number (λ table. line (addition_text table name of))
step_text tables (Commit i reading) = line (codes "1: COMMIT")
step_text tables step = []

abbrev pub steps_text : Schema → List Step → List ℕ
steps_text tables steps = flat_map (step_text tables) steps

-- ---- transactions

module _ (tables : Schema) where
  -- with the clock's reading before it, which its COMMIT takes
  abbrev pub transaction_text : State → Transaction → List ℕ
  transaction_text m t =
      numbered (codes "clock: ") t.instant ++ steps_text tables (transaction_steps tables is_long m t)

  abbrev pub text_from : Widths → (done rest : Log) → List ℕ
  text_from w done [] = steps_text tables (last_additions tables w)
  text_from w done (t ∷ rest) =
      steps_text tables (widen_all tables w t.net)
      ++ (transaction_text (state done (last_instant done)) t
      ++ text_from (widths_after w t.net) (done ++ t ∷ []) rest)

-- the dump of a log, from the first tables on
abbrev pub dump_text : (first last : Schema) → Log → List ℕ
dump_text first last log = text_from last (widths_of first) [] log
