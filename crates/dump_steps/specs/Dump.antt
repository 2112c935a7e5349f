-- The steps of a dump: a history that leaves a log, over the tables that came first.
use Rattle.std.specs.Prelude.{ℕ, List, [], ◌∷◌, ◌++◌, Option, Some, None, Bool, is_some, if◌then◌else◌}
use Rattle.std.specs.List.{flat_map}
use Rattle.values.specs.declared.key.Key.{Key}
use Rattle.values.specs.declared.key.Transaction.{Transaction}
use Rattle.values.specs.declared.query.Comparison.{Comparison}
use Rattle.values.specs.declared.query.Keys.{Keys}
use Rattle.values.specs.declared.query.Operator.TheVariants.{Equal}
use Rattle.values.specs.declared.table.Table.{Table}
use Rattle.values.specs.declared.value.Value.{Value}
use Rattle.values.specs.Tables.{Schema, table_at}
use Rattle.values.specs.Log.{Log, Net, Row, State, last, row_at, state}
use Rattle.steps.specs.declared.step.Step.{Step}
use Rattle.steps.specs.declared.step.Step.TheVariants.{Begin, Insert, Delete, Commit}
use Rattle.dump_steps.specs.Pieces.{cut_short, settings}
use Rattle.dump_steps.specs.Widths.{Widths, last_additions, widen_all, widths_after, widths_of}

-- the comparisons that take one key: each of its columns has the key's value
abbrev pub comparisons_of : List ℕ → List Value → List Comparison
comparisons_of [] values = []
comparisons_of (c ∷ columns) [] = []
comparisons_of (c ∷ columns) (v ∷ values) =
    record { column = c; operator = Equal; value = v } ∷ comparisons_of columns values

abbrev pub keys_of : Table → Key → Keys
keys_of table key =
    record { table = table.number; comparisons = comparisons_of table.key key.parts }

-- tables with all their columns, and which rows have a line that is too long
module _ (tables : Schema) (is_long : Table → Row → Bool) where
  abbrev pub in_table : Key → (Table → List Step) → List Step
  in_table key steps = elim (table_at tables key.table) [ None ↦ [] | Some table ↦ steps table ]

  -- a key that had a row is deleted, by the rows that the transaction saw
  abbrev pub delete : State → Key → List Step
  delete m key =
      if is_some (row_at m key) then in_table key (λ table. Delete 1 (keys_of table key) ∷ []) else []

  abbrev pub row_steps : Table → Key → Row → List Step
  row_steps table key row =
      if is_long table row
      then Insert 1 table.number (cut_short table 1 row ∷ []) ∷ settings table (keys_of table key) 1 row
      else Insert 1 table.number (row ∷ []) ∷ []

  -- the row that it has then is inserted
  abbrev pub insert : Key → Option Row → List Step
  insert key None = []
  insert key (Some row) = in_table key (λ table. row_steps table key row)

  -- all deletions come before all insertions
  abbrev pub write_steps : State → Net → List Step
  write_steps m net = flat_map (λ c. delete m c.0) net ++ flat_map (λ c. insert c.0 c.1) net

  abbrev pub transaction_steps : State → Transaction → List Step
  transaction_steps m t = Begin 1 ∷ write_steps m t.net ++ Commit 1 t.instant ∷ []

  -- the transactions behind those that were done
  abbrev pub dump_from : Widths → (done rest : Log) → List Step
  dump_from w done [] = last_additions tables w
  dump_from w done (t ∷ rest) =
      widen_all tables w t.net
      ++ (transaction_steps (state done (last done)) t
      ++ dump_from (widths_after w t.net) (done ++ t ∷ []) rest)

-- of all transactions, over the first tables
abbrev pub dump_steps : (Table → Row → Bool) → (first last : Schema) → Log → List Step
dump_steps is_long first last log = dump_from last is_long (widths_of first) [] log
