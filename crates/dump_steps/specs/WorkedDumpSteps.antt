-- A worked dump: a column is added between two transactions, a row is written in pieces, a row is
-- removed last, and a column that no row has is added at the end.
use Rattle.std.specs.Prelude.{◌≡◌, ◌≢◌, ℕ, Bool, true, false, List, [], ◌∷◌, ◌++◌, Some, None, codes, length, pos, ◌==◌, filter}
use Rattle.std.specs.List.{AllByRecursion, flat_map}
use Rattle.values.specs.declared.key.Key.{Key}
use Rattle.values.specs.declared.query.Keys.{Keys}
use Rattle.values.specs.declared.query.Operator.TheVariants.{Equal}
use Rattle.values.specs.declared.table.ColumnType.TheVariants.{Int as IsInt, Text as IsText}
use Rattle.values.specs.declared.table.Table.{Table}
use Rattle.values.specs.declared.value.Value.TheVariants.{Int, Text, Null}
use Rattle.values.specs.Columns.{add_column, new_column}
use Rattle.values.specs.Sample.{sample}
use Rattle.values.specs.Tables.{Schema}
use Rattle.values.specs.Log.{Log, Row, last, state}
use Rattle.steps.specs.declared.step.Step.{Step}
use Rattle.steps.specs.declared.step.Step.TheVariants.{Begin, Insert, Update, Delete, Commit, AddColumn}
use Rattle.steps.specs.Reply.{is_refused}
use Rattle.histories.specs.History.{log, replies, schema_after}
use Rattle.histories.specs.Led.{led}
use Rattle.dump_steps.specs.Dump.{delete, dump_steps, insert, transaction_steps}
use Rattle.dump_steps.specs.Widths.{Widths, last_additions, widen_all, widths_after, widths_of}

abbrev pub worked_tables : Schema
worked_tables =
    add_column 1 (new_column (codes "room") IsInt)
    (add_column 1 (new_column (codes "city") IsText) sample)

abbrev pub key_of : ℕ → Key
key_of n = record { table = 1; parts = Int (pos n) ∷ [] }

abbrev pub ann : Row
ann = Int (pos 1) ∷ Text (codes "Ann") ∷ []

abbrev pub cy : Row
cy = Int (pos 2) ∷ Text (codes "Cy") ∷ []

abbrev pub bea : Row
bea = Int (pos 1) ∷ Text (codes "Bea") ∷ Text (codes "Oslo") ∷ []

abbrev pub worked_log : Log
worked_log =
    record { instant = 100; net = (key_of 1, Some ann) ∷ (key_of 2, Some cy) ∷ [] }
    ∷ record { instant = 200; net = (key_of 1, Some bea) ∷ [] }
    ∷ record { instant = 201; net = (key_of 2, None) ∷ [] } ∷ []

-- a row with a city is too long for one line
abbrev pub has_city : Table → Row → Bool
has_city table row = length row == 3

abbrev pub worked_dump : List Step
worked_dump = dump_steps has_city sample worked_tables worked_log

abbrev pub one_key : ℕ → Keys
one_key n = record {
  table = 1;
  comparisons = record { column = 1; operator = Equal; value = Int (pos n) } ∷ [];
}

-- its steps
abbrev pub WorkedStepsAre : Type 0
WorkedStepsAre =
    worked_dump
    ≡ Begin 1
    ∷ Insert 1 1 (ann ∷ [])
    ∷ Insert 1 1 (cy ∷ [])
    ∷ Commit 1 100
    ∷ AddColumn 1 1 (codes "city") IsText
    ∷ Begin 1
    ∷ Delete 1 (one_key 1)
    ∷ Insert 1 1 ((Int (pos 1) ∷ Null ∷ Null ∷ []) ∷ [])
    ∷ Update 1 (one_key 1) (record { column = 2; value = Text (codes "Bea") } ∷ [])
    ∷ Update 1 (one_key 1) (record { column = 3; value = Text (codes "Oslo") } ∷ [])
    ∷ Commit 1 200
    ∷ Begin 1
    ∷ Delete 1 (one_key 2)
    ∷ Commit 1 201
    ∷ AddColumn 1 1 (codes "room") IsInt ∷ []

-- they leave the log and the tables, and none is refused
abbrev pub WorkedDumpLeavesItsLog : Type 0
WorkedDumpLeavesItsLog =
    (log sample (led [] worked_dump) ≡ worked_log)
    × (schema_after sample (led [] worked_dump) ≡ worked_tables)
    × AllByRecursion (λ r. is_refused r ≡ false) (replies sample [] worked_dump)

-- columns behind all transactions, as a dump must not have them
abbrev pub late_columns : (done rest : Log) → List Step
late_columns done [] = last_additions worked_tables (widths_of sample)
late_columns done (t ∷ rest) =
    transaction_steps worked_tables has_city (state done (last done)) t
    ++ late_columns (done ++ t ∷ []) rest

abbrev pub LateColumnsLoseARow : Type 0
LateColumnsLoseARow = log sample (led [] (late_columns [] worked_log)) ≢ worked_log

-- insertions before deletions, as a dump must not have them
abbrev pub turned_steps : Widths → (done rest : Log) → List Step
turned_steps w done [] = last_additions worked_tables w
turned_steps w done (t ∷ rest) =
    widen_all worked_tables w t.net
    ++ ((Begin 1 ∷ (flat_map (λ c. insert worked_tables has_city c.0 c.1) t.net
    ++ flat_map (λ c. delete worked_tables has_city (state done (last done)) c.0) t.net)
    ++ Commit 1 t.instant ∷ [])
    ++ turned_steps (widths_after w t.net) (done ++ t ∷ []) rest)

abbrev pub InsertionsFirstLoseARow : Type 0
InsertionsFirstLoseARow =
    log sample (led [] (turned_steps (widths_of sample) [] worked_log)) ≢ worked_log

-- the pieces of a row without its texts
abbrev pub sets_nothing : Step → Bool
sets_nothing (Update i keys sets) = false
sets_nothing step = true

abbrev pub UnsetTextsAreLost : Type 0
UnsetTextsAreLost = log sample (led [] (filter sets_nothing worked_dump)) ≢ worked_log
