-- Every history is left again by the steps of its dump.
use Rattle.std.specs.Prelude.{◌≡◌, List, [], Bool, true, false}
use Rattle.std.specs.List.{AllByRecursion}
use Rattle.values.specs.declared.table.Table.{Table}
use Rattle.values.specs.Tables.{Schema}
use Rattle.values.specs.TableRules.{AreTables}
use Rattle.values.specs.Log.{Log, Row}
use Rattle.steps.specs.declared.step.Step.{Step}
use Rattle.steps.specs.Idle.{is_idle}
use Rattle.steps.specs.Reply.{is_refused}
use Rattle.histories.specs.History.{History, has_open, schema_after, log, replies}
use Rattle.histories.specs.Led.{led}
use Rattle.dump_steps.specs.Dump.{dump_steps}

-- a history of these tables, with this log and no transaction open
pub record HasComeTo (first schema : Schema) (h : History) (l : Log) : Type 0 where
  pub tables_are : schema_after first h ≡ schema
  pub log_is : log first h ≡ l
  pub idle : is_idle (has_open h) ≡ true

-- the steps of a history's dump, by which rows have a line that is too long
abbrev pub dump_of : (Table → Row → Bool) → Schema → History → List Step
dump_of is_long first h = dump_steps is_long first (schema_after first h) (log first h)

-- over the first tables they come to the history's tables and its log, with no transaction open, and
-- none of them is refused
abbrev pub HistoriesAreDumped : Type 0
HistoriesAreDumped =
    (is_long : Table → Row → Bool) (first : Schema) (h : History) → AreTables 1 first.tables
    → HasComeTo first (schema_after first h) (led [] (dump_of is_long first h)) (log first h)
    × AllByRecursion (λ r. is_refused r ≡ false) (replies first [] (dump_of is_long first h))

-- so where the history has no transaction open, whatever steps follow get the same replies after its dump
abbrev pub DumpsAnswerAlike : Type 0
DumpsAnswerAlike =
    (is_long : Table → Row → Bool) (first : Schema) (h : History) (steps : List Step)
    → AreTables 1 first.tables → is_idle (has_open h) ≡ true
    → replies first (led [] (dump_of is_long first h)) steps ≡ replies first h steps
