-- The text of a dump is taken as its steps.
use Rattle.std.specs.Prelude.{◌≡◌, List, [], false, true}
use Rattle.std.specs.List.{AllByRecursion}
use Rattle.values.specs.Log.{Log}
use Rattle.values.specs.Tables.{Schema}
use Rattle.steps.specs.declared.step.Step.{Step}
use Rattle.steps.specs.Idle.{is_idle}
use Rattle.steps.specs.Reply.{is_refused}
use Rattle.histories.specs.History.{History, has_open, log, replies, schema_after}
use Rattle.histories.specs.Led.{led}
use Rattle.statement.specs.Line.{line_says}
use Rattle.scripts.specs.Replay.{Replays}
use Rattle.dump_steps.specs.Dump.{dump_steps}
use Rattle.dumping.specs.DumpText.{dump_text, is_long}
use Rattle.dump_reading.specs.Readable.{AreReadableTables, IsReadableLog}
use Rattle.dump_reading.specs.ReadableHistories.{IsReadableHistory, IsReadableSchema}

-- the steps of a dump
abbrev pub steps_of : (first last : Schema) → Log → List Step
steps_of first last log = dump_steps is_long first last log

-- each is taken, from the empty store on
abbrev pub NoneIsRefused : (first last : Schema) → Log → Type 0
NoneIsRefused first last log =
    AllByRecursion (λ r. is_refused r ≡ false) (replies first [] (steps_of first last log))

-- where the steps are taken, so is their text: no line is refused, each is short enough, and what it
-- leaves is the history of the steps
abbrev pub DumpsAreReplayed : Type 0
DumpsAreReplayed =
    (first last : Schema) (log : Log) → AreReadableTables first last → IsReadableLog log
    → NoneIsRefused first last log
    → Replays first line_says [] (dump_text first last log) (led [] (steps_of first last log))

-- what the text of a history's dump leaves
abbrev pub history_again : Schema → History → History
history_again first h = led [] (steps_of first (schema_after first h) (log first h))

-- it is taken, and leaves the history's tables and its transactions, so that whatever steps follow get the
-- same replies as after the history, where that has no transaction open
pub record IsTakenAgain (first : Schema) (h : History) : Type 0 where
  pub replays : Replays first line_says [] (dump_text first (schema_after first h) (log first h))
      (history_again first h)
  pub tables_are : schema_after first (history_again first h) ≡ schema_after first h
  pub log_is : log first (history_again first h) ≡ log first h
  pub goes_on : is_idle (has_open h) ≡ true → (steps : List Step)
      → replies first (history_again first h) steps ≡ replies first h steps

-- so it is of the dump of every history of readable steps over a readable schema
abbrev pub HistoriesAreTakenAgain : Type 0
HistoriesAreTakenAgain =
    (first : Schema) (h : History) → IsReadableSchema first → IsReadableHistory h
    → IsTakenAgain first h
