-- A worked dump: a row that is inserted, that gets another name and a column more, and that is deleted.
use Rattle.std.specs.Prelude.{◌≡◌, ◌≢◌, ℕ, List, [], ◌∷◌, Some, None, Err, codes, false, pos}
use Rattle.std.specs.List.{flat_map}
use Rattle.values.specs.declared.key.Key.{Key}
use Rattle.values.specs.declared.refusal.Refusal.TheVariants.{Syntax}
use Rattle.values.specs.declared.table.ColumnType.TheVariants.{Int as IsInt}
use Rattle.values.specs.declared.value.Value.TheVariants.{Int, Text}
use Rattle.values.specs.Columns.{add_column}
use Rattle.values.specs.Log.{Log}
use Rattle.values.specs.Sample.{sample}
use Rattle.values.specs.Tables.{Schema}
use Rattle.histories.specs.History.{History, log, schema_after}
use Rattle.histories.specs.Led.{led}
use Rattle.statement.specs.Line.{line_says}
use Rattle.statement.specs.Print.{line}
use Rattle.scripts.specs.Replay.{Replays, replay_of}
use Rattle.dumping.specs.DumpText.{dump_text}
use Rattle.dump_reading.specs.Replayed.{steps_of}

-- employees, and then with their ages
abbrev pub with_ages : Schema
with_ages = add_column 1 (record { name = codes "age"; of = IsInt; not_null = false }) sample

abbrev pub first_key : Key
first_key = record { table = 1; parts = Int (pos 1) ∷ [] }

-- the last transaction at an instant
abbrev pub log_until : ℕ → Log
log_until instant =
    record { instant = 100; net = (first_key, Some (Int (pos 1) ∷ Text (codes "Ann") ∷ [])) ∷ [] }
    ∷ record { instant = 200; net = (first_key, Some (Int (pos 1) ∷ Text (codes "O'Hara") ∷ Int (pos 44) ∷ [])) ∷ [] }
    ∷ record { instant = instant; net = (first_key, None) ∷ [] } ∷ []

abbrev pub worked_log : Log
worked_log = log_until 201

-- the text with these lines for the first BEGIN and the last clock
abbrev pub text_with : (begin clock : List ℕ) → List ℕ
text_with begin clock =
    flat_map line
    (codes "clock: 100"
    ∷ begin
    ∷ codes "1: INSERT INTO emp VALUES (1, 'Ann')"
    ∷ codes "1: COMMIT"
    ∷ codes "1: ALTER TABLE emp ADD COLUMN age INT"
    ∷ codes "clock: 200"
    ∷ codes "1: BEGIN"
    ∷ codes "1: DELETE FROM emp WHERE no = 1"
    ∷ codes "1: INSERT INTO emp VALUES (1, 'O''Hara', 44)"
    ∷ codes "1: COMMIT"
    ∷ clock
    ∷ codes "1: BEGIN"
    ∷ codes "1: DELETE FROM emp WHERE no = 1"
    ∷ codes "1: COMMIT" ∷ [])

abbrev pub worked_text : List ℕ
worked_text = text_with (codes "1: BEGIN") (codes "clock: 201")

abbrev pub history_until : ℕ → History
history_until instant = led [] (steps_of sample with_ages (log_until instant))

-- it is the dump of the log
abbrev pub WorkedTextIsTheDump : Type 0
WorkedTextIsTheDump = dump_text sample with_ages worked_log ≡ worked_text

-- it is taken, and leaves the log and the tables
pub record WorkedTextIsReplayed : Type 0 where
  pub replays : Replays sample line_says [] worked_text (history_until 201)
  pub log_is : log sample (history_until 201) ≡ worked_log
  pub tables_are : schema_after sample (history_until 201) ≡ with_ages

-- with another digit of a clock's reading it leaves another log
pub record ChangedTextLeavesAnother : Type 0 where
  pub replays : Replays sample line_says [] (text_with (codes "1: BEGIN") (codes "clock: 301")) (history_until 301)
  pub differs : log sample (history_until 301) ≢ worked_log

-- with another letter of a word its second line is refused
abbrev pub BrokenTextIsRefused : Type 0
BrokenTextIsRefused =
    replay_of sample line_says 0 [] (text_with (codes "1: BEGUN") (codes "clock: 201")) ≡ Err (2, Syntax 3)
