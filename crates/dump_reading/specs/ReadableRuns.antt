-- What a served run leaves can be read again.
use Rattle.std.specs.Prelude.{◌≡◌, ℕ, List}
use Rattle.std.specs.List.{AllByRecursion}
use Rattle.values.specs.Log.{Row}
use Rattle.values.specs.Tables.{Schema}
use Rattle.histories.specs.History.{History, schema_after}
use Rattle.serving.specs.book.Book.{BookState}
use Rattle.runs.specs.Event.{Event, history_after}
use Rattle.runs.specs.OneHistory.{Dialogue, OneHistory}
use Rattle.statement.specs.GrammarLaw.{ArePlain}
use Rattle.dump_reading.specs.ReadableHistories.{IsReadableHistory}

-- what it leaves after a history is of readable steps, where that is and the rows that were loaded can be
-- printed
abbrev pub ServedRunsLeaveReadable : Type 0
ServedRunsLeaveReadable =
    (first : Schema) (before : History) (most : ℕ) (b : BookState) (table : ℕ) (rows : List Row)
    (dialogues : List Dialogue) (events : List Event)
    → OneHistory first before most b table rows dialogues events → AllByRecursion ArePlain rows
    → IsReadableHistory before → IsReadableHistory (history_after before events)

-- and no session adds a column
abbrev pub ServedRunsKeepTables : Type 0
ServedRunsKeepTables =
    (first : Schema) (before : History) (most : ℕ) (b : BookState) (table : ℕ) (rows : List Row)
    (dialogues : List Dialogue) (events : List Event)
    → OneHistory first before most b table rows dialogues events
    → schema_after first (history_after before events) ≡ schema_after first before
