-- One history of a whole run.
use Rattle.std.specs.Prelude.{◌≡◌, ◌≢◌, ◌⊎◌, ℕ, ◌+◌, List, [], ◌∷◌, ◌++◌, Some, length, map, reverse, true}
use Rattle.std.specs.List.{AllByRecursion}
use Rattle.values.specs.Log.{Row}
use Rattle.values.specs.Tables.{Schema}
use Rattle.values.specs.Period.{periods_of}
use Rattle.growlog.specs.Origin.{Origin}
use Rattle.steps.specs.declared.step.Step.TheVariants.{Begin, Insert, Commit}
use Rattle.steps.specs.declared.step.Reply.TheVariants.{Begun, Committed, Inserted}
use Rattle.steps.specs.Misfit.{max_session}
use Rattle.steps.specs.Idle.{is_idle}
use Rattle.histories.specs.History.{History, has_open, log, schema_after}
use Rattle.lines.specs.Partial.{Partial}
use Rattle.serving.specs.journal.Entries.{log_from, numbers}
use Rattle.serving.specs.book.Book.{BookState}
use Rattle.serving.specs.Progress.{Given}
use Rattle.runs.specs.Event.{Event, AreRight, history_after, of_part, receipts_of}
use Rattle.runs.specs.Run.{IsRun, Part}
use Rattle.runs.specs.Tells.{IsBegun, IsPacked, TellsAll}

-- the events of a load: BEGIN, INSERT and COMMIT of session 0
pub record TellsLoad (table : ℕ) (rows : List Row) (events : List Event) : Type 0 where
  pub begun : ℕ
  pub count : ℕ
  pub instant : ℕ
  pub steps : map (λ e. e.step) events ≡ Some (Begin 0, Begun begun)
      ∷ Some (Insert 0 table rows, Inserted count) ∷ Some (Commit 0 0, Committed (Some instant)) ∷ []

abbrev pub TellsLoaded : ℕ → List Row → List Event → Type 0
TellsLoaded table [] events = events ≡ []
TellsLoaded table (row ∷ rows) events = TellsLoad table (row ∷ rows) events

-- the service is the part behind all sessions
abbrev pub service_part : ℕ
service_part = max_session + 1

-- what a session said and was told: its number, and its connections, one after another
pub record Dialogue : Type 0 where
  pub number : ℕ
  pub talks : List (List Partial × List ℕ)

-- a store begins with what a history has come to, and its journal may have so many entries
abbrev pub come_to : Schema → History → ℕ → Origin
come_to first before most = record { schema = schema_after first before; log = log first before; most_entries = most }

-- it does, and no session had a transaction open there
pub record Carries (first : Schema) (before : History) (o : Origin) : Type 0 where
  pub idle : is_idle (has_open before) ≡ true
  pub origin_is : o ≡ come_to first before o.most_entries

-- the events are the journal's entries in their order, and between them the steps that took none;
-- each reply is the history's where its step stands, after those before the run; what was committed is
-- the history's; those of the load come first; and of each session they are those of its connections'
-- lines, in order, by which each was sent its text. There are no others but those of the service, which
-- begins, or packs a node.
pub record OneHistory (first : Schema) (before : History) (most : ℕ) (b : BookState) (table : ℕ) (rows : List Row)
    (dialogues : List Dialogue) (events : List Event) : Type 0 where
  pub entries_are : map (λ g. g.entry) (receipts_of events) ≡ reverse b.entries
  pub numbered : map (λ g. g.number) (receipts_of events) ≡ numbers (length b.entries)
  pub right : AreRight first before events
  pub log_is : log_from (periods_of (schema_after first before)) (log first before) b.entries
      ≡ log first (history_after before events)
  pub loaded : TellsLoaded table rows (of_part 0 events)
  pub loaded_first : (later : List Event) × (events ≡ of_part 0 events ++ later)
  pub sent : AllByRecursion (λ d. TellsAll (schema_after first before) (length b.entries ≡ most) d.number [] d.talks
      (of_part d.number events)) dialogues
  pub service : AllByRecursion (λ e. IsBegun 0 e ⊎ IsPacked e.entry e.step) (of_part service_part events)
  pub no_other : (i : ℕ) → i ≢ 0 → i ≢ service_part → AllByRecursion (λ d. d.number ≢ i) dialogues
      → of_part i events ≡ []

abbrev pub dialogue_of : Part → Dialogue
dialogue_of p = record { number = p.number; talks = map (λ s. (s.lines, s.text)) p.sent }

-- a run whose store closed goes on from the history that it began with, where no session had a
-- transaction open: both are one history
abbrev pub ServedRunsAreHistories : Type 0
ServedRunsAreHistories =
    (first : Schema) (before : History) (o : Origin) (b : BookState) (table : ℕ) (rows : List Row)
    (loaded : List Given) (parts : List Part) (service : List Given)
    → Carries first before o → IsRun o b table rows loaded parts service
    → (events : List Event) × OneHistory first before o.most_entries b table rows
    (map dialogue_of parts) events
