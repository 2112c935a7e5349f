-- A part beside a history: what is said of one event, and what stays.
use Rattle.std.proofs.Common.{◌≡◌, ℕ, ◌≤◌, ◌⊎◌, Bool, List, [], ◌∷◌, Option, Some, None, length}
use Rattle.values.specs.Tables.{Schema}
use Rattle.growlog.specs.Origin.{Origin}
use Rattle.values.specs.Log.{Log, changes}
use Rattle.values.specs.Events.{AreChangesIn}
use Rattle.values.specs.Writes.{Own}
use Rattle.serving.specs.tsbtree.View.{TreeState, last as view_last}
use Rattle.steps.specs.declared.step.Step.{Step}
use Rattle.steps.specs.declared.step.Step.TheVariants.{Begin, Insert, Update, Delete, UpdatePortion, DeletePortion, Select, Commit, Rollback, AddColumn, SplitKey, SplitTime, Migrate}
use Rattle.steps.specs.declared.step.Reply.{Reply}
use Rattle.steps.specs.declared.step.Reply.TheVariants.{Done}
use Rattle.steps.specs.Misfit.{max_session}
use Rattle.histories.specs.History.{History, schema_after, log, log_at_begin, snap}
use Rattle.serving.specs.journal.declared.entry.Entry.{Entry}
use Rattle.serving.specs.journal.declared.entry.Entry.TheVariants.{Begin as Begins, Commit as Commits, Split as Splits, Install as Installs}
use Rattle.serving.specs.journal.Entries.{Entries, entry_at, log as journal_log}
use Rattle.serving.specs.journal.Legal.{MayFollow}
use Rattle.serving.specs.sessions.OfHistory.{own_at, seen_at}
use Rattle.serving.specs.Progress.{Given, ServedTransaction, Takes, after}
use Rattle.runs.specs.Event.{Event, IsRight, with_step}
use Rattle.runs.proofs.TellsEvents.{read_by}

-- the entries and the steps so far, the newest first
pub record World : Type 0 where
  pub entries : Entries
  pub history : History

abbrev pub with_entry : Option Entry → Entries → Entries
with_entry None j = j
with_entry (Some e) j = e ∷ j

abbrev pub add : Event → World → World
add x w = record { entries = with_entry x.entry w.entries; history = with_step x.step w.history }

-- ---- what is said of an event

abbrev pub given_by : ℕ → Option Entry → List Given
given_by number None = []
given_by number (Some e) = record { number = number; entry = e } ∷ []

-- the step is one of the session's, or a split
abbrev pub IsOwnStep : ℕ → Step → Type 0
IsOwnStep i (Begin j) = j ≡ i
IsOwnStep i (Insert j number rows) = j ≡ i
IsOwnStep i (Update j keys sets) = j ≡ i
IsOwnStep i (Delete j keys) = j ≡ i
IsOwnStep i (UpdatePortion j keys cut sets) = j ≡ i
IsOwnStep i (DeletePortion j keys cut) = j ≡ i
IsOwnStep i (Select j form keys) = j ≡ i
IsOwnStep i (Commit j reading) = j ≡ i
IsOwnStep i (Rollback j) = j ≡ i
IsOwnStep i (AddColumn j number name of) = ⊥
IsOwnStep i (SplitKey key) = Unit {0}
IsOwnStep i (SplitTime key instant) = Unit {0}
IsOwnStep i Migrate = ⊥

-- an entry that commits nothing
abbrev pub IsIdle : Entry → Type 0
IsIdle (Begins session earlier view) = Unit {0}
IsIdle (Installs rect block done) = Unit {0}
IsIdle (Splits cut done) = Unit {0}
IsIdle (Commits session begin net reading end) = ⊥

abbrev pub IsRead : Option Entry → Step → Type 0
IsRead None step = Unit {0}
IsRead (Some e) step = step ≡ read_by e step

abbrev pub Held : Type 0
Held = Option ServedTransaction

module _ (schema : Schema) where
  -- a step of the session
  pub record Steps (i number : ℕ) (entry : Option Entry) (s : Step × Reply) (t t' : Held) : Type 0 where
    pub may_give : ℕ → Bool
    pub in_range : i ≤ max_session
    pub its : IsOwnStep i s.0
    pub read : IsRead entry s.0
    pub receipt : ℕ
    pub next : ℕ
    pub takes : Takes may_give schema i s.0 (after receipt t) (given_by number entry) s.1 (after next t')

  -- a MIGRATE
  pub record Packs (entry : Option Entry) (s : Step × Reply) (t t' : Held) : Type 0 where
    pub e : Entry
    pub entry_is : entry ≡ Some e
    pub idle : IsIdle e
    pub step_is : s.0 ≡ Migrate
    pub reply_is : s.1 ≡ Done
    pub left : t' ≡ t

  abbrev pub MovesBy : ℕ → ℕ → Option Entry → Option (Step × Reply) → Held → Held → Type 0
  MovesBy i number None None t t' = t' ≡ t
  MovesBy i number (Some e) None t t' = IsIdle e × (t' ≡ t)
  MovesBy i number entry (Some s) t t' = Steps i number entry s t t' ⊎ Packs entry s t t'

  abbrev pub Moves : Event → Held → Held → Type 0
  Moves x t t' = MovesBy x.part x.number x.entry x.step t t'

module _ (first : Schema) (origin : Origin) where
  -- the entry may follow those before it, and has the next number
  pub record MayCome (w : World) (number : ℕ) (e : Entry) : Type 0 where
    pub follows : MayFollow origin w.entries e
    pub numbered : number ≡ length (e ∷ w.entries)
    pub keys : AreChangesIn origin.schema (changes (journal_log origin w.entries))

  abbrev pub MayBy : World → ℕ → Option Entry → Type 0
  MayBy w number None = Unit {0}
  MayBy w number (Some e) = MayCome w number e

  abbrev pub May : World → Event → Type 0
  May w x = MayBy w x.number x.entry

  abbrev pub Right : World → Event → Type 0
  Right w x = IsRight first w.history x.step

  -- the transaction is the history's
  pub record IsOpened (w : World) (i : ℕ) (t : ServedTransaction) : Type 0 where
    pub before : Log
    pub at : log_at_begin first w.history i ≡ Some before
    pub changes_are : t.changes ≡ seen_at first w.history i
    pub own_is : ◌≡◌ {A = Option Own} (Some t.own) (own_at first w.history i)
    pub earlier : ℕ
    pub view : TreeState
    pub begun : entry_at w.entries t.begin ≡ Some (Begins i earlier view)
    pub starts : view_last view ≡ snap first w.history i

  abbrev pub Opened : World → ℕ → Held → Type 0
  Opened w i None = log_at_begin first w.history i ≡ None
  Opened w i (Some t) = IsOpened w i t

  -- the journal's log is the history's, and so is what the part has open
  pub record Beside (w : World) (i : ℕ) (t : Held) : Type 0 where
    pub tables_are : schema_after first w.history ≡ origin.schema
    pub log_is : journal_log origin w.entries ≡ log first w.history
    pub opened : Opened w i t
