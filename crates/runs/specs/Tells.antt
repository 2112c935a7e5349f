-- What a session was sent, connection by connection and line by line, and by which events.
use Rattle.std.specs.Prelude.{◌≡◌, ℕ, ◌≤◌, List, [], ◌∷◌, ◌++◌, ◌⊎◌, Bool, true, false, Option, Some, None, Result, Ok, Err, map}
use Rattle.values.specs.declared.refusal.Refusal.{Refusal}
use Rattle.values.specs.declared.refusal.Refusal.TheVariants.{JournalFull, Memory}
use Rattle.values.specs.Commits.{max_instant}
use Rattle.values.specs.Tables.{Schema}
use Rattle.steps.specs.declared.step.Step.{Step}
use Rattle.steps.specs.declared.step.Step.TheVariants.{Begin, Select, Commit, Rollback, SplitKey, SplitTime, Migrate}
use Rattle.steps.specs.declared.step.Reply.{Reply}
use Rattle.steps.specs.declared.step.Reply.TheVariants.{Begun, Done, RolledBack}
use Rattle.steps.specs.Reply.{commit_reply, takes_no_memory_by}
use Rattle.histories.specs.History.{History, has_open}
use Rattle.statement.specs.declared.line.Line.{Line}
use Rattle.statement.specs.declared.line.Line.TheVariants.{Step as Asks}
use Rattle.statement.specs.Print.{refusal_text, reply_text}
use Rattle.lines.specs.Partial.{Partial}
use Rattle.serving.specs.tsbtree.View.{TreeState, last}
use Rattle.serving.specs.journal.declared.entry.Entry.{Entry}
use Rattle.serving.specs.journal.declared.entry.Entry.TheVariants.{Begin as Begins, Commit as Commits, Split as Splits, Install as Installs}
use Rattle.serving.specs.Progress.{asks_store}
use Rattle.serving.specs.ServedSession.{reading_takes, said}
use Rattle.runs.specs.Event.{Event, history_after}

-- a COMMIT's reading is its entry's
abbrev pub with_reading : ℕ → Step → Step
with_reading reading (Commit i before) = Commit i reading
with_reading reading step = step

-- the entry of a session's begin, and no step
abbrev pub IsBegun : (session : ℕ) → Event → Type 0
IsBegun session e =
    (earlier : ℕ) × (view : TreeState) × (e.entry ≡ Some (Begins session earlier view)) × (e.step ≡ None)

-- the entry of an install, and a MIGRATE that is done
abbrev pub IsPacked : Option Entry → Option (Step × Reply) → Type 0
IsPacked (Some (Installs rect block done)) step = step ≡ Some (Migrate, Done)
IsPacked entry step = ⊥

module _ (i : ℕ) where
  -- the entry that a step of the session adds: a begin of its own for a BEGIN, and for a query with no transaction
  -- open; a commit with its reading, which ended as is replied; a split; and for a MIGRATE the service's begin
  abbrev pub IsEntryOf : Step → (reading : ℕ) → Reply → Entry → Type 0
  IsEntryOf (Begin j) reading reply (Begins session earlier view) = (session ≡ i) × (reply ≡ Begun (last view))
  IsEntryOf (Select j form keys) reading reply (Begins session earlier view) = session ≡ i
  IsEntryOf (Commit j before) reading reply (Commits session begin net at end) =
      (session ≡ i) × (at ≡ reading) × (reading ≤ max_instant) × (reply ≡ commit_reply end)
  IsEntryOf (SplitKey key) reading reply (Splits cut done) = reply ≡ Done
  IsEntryOf (SplitTime key instant) reading reply (Splits cut done) = reply ≡ Done
  IsEntryOf Migrate reading reply (Begins session earlier view) = (session ≡ 0) × (reply ≡ Done)
  IsEntryOf step reading reply entry = ⊥

  -- a step that is answered is one event, with its entry where it adds one; a MIGRATE that packs a node is two: the
  -- service's begin, and the install
  abbrev pub AreEventsOf : (adds : Bool) → List Event → Step → Reply → Type 0
  AreEventsOf false (e ∷ []) step reply = (e.entry ≡ None) × (e.step ≡ Some (step, reply))
  AreEventsOf true (e ∷ []) step reply =
      (entry : Entry) × (reading : ℕ) × (e.entry ≡ Some entry) × IsEntryOf step reading reply entry
      × (e.step ≡ Some (with_reading reading step, reply))
  AreEventsOf true (e ∷ f ∷ []) Migrate reply = IsBegun 0 e × IsPacked f.entry f.step × (reply ≡ Done)
  AreEventsOf adds events step reply = ⊥

  -- what is refused for room is no step, and has no event, but that a query with no transaction open, or a MIGRATE,
  -- may have begun
  abbrev pub AreLeft : (is_open : Bool) → List Event → Refusal → Step → Type 0
  AreLeft is_open [] refusal step = Unit {0}
  AreLeft is_open (e ∷ []) Memory (Select j form keys) = (is_open ≡ false) × IsBegun i e
  AreLeft is_open (e ∷ []) refusal Migrate = IsBegun 0 e
  AreLeft is_open events refusal step = ⊥

  -- a transaction that is open where its connection ends is rolled back
  abbrev pub let_go : (is_open : Bool) → List (Option Entry × Option (Step × Reply))
  let_go false = []
  let_go true = (None, Some (Rollback i, RolledBack)) ∷ []

module _ (schema : Schema) (IsFull : Type 0) (i : ℕ) where
  -- what is refused for room: a step that takes memory, since that ran out; and one that adds an entry, since the
  -- journal is full, where it is
  abbrev pub MayBeRefused : (is_open : Bool) → Step → Refusal → Type 0
  MayBeRefused is_open step Memory = takes_no_memory_by (λ j. is_open) step ≡ false
  MayBeRefused is_open step JournalFull = (asks_store schema i step is_open ≡ true) × IsFull
  MayBeRefused is_open step refusal = ⊥

  -- the events and the text of a line that says this, by whether the session has a transaction open: what is no step
  -- has no event, and a step is answered, or refused for room
  abbrev pub Says : (is_open : Bool) → Result Line Refusal → List Event → (text : List ℕ) → Type 0
  Says is_open (Err refusal) events text = (events ≡ []) × (text ≡ refusal_text refusal)
  Says is_open (Ok (Asks step)) events text =
      ((reply : Reply) × (text ≡ reply_text reply)
      × AreEventsOf i (asks_store schema i step is_open) events step reply)
      ⊎ ((refusal : Refusal) × (text ≡ refusal_text refusal)
      × MayBeRefused is_open step refusal × AreLeft i is_open events refusal step)
  Says is_open (Ok other) events text = (events ≡ []) × (text ≡ [])

  -- or memory ran out while the line was read, where that takes some
  abbrev pub TellsLine : (is_open : Bool) → Partial → List Event → (text : List ℕ) → Type 0
  TellsLine is_open line events text =
      Says is_open (said schema i line) events text
      ⊎ ((reading_takes schema i line ≡ true) × (events ≡ []) × (text ≡ refusal_text Memory))

  -- all lines, one after another, from the steps of the session before them
  abbrev pub Tells : History → List Partial → List Event → (text : List ℕ) → Type 0
  Tells h [] events text = (events ≡ []) × (text ≡ [])
  Tells h (line ∷ lines) events text =
      (now later : List Event) × (sent rest : List ℕ) × (events ≡ now ++ later) × (text ≡ sent ++ rest)
      × TellsLine (has_open h i) line now sent × Tells (history_after h now) lines later rest

  -- all connections, one after another, each with no transaction open at first: of each the lines that were
  -- taken, and the text that it was sent
  abbrev pub TellsAll : History → List (List Partial × List ℕ) → List Event → Type 0
  TellsAll h [] events = events ≡ []
  TellsAll h (talk ∷ talks) events =
      (now gone later : List Event) × (events ≡ now ++ (gone ++ later)) × Tells h talk.0 now talk.1
      × (map (λ e. (e.entry, e.step)) gone ≡ let_go i (has_open (history_after h now) i))
      × TellsAll (history_after (history_after h now) gone) talks later
