-- A store and its sessions beside a history of steps: what the store's calls answer and leave is what
-- the history's replies are, and the log of the history with that step.
use Rattle.std.specs.Prelude.{◌≡◌, ◌≢◌, ◌≤◌, ℕ, ◌∷◌, ◌++◌, Option, Some, None, Bool, false}
use Rattle.values.specs.declared.query.Form.{Form}
use Rattle.values.specs.declared.query.Keys.{Keys}
use Rattle.values.specs.declared.refusal.Refusal.TheVariants.{InTransaction, NoTransaction}
use Rattle.values.specs.Tables.{Schema}
use Rattle.values.specs.KeyEncoding.{bytes_of_key}
use Rattle.values.specs.Log.{Log}
use Rattle.values.specs.Period.{periods_of}
use Rattle.growlog.specs.Origin.{Origin}
use Rattle.blocks.specs.PackedNode.{Packed}
use Rattle.book.specs.tsbtree.View.{last as view_last}
use Rattle.book.specs.staging.View.{Holds}
use Rattle.book.specs.validation.declared.cut.Cut.{Cut}
use Rattle.book.specs.validation.declared.cut.Cut.TheVariants.{Key, Time}
use Rattle.steps.specs.declared.step.Reply.{Reply}
use Rattle.steps.specs.declared.step.Reply.TheVariants.{Begun, Done, Refused}
use Rattle.steps.specs.declared.step.Step.{Step}
use Rattle.steps.specs.declared.step.Step.TheVariants.{Begin as BeginStep, Commit as CommitStep, Rollback, Select, SplitKey, SplitTime, Migrate}
use Rattle.steps.specs.Misfit.{max_session, misfit}
use Rattle.histories.specs.History.{History, schema_by, begins, ends, log, reply, snap}
use Rattle.steps.specs.Reply.{commit_reply}
use Rattle.steps.specs.Write.{is_write_of, writer}
use Rattle.book.specs.journal.declared.entry.Entry.{Entry}
use Rattle.book.specs.journal.declared.entry.Entry.TheVariants.{Begin, Commit, Split, Install}
use Rattle.book.specs.journal.Entries.{Entries, entry_at, log_from}
use Rattle.book.specs.Book.{BookState, IsBook, Adds}
use Rattle.sessions.specs.SessionState.{SessionTransactionState, SessionState, WithWrites, own_in, with_transaction, write_in}
use Rattle.sessions.specs.OfHistory.{IsIn, seen_at}
use Rattle.sessions.specs.Store.{IsBegun, IsCommitted, IsInstallOf, IsSplitOf}

-- what the step is answered that the entry was made for
abbrev pub entry_reply : Entry → Reply
entry_reply (Begin session earlier view) = Begun (view_last view)
entry_reply (Commit session begin net reading end) = commit_reply end
entry_reply (Split cut done) = Done
entry_reply (Install rect block done) = Done

-- the open transaction's begin is in the journal, and saw what the history's snapshot has
abbrev pub BeganIn : Entries → (first schema : Schema) → History → ℕ
    → Option SessionTransactionState → Type 0
BeganIn j first schema h i None = Unit {0}
BeganIn j first schema h i (Some t) =
    (entry_at j t.begun.number ≡ Some (Begin i t.begun.earlier t.view))
    × (view_last t.view ≡ snap first h i) × Holds schema t.view (seen_at first h i)

-- a store of the session's tables, that begins with these transactions
abbrev pub origin : Log → (most_entries : ℕ) → SessionState → Origin
origin before most s = record { schema = s.schema; log = before; most_entries = most }

-- the journal's log is the history's, and the session has open what the history has
pub record IsBeside (first : Schema) (before : Log) (j : Entries) (s : SessionState) (h : History)
    : Type 0 where
  pub in_range : s.number ≤ max_session
  pub log_is : log_from (periods_of s.schema) before j ≡ log first h
  pub is_in : IsIn first (seen_at first h s.number) s h
  pub began : BeganIn j first s.schema h s.number s.transaction

-- under the lock there is one entry more
pub record Grows (before : Log) (s : SessionState) (e : Entry) (number : ℕ) (old new : BookState)
    : Type 0 where
  pub most : ℕ
  pub was : IsBook (origin before most s) old
  pub is : IsBook (origin before most s) new
  pub adds : Adds e number old new

-- a BEGIN answers the history's last instant, and then the session has open what the history has
abbrev pub BeginsAnswerAlike : Type 0
BeginsAnswerAlike =
    (first : Schema) (before : Log) (old new : SessionState) (b c : BookState) (h : History)
    (number : ℕ) (e : Entry)
    → IsBeside first before b.entries old h → old.transaction ≡ None → Grows before old e number b c
    → IsBegun old new number e
    → (entry_reply e ≡ reply first h (BeginStep old.number))
    × IsBeside first before c.entries new (BeginStep old.number ∷ h)

-- a COMMIT answers the history's outcome, an instant or none or a refusal, and leaves its log
abbrev pub CommitsAnswerAlike : Type 0
CommitsAnswerAlike =
    (first : Schema) (before : Log) (old new : SessionState) (b c : BookState) (h : History)
    (reading number : ℕ) (e : Entry)
    → IsBeside first before b.entries old h → Grows before old e number b c
    → IsCommitted old new reading number e
    → (entry_reply e ≡ reply first h (CommitStep old.number reading))
    × IsBeside first before c.entries new (CommitStep old.number reading ∷ h)

-- a step that splits at the cut
abbrev pub IsSplitStep : Cut → Step → Type 0
IsSplitStep cut (SplitKey key) = cut ≡ Key (bytes_of_key key)
IsSplitStep cut (SplitTime key instant) = cut ≡ Time (bytes_of_key key) instant
IsSplitStep cut _ = ⊥

-- a split of a key that fits answers what the history's does, whether it was done or not, and
-- changes nothing of any session
abbrev pub SplitsAnswerAlike : Type 0
SplitsAnswerAlike =
    (first : Schema) (before : Log) (s : SessionState) (j : Entries) (h : History) (cut : Cut)
    (step : Step) (e : Entry)
    → IsBeside first before j s h → IsSplitStep cut step → misfit s.schema step ≡ None → IsSplitOf cut e
    → (entry_reply e ≡ reply first h step) × IsBeside first before (e ∷ j) s (step ∷ h)

-- an install answers what a MIGRATE does, whether its block took its place or not, and changes
-- nothing of any session
abbrev pub InstallsAnswerAlike : Type 0
InstallsAnswerAlike =
    (first : Schema) (before : Log) (s : SessionState) (j : Entries) (h : History) (packed : Packed)
    (e : Entry)
    → IsBeside first before j s h → IsInstallOf packed e
    → (entry_reply e ≡ reply first h Migrate) × IsBeside first before (e ∷ j) s (Migrate ∷ h)

-- a BEGIN with one open and a COMMIT with none are refused as the history refuses them
abbrev pub RefusedAlike : Type 0
RefusedAlike =
    (first : Schema) (before : Log) (s : SessionState) (j : Entries) (h : History)
    → IsBeside first before j s h
    → (s.transaction ≢ None → Refused InTransaction ≡ reply first h (BeginStep s.number))
    × ((reading : ℕ) → s.transaction ≡ None
    → Refused NoTransaction ≡ reply first h (CommitStep s.number reading))

-- the step neither begins nor ends nor writes for the session, and adds a column to no table
pub record IsOfAnother (i : ℕ) (step : Step) : Type 0 where
  pub no_begin : begins i step ≡ false
  pub no_end : ends i step ≡ false
  pub no_write : is_write_of i step ≡ false
  pub no_column : (now : Schema) (idle : Bool) → schema_by now idle step ≡ now

-- a step of another session changes nothing of what a session has open
abbrev pub OthersLeaveAlike : Type 0
OthersLeaveAlike =
    (first : Schema) (before : Log) (s : SessionState) (j more : Entries) (h : History) (step : Step)
    → IsBeside first before j s h → IsOfAnother s.number step
    → log_from (periods_of s.schema) before (more ++ j) ≡ log first (step ∷ h)
    → IsBeside first before (more ++ j) s (step ∷ h)

-- what a session does without the store keeps it beside the history: a write that leaves what the
-- definitions say, a query, and a rollback
abbrev pub OwnStepsStayBeside : Type 0
OwnStepsStayBeside =
    (first : Schema) (before : Log) (old new : SessionState) (j : Entries) (h : History) (step : Step)
    → IsBeside first before j old h
    → (writer step ≡ Some old.number → WithWrites old new
    → own_in (seen_at first h old.number) new
    ≡ (write_in old step (own_in (seen_at first h old.number) old)).1
    → IsBeside first before j new (step ∷ h))
    × ((form : Form) (keys : Keys) → IsBeside first before j old (Select old.number form keys ∷ h))
    × IsBeside first before j (with_transaction old None) (Rollback old.number ∷ h)
