-- What the store's calls do to a session.
use Rattle.std.specs.Prelude.{◌≡◌, ℕ, [], Option, Some, None, Result, Bool, false, true, ◌==◌, ◌||◌}
use Rattle.values.specs.declared.refusal.Refusal.{Refusal}
use Rattle.values.specs.Log.{Changes, Net}
use Rattle.growlog.specs.Origin.{Origin}
use Rattle.blocks.specs.PackedNode.{Packed}
use Rattle.book.specs.tsbtree.View.{TreeState, last}
use Rattle.book.specs.staging.View.{Holds}
use Rattle.book.specs.staging.Own.{net_over}
use Rattle.book.specs.validation.declared.cut.Cut.{Cut}
use Rattle.book.specs.journal.declared.entry.Entry.{Entry}
use Rattle.book.specs.journal.declared.entry.Entry.TheVariants.{Begin, Commit, Split, Install}
use Rattle.book.specs.journal.Entries.{Entries, is_open}
use Rattle.book.specs.Book.{BookState, commit_entry}
use Rattle.sessions.specs.SessionState.{SessionTransactionState, SessionState}

-- a transaction that has written nothing, by its begin's number, the entry before that it names, and its view
abbrev pub begun_with : ℕ → ℕ → TreeState → SessionTransactionState
begun_with number earlier view = record {
  begun = record { number = number; earlier = earlier; start = last view };
  view = view;
  writes = [];
}

-- the session sees what the entry shows, which names the session's receipt before, or none
pub record IsBegun (old new : SessionState) (number : ℕ) (e : Entry) : Type 0 where
  pub earlier : ℕ
  pub view : TreeState
  pub entry_is : e ≡ Begin old.number earlier view
  pub names : ((earlier == 0) || (earlier == old.receipt)) ≡ true
  pub shows : (m : Changes) × Holds old.schema view m
  pub session_is : new ≡ record {
    number = old.number;
    schema = old.schema;
    receipt = number;
    transaction = Some (begun_with number earlier view);
  }

-- the session's transaction is open in a journal with these entries
abbrev pub is_open_at : Entries → SessionState → Bool
is_open_at j s = elim s.transaction [ None ↦ false | Some t ↦ is_open j s.number t.begun ]

-- a session has a transaction open, and this is its net change over what its view shows
pub record IsNetOf (s : SessionState) (net : Net) : Type 0 where
  pub ran : SessionTransactionState
  pub was_open : s.transaction ≡ Some ran
  pub net_is : (m : Changes) → Holds s.schema ran.view m → net ≡ net_over m ran.writes

-- the entry is that of a commit at the book of what the session has open, and the transaction has ended
pub record IsCommitAt (o : Origin) (book : BookState) (old new : SessionState) (net : Net)
    (reading number : ℕ) (e : Entry) : Type 0 where
  pub ran : SessionTransactionState
  pub was_open : old.transaction ≡ Some ran
  pub entry_is : e ≡ commit_entry o book old.number ran.begun net reading
  pub session_is : new ≡ record {
    number = old.number;
    schema = old.schema;
    receipt = number;
    transaction = None;
  }

-- the entry names the session's begin, with what the session changed and the reading, and the transaction has ended
pub record IsCommitted (old new : SessionState) (reading number : ℕ) (e : Entry) : Type 0 where
  pub ran : SessionTransactionState
  pub was_open : old.transaction ≡ Some ran
  pub net : Net
  pub end : Result (Option ℕ) Refusal
  pub entry_is : e ≡ Commit old.number ran.begun.number net reading end
  pub net_is : (m : Changes) → Holds old.schema ran.view m → net ≡ net_over m ran.writes
  pub session_is : new ≡ record {
    number = old.number;
    schema = old.schema;
    receipt = number;
    transaction = None;
  }

-- the same by some reading that may be given
abbrev pub IsCommittedBy : (ℕ → Bool) → (old new : SessionState) → ℕ → Entry → Type 0
IsCommittedBy may_give old new number e =
    (reading : ℕ) × ((may_give reading ≡ true) × IsCommitted old new reading number e)

-- the entry holds what was asked for
pub record IsSplitOf (cut : Cut) (e : Entry) : Type 0 where
  pub done : Bool
  pub entry_is : e ≡ Split cut done

-- the entry holds the rectangle and the block of what was to be installed
pub record IsInstallOf (packed : Packed) (e : Entry) : Type 0 where
  pub done : Bool
  pub entry_is : e ≡ Install packed.node.rect packed.bytes done
