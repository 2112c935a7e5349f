-- Rows that a store has before the first connection.
use Rattle.std.specs.Prelude.{◌≡◌, ◌⊎◌, ℕ, List, [], ◌∷◌, Some, None, Ok, Err}
use Rattle.values.specs.Log.{Changes, Net, Row}
use Rattle.values.specs.Tables.{Schema}
use Rattle.values.specs.declared.refusal.Refusal.{Refusal}
use Rattle.values.specs.declared.refusal.Refusal.TheVariants.{NoTransaction, JournalFull, Memory}
use Rattle.sessions.specs.tsbtree.View.{TreeState}
use Rattle.sessions.specs.staging.View.{Holds}
use Rattle.sessions.specs.staging.Own.{own}
use Rattle.steps.specs.declared.step.Step.TheVariants.{Insert}
use Rattle.steps.specs.Misfit.{misfit}
use Rattle.sessions.specs.journal.declared.entry.Entry.{Entry}
use Rattle.sessions.specs.journal.declared.entry.Entry.TheVariants.{Begin, Commit}
use Rattle.sessions.specs.SessionState.{SessionState, write_by}
use Rattle.sessions.specs.Store.{IsCommitted}
use Rattle.serving.specs.Progress.{Given}
use Rattle.runs.specs.Run.{IsLoad}

-- the entry of a commit that changed something at the instant
abbrev pub IsCommitAt : Entry → ℕ → Type 0
IsCommitAt e instant =
    (session begin : ℕ) × (net : Net) × (reading : ℕ)
    × (e ≡ Commit session begin net reading (Ok (Some instant)))

-- the begin and the commit are the entries 1 and 2, and the commit has an instant
abbrev pub IsFirstCommit : (begin end : ℕ) → Entry → ℕ → Type 0
IsFirstCommit begin end entry instant = (begin ≡ 1) × ((end ≡ 2) × IsCommitAt entry instant)

-- session 0 with no transaction yet
abbrev pub unbegun : Schema → SessionState
unbegun schema = record { number = 0; schema = schema; receipt = 0; transaction = None }

-- a session's transaction was committed at the reading 0, and changed something: its begin and its commit are the entries 1 and 2
pub record HasEnded (old : SessionState) (begun : Given) (receipts : List Given) (instant : ℕ)
    : Type 0 where
  pub new : SessionState
  pub number : ℕ
  pub entry : Entry
  pub commits : IsCommitted old new 0 number entry
  pub first : IsFirstCommit begun.number number entry instant
  pub receipts_are : receipts ≡ begun ∷ record { number = number; entry = entry } ∷ []

-- the receipts of the entries 1 and 2, of a transaction of session 0 that inserts the rows, which is committed at the instant
abbrev pub IsLoadAt : Schema → ℕ → List Row → List Given → ℕ → Type 0
IsLoadAt schema table rows receipts instant =
    (load : IsLoad schema table rows receipts) × (load.instant ≡ instant)

-- rows of a table were loaded: without rows nothing was done
abbrev pub IsLoadedAt : Schema → ℕ → List Row → List Given → ℕ → Type 0
IsLoadedAt schema table [] receipts instant = (receipts ≡ []) × (instant ≡ 0)
IsLoadedAt schema table (row ∷ rows) receipts instant =
    IsLoadAt schema table (row ∷ rows) receipts instant

-- ---- why rows are not loaded, by the receipts that were taken before

-- the INSERT of the rows is refused for this over what a view shows
pub record IsRefusedInsert (schema : Schema) (view : TreeState) (table : ℕ) (rows : List Row)
    (refusal : Refusal) : Type 0 where
  pub m : Changes
  pub holds : Holds schema view m
  pub refused : (write_by schema (Insert 0 table rows) (misfit schema (Insert 0 table rows))
      (Some (own m []))).0
      ≡ Err refusal

-- there is no room
abbrev pub IsRoom : Refusal → Type 0
IsRoom refusal = (refusal ≡ JournalFull) ⊎ (refusal ≡ Memory)

-- with no receipt: no transaction was begun, since there is no room
pub record IsUnbegun (refusal : Refusal) (receipts : List Given) : Type 0 where
  pub why : IsRoom refusal
  pub receipts_are : receipts ≡ []

-- with the receipt of the begin: the INSERT is refused over what the begin shows; or the transaction
-- is not committed, since there is no room or it is not open at the store
pub record IsUncommitted (schema : Schema) (table : ℕ) (rows : List Row) (refusal : Refusal)
    (receipts : List Given) : Type 0 where
  pub begin : ℕ
  pub earlier : ℕ
  pub view : TreeState
  pub why : IsRefusedInsert schema view table rows refusal
      ⊎ ((refusal ≡ NoTransaction) ⊎ IsRoom refusal)
  pub receipts_are : receipts ≡ record { number = begin; entry = Begin 0 earlier view } ∷ []

-- with the receipts of the begin and of its commit: the commit has no instant, or they are not those of the entries 1 and 2
pub record IsWithoutInstant (refusal : Refusal) (receipts : List Given) : Type 0 where
  pub begin : ℕ
  pub earlier : ℕ
  pub view : TreeState
  pub end : ℕ
  pub entry : Entry
  pub why : refusal ≡ NoTransaction
  pub no_load : (instant : ℕ) → IsFirstCommit begin end entry instant → ⊥
  pub receipts_are : receipts ≡
      record { number = begin; entry = Begin 0 earlier view }
      ∷ record { number = end; entry = entry } ∷ []

-- a session's transaction was not committed at an instant, as the entries 1 and 2: the receipt of its
-- begin, and that of its commit where it has one
abbrev pub IsUnended : Given → Refusal → List Given → Type 0
IsUnended begun refusal receipts =
    (((refusal ≡ NoTransaction) ⊎ IsRoom refusal) × (receipts ≡ begun ∷ []))
    ⊎ ((refusal ≡ NoTransaction)
    × ((end : ℕ) × (entry : Entry) × ((instant : ℕ) → IsFirstCommit begun.number end entry instant → ⊥)
    × (receipts ≡ begun ∷ record { number = end; entry = entry } ∷ [])))

abbrev pub IsUnloaded : Schema → ℕ → List Row → Refusal → List Given → Type 0
IsUnloaded schema table rows refusal receipts =
    IsUnbegun refusal receipts
    ⊎ (IsUncommitted schema table rows refusal receipts ⊎ IsWithoutInstant refusal receipts)
