-- A closed store and all of its receipts: of rows that were loaded, of sessions, and of the service.
use Rattle.std.specs.Prelude.{◌≡◌, ◌≢◌, ℕ, ◌<◌, ◌≤◌, List, [], ◌∷◌, ◌++◌, Bool, Some, None, Ok, length, map, nat_le, IsPermutation}
use Rattle.std.specs.List.{AllByRecursion, flat_map}
use Rattle.values.specs.Commits.{max_instant}
use Rattle.values.specs.Log.{Changes, Net, Row}
use Rattle.values.specs.Tables.{Schema}
use Rattle.growlog.specs.Origin.{Origin}
use Rattle.values.specs.declared.refusal.Refusal.TheVariants.{JournalFull, NoTransaction}
use Rattle.serving.specs.tsbtree.View.{TreeState}
use Rattle.serving.specs.staging.View.{Holds}
use Rattle.serving.specs.staging.Own.{net_over, own}
use Rattle.steps.specs.declared.step.Step.TheVariants.{Insert}
use Rattle.steps.specs.Misfit.{max_session, misfit}
use Rattle.steps.specs.Write.{write}
use Rattle.lines.specs.Partial.{Partial}
use Rattle.serving.specs.journal.declared.entry.Entry.{Entry}
use Rattle.serving.specs.journal.declared.entry.Entry.TheVariants.{Begin, Commit, Split, Install}
use Rattle.serving.specs.journal.Entries.{entry_at, numbers}
use Rattle.serving.specs.book.Book.{BookState, IsBook}
use Rattle.serving.specs.Progress.{Given, Progress, after}
use Rattle.serving.specs.ServedSession.{Serves, Told}

-- ---- rows that were loaded

-- the receipts of the entries 1 and 2 are those of a transaction of session 0, which is committed at
-- the reading 0: its begin shows these changes, and the INSERT of the rows over them is taken
pub record IsLoad (schema : Schema) (table : ℕ) (rows : List Row) (given : List Given) : Type 0 where
  pub earlier : ℕ
  pub view : TreeState
  pub net : Net
  pub instant : ℕ
  pub given_is : given ≡
      record { number = 1; entry = Begin 0 earlier view }
      ∷ record { number = 2; entry = Commit 0 1 net 0 (Ok (Some instant)) } ∷ []
  pub shown : Changes
  pub held : Holds schema view shown
  pub fits : misfit schema (Insert 0 table rows) ≡ None
  pub count : ℕ
  pub writes : Net
  pub inserted : write schema (Insert 0 table rows) (own shown []) ≡ (Ok count, own shown writes)
  pub net_is : net ≡ net_over shown writes

-- rows of a table were loaded, or there are none and nothing was done
abbrev pub IsLoaded : Schema → ℕ → List Row → List Given → Type 0
IsLoaded schema table [] given = given ≡ []
IsLoaded schema table (row ∷ rows) given = IsLoad schema table (row ∷ rows) given

-- ---- sessions

-- what a connection comes to: the lines that were taken, what is told of each, its receipts, the text
-- that it was sent, and what it has come to
pub record Sent : Type 0 where
  pub lines : List Partial
  pub told : List Told
  pub given : List Given
  pub text : List ℕ
  pub later : Progress

-- a session: its number, and its connections, one after another
pub record Part : Type 0 where
  pub number : ℕ
  pub sent : List Sent

abbrev pub given_of : Part → List Given
given_of p = flat_map (λ s. s.given) p.sent

abbrev pub told_of : Part → List Told
told_of p = flat_map (λ s. s.told) p.sent

-- the number of the last receipt, this one before the first
abbrev pub last_of : ℕ → List Given → ℕ
last_of last [] = last
last_of last (g ∷ given) = last_of g.number given

-- numbers rise, from above this one
abbrev pub Rises : ℕ → List Given → Type 0
Rises last [] = Unit {0}
Rises last (g ∷ given) = (last < g.number) × Rises g.number given

-- what the clock reads for a commit: no more than the greatest instant
abbrev pub is_reading : ℕ → Bool
is_reading t = nat_le t max_instant

pub record IsPart (schema : Schema) (p : Part) : Type 0 where
  pub some : 1 ≤ p.number
  pub in_range : p.number ≤ max_session
  pub serves : AllByRecursion
      (λ s. Serves is_reading schema p.number s.lines s.told (after 0 None) s.given s.text s.later) p.sent
  pub rises : Rises 0 (given_of p)

-- no number is there twice
abbrev pub AreApart : (numbers : List ℕ) → Type 0
AreApart [] = Unit {0}
AreApart (n ∷ numbers) = AllByRecursion (λ m. m ≢ n) numbers × AreApart numbers

-- a line was answered that the journal is full only where it is, and no COMMIT of an open transaction that none is open
pub record IsRefusedRightly (IsFull : Type 0) (t : Told) : Type 0 where
  pub full : t.refused ≡ Some JournalFull → IsFull
  pub is_open : t.refused ≡ Some NoTransaction → ⊥

-- ---- the service

-- a begin of its own session, or an install
abbrev pub IsOfService : Entry → Type 0
IsOfService (Begin session earlier view) = session ≡ 0
IsOfService (Install rect block done) = Unit {0}
IsOfService (Commit session begin net reading end) = ⊥
IsOfService (Split cut done) = ⊥

-- ---- all of it

abbrev pub all_given : List Given → List Part → List Given → List Given
all_given loaded parts service = loaded ++ (flat_map given_of parts ++ service)

pub record IsRun (o : Origin) (b : BookState) (table : ℕ) (rows : List Row)
    (loaded : List Given) (parts : List Part) (service : List Given) : Type 0 where
  pub is_book : IsBook o b
  pub is_loaded : IsLoaded o.schema table rows loaded
  pub are_parts : AllByRecursion (IsPart o.schema) parts
  pub refused : AllByRecursion
      (λ p. AllByRecursion (IsRefusedRightly (length b.entries ≡ o.most_entries)) (told_of p)) parts
  pub apart : AreApart (map (λ p. p.number) parts)
  pub serviced : AllByRecursion (λ g. IsOfService g.entry) service
  pub stand : AllByRecursion (λ g. entry_at b.entries g.number ≡ Some g.entry)
      (all_given loaded parts service)
  pub once : IsPermutation (map (λ g. g.number) (all_given loaded parts service))
      (numbers (length b.entries))
