-- When a journal is legal: each entry says what the entries before it leave.
use Rattle.std.specs.Prelude.{◌≡◌, ℕ, [], ◌∷◌, Option, Some, Result, true, false, ◌==◌, ◌||◌}
use Rattle.values.specs.declared.refusal.Refusal.{Refusal}
use Rattle.values.specs.Log.{Log, Net, last, changes}
use Rattle.values.specs.Period.{periods_of}
use Rattle.values.specs.Commits.{outcome}
use Rattle.values.specs.Events.{events_of}
use Rattle.growlog.specs.Origin.{Origin}
use Rattle.validation.specs.tsbtree.View.{TreeState, events, last as view_last}
use Rattle.journal.specs.declared.entry.Entry.{Entry}
use Rattle.journal.specs.declared.entry.Entry.TheVariants.{Begin, Commit, Split, Install}
use Rattle.journal.specs.Entries.{Entries, entry_at, log, has_entry_of, has_ended}

-- the view shows what was committed, until its last instant
pub record IsViewOf (view : TreeState) (committed : Log) : Type 0 where
  pub events_are : events view ≡ events_of (changes committed)
  pub last_is : view_last view ≡ last committed

-- a begin sees what was committed before it, and names an entry of its session before it, or none
pub record MayBegin (o : Origin) (j : Entries) (session earlier : ℕ) (view : TreeState) : Type 0 where
  pub sees : IsViewOf view (log o j)
  pub names : ((earlier == 0) || has_entry_of j session earlier) ≡ true

-- a commit ends a transaction that its session began, once, and the first committer wins
pub record MayCommit (o : Origin) (j : Entries) (session begin : ℕ) (net : Net)
    (reading : ℕ) (end : Result (Option ℕ) Refusal) : Type 0 where
  pub earlier : ℕ
  pub view : TreeState
  pub begun : entry_at j begin ≡ Some (Begin session earlier view)
  pub first : has_ended j begin ≡ false
  pub ends : end ≡
      outcome (periods_of o.schema) (changes (log o j)) (last (log o j)) (view_last view)
      net reading

-- an entry may follow these; a split and an install change nothing that was committed
abbrev pub MayFollow : Origin → Entries → Entry → Type 0
MayFollow o j (Begin session earlier view) = MayBegin o j session earlier view
MayFollow o j (Commit session begin net reading end) =
    MayCommit o j session begin net reading end
MayFollow o j (Split cut done) = Unit {0}
MayFollow o j (Install rect block done) = Unit {0}

abbrev pub IsLegal : Origin → Entries → Type 0
IsLegal o [] = Unit {0}
IsLegal o (e ∷ j) = MayFollow o j e × IsLegal o j
