-- What contracts see of a book, and what its calls make of it.
use Rattle.std.specs.Prelude.{◌≡◌, ℕ, ◌≤◌, ◌∷◌, ◌⊎◌, Bool, Result, IfErr, if◌then◌else◌, length}
use Rattle.values.specs.declared.refusal.Refusal.{Refusal}
use Rattle.values.specs.declared.refusal.Refusal.TheVariants.{JournalFull, Memory}
use Rattle.values.specs.Log.{Net, last, changes}
use Rattle.values.specs.Period.{periods_of}
use Rattle.values.specs.Commits.{outcome}
use Rattle.growlog.specs.Origin.{Origin}
use Rattle.blocks.specs.PackedNode.{Packed}
use Rattle.validation.specs.tsbtree.View.{TreeState, last as view_last, IsState}
use Rattle.validation.specs.tsbtree.Packing.{IsInstalled}
use Rattle.validation.specs.staging.View.{Holds}
use Rattle.validation.specs.declared.cut.Cut.{Cut}
use Rattle.validation.specs.Split.{IsSplit}
use Rattle.journal.specs.BegunState.{BegunState}
use Rattle.journal.specs.declared.entry.Entry.{Entry}
use Rattle.journal.specs.declared.entry.Entry.TheVariants.{Begin, Commit, Split, Install}
use Rattle.journal.specs.Entries.{Entries, log, has_entry_of}
use Rattle.journal.specs.Legal.{IsLegal}

-- what was committed, and the entries, the newest first
pub record BookState : Type 0 where
  pub engine : TreeState
  pub entries : Entries

-- the journal is legal and has no more entries than it may have, the tree is sound and holds what its log changed, and
-- the clock is at its last instant
pub record IsBook (o : Origin) (b : BookState) : Type 0 where
  pub legal : IsLegal o b.entries
  pub tree : IsState b.engine.nodes (view_last b.engine)
  pub holds : Holds o.schema b.engine (changes (log o b.entries))
  pub clock : view_last b.engine ≡ last (log o b.entries)
  pub room : length b.entries ≤ o.most_entries

-- the number, where an entry of the session has it, or else 0
abbrev pub earlier_in : Entries → ℕ → ℕ → ℕ
earlier_in j session number = if has_entry_of j session number then number else 0

-- the entry of a begin now
abbrev pub begin_entry : BookState → ℕ → ℕ → Entry
begin_entry b session earlier = Begin session (earlier_in b.entries session earlier) b.engine

-- what a session keeps of a begin now
abbrev pub begun_now : BookState → ℕ → ℕ → ℕ → BegunState
begun_now b session earlier number = record {
  number = number;
  earlier = earlier_in b.entries session earlier;
  start = view_last b.engine;
}

-- the entry of a commit now: the first committer wins
abbrev pub commit_entry : Origin → BookState → ℕ → BegunState → Net → ℕ → Entry
commit_entry o b session begun net reading =
    Commit session begun.number net reading
    (outcome (periods_of o.schema) (changes (log o b.entries)) (last (log o b.entries))
    begun.start net reading)

-- there is one entry more, and this is its number
pub record Adds (e : Entry) (number : ℕ) (old new : BookState) : Type 0 where
  pub entries_are : new.entries ≡ e ∷ old.entries
  pub numbered : number ≡ length new.entries

-- the entry of a split, which did to the tree what the entry says
pub record IsSplitEntry (cut : Cut) (old new : TreeState) (e : Entry) : Type 0 where
  pub done : Bool
  pub entry_is : e ≡ Split cut done
  pub split : IsSplit cut old new done

-- the entry of an install, which did to the tree what the entry says
pub record IsInstallEntry (packed : Packed) (old new : TreeState) (e : Entry) : Type 0 where
  pub done : Bool
  pub entry_is : e ≡ Install packed.node.rect packed.bytes done
  pub installed : IsInstalled done old new packed

-- no refusal but that the journal is full, or out of memory
abbrev pub OnlyRoom : {T : Type 0} → Result T Refusal → Type 0
OnlyRoom r = IfErr r (λ e. (e ≡ JournalFull) ⊎ (e ≡ Memory))
