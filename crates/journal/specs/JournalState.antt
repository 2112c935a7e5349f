-- What contracts see of a journal, and what is true of each.
use Rattle.std.specs.Prelude.{◌≡◌, ℕ, ◌+◌, ◌<◌, ◌≤◌, ◌==◌, ◌⊎◌, ◌++◌, ◌∷◌, [], List, Option, Some, None, Bool, true, if◌then◌else◌, length, reverse, slice_get}
use Rattle.journal.specs.declared.entry.Entry.{Entry}
use Rattle.journal.specs.Entries.{Entries, has_ended}

-- the entries, the newest first, and how many more there is room for
pub record JournalState : Type 0 where
  pub entries : Entries
  pub room : ℕ

-- the flags say of each entry whether a commit names it
abbrev pub AreEnded : Entries → List Bool → Type 0
AreEnded j flags = (n : ℕ) → n < length j → slice_get flags n ≡ Some (has_ended j (n + 1))

-- the flag at a place once a commit names a begin, if it does
abbrev pub marked : Option ℕ → ℕ → Option Bool → Option Bool
marked None n flag = flag
marked (Some number) n flag = if number == n + 1 then Some true else flag

-- the prefix as it was, or with the entry after all that there were before
abbrev pub IsGrown : ℕ → List Entry → Entry → List Entry → Type 0
IsGrown before old e new = (new ≡ old) ⊎ ((length old ≡ before) × (new ≡ old ++ e ∷ []))

-- the prefix has the entries that it reaches, of those from the oldest on
abbrev pub IsSeenOf : List Entry → List Entry → Type 0
IsSeenOf entries prefix =
    (n : ℕ) → n < length prefix → slice_get prefix n ≡ slice_get entries n

-- of the entries from the oldest on, the flags and the prefix
pub record IsJournal (entries : List Entry) (flags : List Bool) (prefix : List Entry) : Type 0 where
  pub wide : length flags ≡ length entries
  pub ended : AreEnded (reverse entries) flags
  pub seen : IsSeenOf entries prefix
  pub early : length prefix ≤ length entries
