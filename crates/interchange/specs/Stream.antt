-- What is loaded from a reader.
use Rattle.std.specs.Prelude.{◌≡◌, ◌⊎◌, ℕ, List, ◌++◌, Option, Some, None, Result, Err}
use Rattle.values.specs.declared.table.Table.{Table}
use Rattle.values.specs.declared.refusal.Refusal.{Refusal}
use Rattle.values.specs.declared.refusal.Refusal.TheVariants.{Memory}
use Rattle.values.specs.Log.{Row}
use Rattle.interchange.specs.declared.stream.LoadFault.{LoadFault}
use Rattle.interchange.specs.declared.stream.LoadFault.TheVariants.{Read, Refused}
use Rattle.interchange.specs.Load.{Record, AreRecordsOf, rows_of, inserted}
use Rattle.interchange.specs.Loading.{IsWholeOf, IsWhyOf}

-- the bytes are those that are known, where any are
abbrev pub IsGiven : Option (List ℕ) → List ℕ → Type 0
IsGiven None bytes = Unit {0}
IsGiven (Some known) bytes = bytes ≡ known

-- bytes, all that are known, write these rows, which an INSERT over no rows takes, or this is why there
-- are none
pub record IsLoadOf (table : Table) (known : Option (List ℕ)) (result : Result (List Row) Refusal)
    : Type 0 where
  pub bytes : List ℕ
  pub given : IsGiven known bytes
  pub records : List Record
  pub are_records : AreRecordsOf bytes records
  pub rows_are : inserted table (rows_of table records) ≡ result

-- why nothing is loaded: the reader failed, memory ran out, or the bytes say so
abbrev pub IsUnloaded : LoadFault → Table → Option (List ℕ) → Type 0
IsUnloaded Read table known = Unit {0}
IsUnloaded (Refused why) table known = (why ≡ Memory) ⊎ IsLoadOf table known (Err why)

-- the same of what follows a text
pub record IsLoadAfter (table : Table) (text : List ℕ) (known : Option (List ℕ))
    (result : Result (List Row) Refusal) : Type 0 where
  pub rest : List ℕ
  pub given : IsGiven known rest
  pub whole : IsWholeOf table (text ++ rest) result

abbrev pub IsUnloadedAfter : LoadFault → Table → List ℕ → Option (List ℕ) → Type 0
IsUnloadedAfter Read table text known = Unit {0}
IsUnloadedAfter (Refused why) table text known =
    (why ≡ Memory) ⊎ IsLoadAfter table text known (Err why)

-- a fault that says nothing of the bytes
abbrev pub IsOfReading : LoadFault → Type 0
IsOfReading Read = Unit {0}
IsOfReading (Refused why) = why ≡ Memory

-- a fault that the end of a text shows
abbrev pub IsEndedBy : LoadFault → Table → List ℕ → Type 0
IsEndedBy Read table text = ⊥
IsEndedBy (Refused why) table text = IsWhyOf why table text
