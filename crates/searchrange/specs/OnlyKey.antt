-- The one key that a search condition may leave.
use Rattle.std.specs.Prelude.{◌≡◌, ℕ, ◌+◌, List, [], ◌∷◌, Option, Some, None, ◌&&◌, is_none, if◌then◌else◌, option_and_then}
use Rattle.std.specs.Option.{option_map}
use Rattle.values.specs.declared.value.Value.{Value}
use Rattle.values.specs.declared.key.Key.{Key}
use Rattle.values.specs.declared.table.Table.{Table}
use Rattle.values.specs.declared.query.Comparison.{Comparison}
use Rattle.values.specs.declared.query.Keys.{Keys}
use Rattle.values.specs.Fit.{key_fault}
use Rattle.values.specs.Order.{is_key}
use Rattle.values.specs.KeyReading.{IsKeyOf}
use Rattle.values.specs.Versions.{matches}
use Rattle.searchrange.specs.SearchRange.{equal_at}

-- the values that the key's columns are to be equal to, from a place on, where each is to be equal to one
abbrev pub equal_parts : Table → List Comparison → ℕ → List ℕ → Option (List Value)
equal_parts table cs place [] = Some []
equal_parts table cs place (_ ∷ columns) = elim (equal_at table place cs) [
  | None ↦ None
  | Some value ↦ option_map (λ vs. value ∷ vs) (equal_parts table cs (place + 1) columns)
]

-- a table's key with these values
abbrev pub with_parts : Table → List Value → Key
with_parts table parts = record { table = table.number; parts = parts }

-- that key, where it fits the table and meets the condition
abbrev pub key_meeting : Table → Keys → List Value → Option Key
key_meeting table keys parts =
    if is_none (key_fault table parts) && matches table keys (with_parts table parts)
    then Some (with_parts table parts)
    else None

-- the key that has in each column the value that the column is to be equal to
abbrev pub only_key : Table → Keys → Option Key
only_key table keys =
    option_and_then (key_meeting table keys) (equal_parts table keys.comparisons 0 table.key)

-- of the table's keys the condition takes this one and no other
pub record IsOnly (table : Table) (keys : Keys) (key : Key) : Type 0 where
  pub own : IsKeyOf table key
  pub takes : (k : Key) → IsKeyOf table k → matches table keys k ≡ is_key key k
