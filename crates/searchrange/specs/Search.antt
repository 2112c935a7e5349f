-- What a search condition takes of a table.
use Rattle.std.specs.Prelude.{◌≡◌, ℕ, ◌<◌, ◌&&◌, nat_lt, List, Option, Some, None, Bool, true, false, if◌then◌else◌, IfSome}
use Rattle.std.specs.Option.{option_map}
use Rattle.values.specs.declared.key.Key.{Key}
use Rattle.values.specs.declared.table.Table.{Table}
use Rattle.values.specs.declared.query.Keys.{Keys}
use Rattle.values.specs.Event.{Event}
use Rattle.values.specs.Log.{Row}
use Rattle.values.specs.Fit.{comparisons_fault}
use Rattle.values.specs.Tables.{full_row}
use Rattle.values.specs.TableRules.{IsTable}
use Rattle.values.specs.Versions.{matches}
use Rattle.values.specs.KeyReading.{IsKeyWith, key_from}
use Rattle.keyrange.specs.declared.range.KeyRange.{KeyRange}
use Rattle.keyrange.specs.Range.{is_key_in}
use Rattle.searchrange.specs.OnlyKey.{only_key, IsOnly}
use Rattle.searchrange.specs.SearchRange.{search_range, all_narrow, TakesAll}

-- a table, the keys that are asked for, and the range that they leave
pub record SearchState : Type 0 where
  pub table : Table
  pub keys : Keys
  pub range : KeyRange

-- the range says all that the condition does: each comparison is of a column that narrows; not in table
-- 255, whose range has no end
abbrev pub range_says_all : Table → Keys → Bool
range_says_all table keys = nat_lt table.number 255 && all_narrow table keys.comparisons

-- what is true of every search, of one besides that has one key, and of one whose range says all: each
-- key of the table in it meets the condition
pub record IsSearch (table : Table) (keys : Keys) (key : Option Key) (is_exact : Bool)
    : Type 0 where
  pub good : IsTable table.number table
  pub own : keys.table ≡ table.number
  pub fits : comparisons_fault table keys.comparisons ≡ None
  pub key_is : key ≡ only_key table keys
  pub only : IfSome key (IsOnly table keys)
  pub known : is_exact ≡ range_says_all table keys
  pub exact : is_exact ≡ true → TakesAll table keys (search_range table keys)

-- the bytes are of a key of the table, in the range
pub record IsOwnKey (table : Table) (range : KeyRange) (bytes : List ℕ) : Type 0 where
  pub key : Key
  pub own : IsKeyWith table bytes key
  pub inside : is_key_in range bytes ≡ true

abbrev pub IsInSearch : Table → KeyRange → List ℕ → Type 0
IsInSearch table range bytes = table.number < 255 → IsOwnKey table range bytes

-- the table's key with these bytes, where the condition takes it
abbrev pub key_taken : Table → Keys → List ℕ → Option Key
key_taken table keys bytes = elim (key_from table bytes) [
  | None ↦ None
  | Some key ↦ if matches table keys key then Some key else None
]

-- the bytes are of a key that the condition takes
abbrev pub is_taken : Table → Keys → List ℕ → Bool
is_taken table keys bytes = elim (key_from table bytes) [
  | None ↦ false
  | Some key ↦ matches table keys key
]

-- the table's key with the bytes of an event's, where there is one, and the event's row as it is stored
abbrev pub entry_read : Table → Event → Option (Key × Row)
entry_read table e = elim (key_from table e.key) [
  | None ↦ None
  | Some k ↦ option_map (λ row. (k, row)) e.row
]

-- an event's row, as wide as the table, where the condition takes its key
abbrev pub row_taken : Table → Keys → Event → Option Row
row_taken table keys e =
    if is_taken table keys e.key then option_map (full_row table) e.row else None

-- and the key, with the row as it is stored
abbrev pub entry_taken : Table → Keys → Event → Option (Key × Row)
entry_taken table keys e = elim (key_from table e.key) [
  | None ↦ None
  | Some k ↦ if matches table keys k then option_map (λ row. (k, row)) e.row else None
]
