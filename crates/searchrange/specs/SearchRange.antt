-- The range of key bytes that holds each key of a search condition: comparisons on the leading key columns narrow it.
use Rattle.std.specs.Prelude.{◌≡◌, ℕ, ◌+◌, List, [], ◌∷◌, ◌++◌, Option, Some, None, Bool, true, false, ◌&&◌, ◌==◌, nat_le, nat_lt, length, position, if◌then◌else◌}
use Rattle.std.specs.List.{list_all}
use Rattle.values.specs.declared.table.Table.{Table}
use Rattle.values.specs.declared.key.Key.{Key}
use Rattle.values.specs.declared.value.Value.{Value}
use Rattle.values.specs.declared.query.Operator.{Operator}
use Rattle.values.specs.declared.query.Operator.TheVariants.{Equal, Below, AtMost, Above, AtLeast}
use Rattle.values.specs.declared.query.Comparison.{Comparison}
use Rattle.values.specs.declared.query.Keys.{Keys}
use Rattle.values.specs.KeyEncoding.{part_bytes, bytes_of_key, longest_key}
use Rattle.values.specs.KeyReading.{IsKeyOf}
use Rattle.values.specs.Versions.{matches}
use Rattle.keyrange.specs.declared.range.KeyRange.{KeyRange}
use Rattle.keyrange.specs.Range.{is_below, is_before_end, is_key_in}

-- the keys of a table, by its number: the first byte of each; 255 is the greatest byte
abbrev pub range_of_table : ℕ → KeyRange
range_of_table number =
    record { lo = number ∷ []; hi = if number == 255 then None else Some ((number + 1) ∷ []) }

-- the least bytes above all that begin with these: the last byte that is no 255 is one higher, and
-- what follows it is left out; none where all are 255
abbrev pub next_prefix : List ℕ → Option (List ℕ)
next_prefix [] = None
next_prefix (b ∷ bs) = elim (next_prefix bs) [
  | Some more ↦ Some (b ∷ more)
  | None ↦ if b == 255 then None else Some ((b + 1) ∷ [])
]

-- no key has more than 1,609 bytes, and so no bound
abbrev pub is_bound : List ℕ → Bool
is_bound bytes = nat_le (length bytes) longest_key

-- the range from these bytes on
abbrev pub from_bytes : List ℕ → KeyRange → KeyRange
from_bytes bytes range =
    if is_bound bytes && is_below range.lo bytes then record { lo = bytes; hi = range.hi }
    else range

-- the range before these bytes
abbrev pub before_bytes : List ℕ → KeyRange → KeyRange
before_bytes bytes range =
    if is_bound bytes && is_before_end bytes range.hi
    then record { lo = range.lo; hi = Some bytes }
    else range

-- the range from the least bytes above all that begin with these on; where there are none, no key is
-- left: it ends before all keys
abbrev pub after_prefix : List ℕ → KeyRange → KeyRange
after_prefix bytes range = elim (next_prefix bytes) [
  | None ↦ before_bytes [] range
  | Some next ↦ from_bytes next range
]

-- the range up to what begins with these bytes, and with it
abbrev pub upto_prefix : List ℕ → KeyRange → KeyRange
upto_prefix bytes range = elim (next_prefix bytes) [
  | None ↦ range
  | Some next ↦ before_bytes next range
]

-- the range narrowed to the keys whose value behind a prefix compares so, where bytes are the prefix
-- and the bytes of the value that it is compared with
abbrev pub narrowed : Operator → List ℕ → KeyRange → KeyRange
narrowed Equal bytes range = upto_prefix bytes (from_bytes bytes range)
narrowed Below bytes range = before_bytes bytes range
narrowed AtMost bytes range = upto_prefix bytes range
narrowed Above bytes range = after_prefix bytes range
narrowed AtLeast bytes range = from_bytes bytes range

abbrev pub is_equality : Operator → Bool
is_equality Equal = true
is_equality _ = false

abbrev pub is_place : ℕ → Option ℕ → Bool
is_place place None = false
is_place place (Some other) = other == place

-- the column compared is the key's column at a place, from 0
abbrev pub is_at : Table → ℕ → Comparison → Bool
is_at table place c = is_place place (position (λ k. k == c.column) table.key)

-- the range narrowed by all comparisons at a place, behind a prefix
abbrev pub narrowed_at : Table → ℕ → List ℕ → List Comparison → KeyRange → KeyRange
narrowed_at table place prefix [] range = range
narrowed_at table place prefix (c ∷ cs) range =
    narrowed_at table place prefix cs
    (if is_at table place c then narrowed c.operator (prefix ++ part_bytes c.value) range
    else range)

-- the value that the column at a place is to be equal to: the first, where there are more
abbrev pub equal_at : Table → ℕ → List Comparison → Option Value
equal_at table place [] = None
equal_at table place (c ∷ cs) =
    if is_at table place c && is_equality c.operator then Some c.value
    else equal_at table place cs

-- the range narrowed at a place and at those behind it, for the key's columns from the place on, up
-- to and with the first that is not to be equal to a value
abbrev pub narrowed_from : Table → List Comparison → ℕ → List ℕ → List ℕ → KeyRange → KeyRange
narrowed_from table cs place prefix [] range = range
narrowed_from table cs place prefix (_ ∷ columns) range = elim (equal_at table place cs) [
  | None ↦ narrowed_at table place prefix cs range
  | Some value ↦
      narrowed_from table cs (place + 1) (prefix ++ part_bytes value) columns
      (narrowed_at table place prefix cs range)
]

-- the table's range, narrowed by comparisons that fit the table
abbrev pub search_range : Table → Keys → KeyRange
search_range table keys =
    narrowed_from table keys.comparisons 0 (table.number ∷ []) table.key
    (range_of_table table.number)

-- each key of the table that meets the comparisons is in the range
abbrev pub Covers : Table → Keys → KeyRange → Type 0
Covers table keys range =
    (key : Key) → IsKeyOf table key → matches table keys key ≡ true
    → is_key_in range (bytes_of_key key) ≡ true

-- the place behind the last column that narrows, from a place on: those narrow up to and with the first
-- that is not to be equal to a value
abbrev pub narrowing_end : Table → List Comparison → ℕ → List ℕ → ℕ
narrowing_end table cs place [] = place
narrowing_end table cs place (_ ∷ columns) = elim (equal_at table place cs) [
  | None ↦ place + 1
  | Some _ ↦ narrowing_end table cs (place + 1) columns
]

abbrev pub is_before_place : ℕ → Option ℕ → Bool
is_before_place end None = false
is_before_place end (Some place) = nat_lt place end

-- the comparison is of a column that narrows
abbrev pub narrows : Table → List Comparison → Comparison → Bool
narrows table cs c =
    is_before_place (narrowing_end table cs 0 table.key) (position (λ k. k == c.column) table.key)

-- each comparison is of a column that narrows
abbrev pub all_narrow : Table → List Comparison → Bool
all_narrow table cs = list_all (narrows table cs) cs

-- each key of the table in the range meets the comparisons
abbrev pub TakesAll : Table → Keys → KeyRange → Type 0
TakesAll table keys range =
    (key : Key) → IsKeyOf table key → is_key_in range (bytes_of_key key) ≡ true
    → matches table keys key ≡ true

-- each key in the first range is in the second
abbrev pub IsWithin : KeyRange → KeyRange → Type 0
IsWithin inner outer =
    (key : List ℕ) → is_key_in inner key ≡ true → is_key_in outer key ≡ true
