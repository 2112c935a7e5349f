-- The events of a block.
use Rattle.std.specs.Prelude.{ℕ, zero, suc, ◌<◌, ◌≤◌, List, [], ◌∷◌, ◌++◌, ◌==◌, ◌&&◌, Option, Some, None, length, drop, nat_le, nat_lt, All, IfSome, if◌then◌else◌}
use Rattle.std.specs.List.{flat_map}
use Rattle.values.specs.Event.{Event}
use Rattle.values.specs.Log.{Row}
use Rattle.values.specs.KeyEncoding.{longest_key}
use Rattle.values.specs.RowEncoding.{bytes_of_row, IsStoredRow, IsHeld}
use Rattle.values.specs.RowReading.{Parsed, row_from, after}
use Rattle.blocks.specs.Field.{taken_then, key_field, instant_field, key_from, instant_from}

-- ---- what is written

-- a deletion has no row
abbrev pub row_field : Option Row → List ℕ
row_field None = 0 ∷ []
row_field (Some row) = 1 ∷ bytes_of_row row

abbrev pub event_field : Event → List ℕ
event_field e = key_field e.key ++ (instant_field e.at ++ row_field e.row)

abbrev pub event_fields : List Event → List ℕ
event_fields es = flat_map event_field es

-- as each event that a program holds: its key has 1 to 1,609 bytes, and its row is one
pub record IsKept (e : Event) : Type 0 where
  pub some_key : 0 < length e.key
  pub short_key : length e.key ≤ longest_key
  pub stored : IfSome e.row IsStoredRow
  pub held : IfSome e.row (All IsHeld)

-- ---- what is read

-- a key and an instant
unfoldable pub point_from : List ℕ → Parsed (List ℕ × ℕ)
point_from bytes =
    taken_then (key_from bytes)
    (λ key rest. taken_then (instant_from rest) (λ at left. Some ((key, at), left)))

-- a row, and the bytes behind those that it took
abbrev pub row_taken : List ℕ → Option (Row × ℕ) → Parsed (Option Row)
row_taken bytes None = None
row_taken bytes (Some (row, n)) = Some (Some row, drop n bytes)

unfoldable pub row_tagged : ℕ → List ℕ → Parsed (Option Row)
row_tagged tag bytes =
    if tag == 0 then Some (None, bytes)
    else if tag == 1 then row_taken bytes (row_from bytes)
    else None

abbrev pub row_field_from : List ℕ → Parsed (Option Row)
row_field_from [] = None
row_field_from (tag ∷ bytes) = row_tagged tag bytes

-- no key is empty, and instants begin with 1
unfoldable pub event_of : (List ℕ × ℕ) → Option Row → List ℕ → Parsed Event
event_of point row rest =
    if nat_lt 0 (length point.0) && nat_le 1 point.1
    then Some (record { key = point.0; at = point.1; row = row }, rest)
    else None

unfoldable pub event_from : List ℕ → Parsed Event
event_from bytes =
    taken_then (point_from bytes) (λ point rest. taken_then (row_field_from rest) (event_of point))

abbrev pub events_from : ℕ → List ℕ → Parsed (List Event)
events_from zero bytes = Some ([], bytes)
events_from (suc n) bytes =
    taken_then (event_from bytes) (λ e rest. after (e ∷ []) (events_from n rest))
