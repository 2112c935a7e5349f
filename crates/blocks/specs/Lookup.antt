-- What is read of a block without its node. The bytes of rows are passed over.
use Rattle.std.specs.Prelude.{ℕ, zero, suc, List, [], ◌∷◌, ◌==◌, ◌&&◌, Bool, Option, Some, None, nat_le, nat_lt, if◌then◌else◌, option_and_then}
use Rattle.values.specs.Log.{Row}
use Rattle.values.specs.RowReading.{Parsed}
use Rattle.values.specs.Events.{is_bytes}
use Rattle.keyrange.specs.Range.{is_below}
use Rattle.blocks.specs.Field.{taken_then, part_from, length_from}
use Rattle.blocks.specs.Event.{point_from}
use Rattle.blocks.specs.Head.{head_from}

-- the bytes behind what was taken
abbrev pub behind : {A : Type 0} → Parsed A → Option (List ℕ)
behind None = None
behind (Some (x, rest)) = Some rest

-- ---- rows are passed over

unfoldable pub past_text : List ℕ → Option (List ℕ)
past_text bytes = behind (taken_then (length_from bytes) part_from)

unfoldable pub past_tagged : ℕ → List ℕ → Option (List ℕ)
past_tagged tag bytes =
    if tag == 1 then behind (part_from 8 bytes)
    else if tag == 2 then past_text bytes
    else if nat_le tag 4 then Some bytes
    else None

abbrev pub past_value : List ℕ → Option (List ℕ)
past_value [] = None
past_value (tag ∷ bytes) = past_tagged tag bytes

abbrev pub past_values : ℕ → List ℕ → Option (List ℕ)
past_values zero bytes = Some bytes
past_values (suc n) bytes = option_and_then (past_values n) (past_value bytes)

abbrev pub past_row : List ℕ → Option (List ℕ)
past_row [] = None
past_row (n ∷ bytes) = past_values n bytes

unfoldable pub past_row_tagged : ℕ → List ℕ → Option (List ℕ)
past_row_tagged tag bytes =
    if tag == 0 then Some bytes else if tag == 1 then past_row bytes else None

abbrev pub past_row_field : List ℕ → Option (List ℕ)
past_row_field [] = None
past_row_field (tag ∷ bytes) = past_row_tagged tag bytes

-- ---- an event is found

-- the point is of the key, above an instant, and not above another
unfoldable pub is_wanted : List ℕ → ℕ → ℕ → (List ℕ × ℕ) → Bool
is_wanted key low high point =
    is_bytes key point.0 && (nat_lt low point.1 && nat_le point.1 high)

-- the last wanted of so many events: its instant, and the bytes from its row on
abbrev pub event_place : ℕ → List ℕ → List ℕ → ℕ → ℕ → Parsed ℕ → Parsed ℕ
event_place zero bytes key low high found = found
event_place (suc n) bytes key low high found =
    taken_then (point_from bytes)
    (λ point rest.
    if is_below key point.0 then found
    else elim (past_row_field rest) [
      | None ↦ None
      | Some left ↦ event_place n left key low high
          (if is_wanted key low high point then Some (point.1, rest) else found)
    ])

-- the first wanted of so many events: its instant, and the bytes from its row on
abbrev pub first_place : ℕ → List ℕ → List ℕ → ℕ → ℕ → Parsed ℕ
first_place zero bytes key low high = None
first_place (suc n) bytes key low high =
    taken_then (point_from bytes)
    (λ point rest.
    if is_wanted key low high point then Some (point.1, rest)
    else if is_below key point.0 then None
    else elim (past_row_field rest) [
      | None ↦ None
      | Some left ↦ first_place n left key low high
    ])

-- the number of a block's events, and the bytes from the first on
unfoldable pub events_place : List ℕ → Parsed ℕ
events_place bytes = taken_then (head_from bytes) (λ head events. Some (head.1.1, events))

unfoldable pub place_in : List ℕ → List ℕ → ℕ → ℕ → Parsed ℕ
place_in bytes key low high =
    taken_then (events_place bytes) (λ n events. event_place n events key low high None)

unfoldable pub first_in : List ℕ → List ℕ → ℕ → ℕ → Parsed ℕ
first_in bytes key low high =
    taken_then (events_place bytes) (λ n events. first_place n events key low high)

-- the row of an event whose row's bytes come next
abbrev pub row_of_field : Parsed (Option Row) → Option Row
row_of_field None = None
row_of_field (Some (row, rest)) = row
