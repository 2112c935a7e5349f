-- What a block begins with: the mark of its form, and in form 2 the greatest number of values of a row.
use Rattle.std.specs.Prelude.{ℕ, ◌==◌, Bool, true, List, [], ◌∷◌, ◌++◌, Option, Some, None, length, take, drop, max, nat_eq, if◌then◌else◌}
use Rattle.std.specs.Cmp.Lexicographic.{pointwise}
use Rattle.values.specs.Event.{Event}
use Rattle.values.specs.Log.{Row}
use Rattle.values.specs.RowReading.{Parsed}
use Rattle.blocks.specs.Field.{taken_then, byte_from}

-- TSB1
abbrev pub first_mark : List ℕ
first_mark = 84 ∷ 83 ∷ 66 ∷ 49 ∷ []

-- TSB2
abbrev pub second_mark : List ℕ
second_mark = 84 ∷ 83 ∷ 66 ∷ 50 ∷ []

-- a deletion has no values
abbrev pub row_width : Option Row → ℕ
row_width None = 0
row_width (Some row) = length row

-- the greatest number of values of a row, 0 where no event has one
abbrev pub greatest_width : List Event → ℕ
greatest_width [] = 0
greatest_width (e ∷ es) = max (row_width e.row) (greatest_width es)

-- what a block states is right: nothing, or the greatest width
abbrev pub is_right : Option ℕ → List Event → Bool
is_right None es = true
is_right (Some width) es = width == greatest_width es

-- ---- what is written

-- form 1 states nothing, form 2 a width
abbrev pub start_field : Option ℕ → List ℕ
start_field None = first_mark
start_field (Some width) = second_mark ++ width ∷ []

-- ---- what is read

-- the bytes behind a mark
unfoldable pub mark_from : List ℕ → List ℕ → Option (List ℕ)
mark_from mark bytes =
    if pointwise nat_eq (take 4 bytes) mark then Some (drop 4 bytes) else None

abbrev pub width_from : Option (List ℕ) → Parsed (Option ℕ)
width_from None = None
width_from (Some rest) = taken_then (byte_from rest) (λ width left. Some (Some width, left))

-- what a block states
unfoldable pub start_from : List ℕ → Parsed (Option ℕ)
start_from bytes = elim (mark_from first_mark bytes) [
  | Some rest ↦ Some (None, rest)
  | None ↦ width_from (mark_from second_mark bytes)
]
