-- What is listed of a block without its node: the events that are asked for, and no other is made.
use Rattle.std.specs.Prelude.{ℕ, zero, suc, List, [], ◌∷◌, ◌++◌, ◌&&◌, Bool, Option, Some, None, nat_le, if◌then◌else◌}
use Rattle.values.specs.Event.{Event}
use Rattle.values.specs.RowReading.{Parsed}
use Rattle.keyrange.specs.declared.range.KeyRange.{KeyRange}
use Rattle.keyrange.specs.Range.{is_before_end, is_key_in}
use Rattle.blocks.specs.Field.{taken_then}
use Rattle.blocks.specs.Event.{point_from, event_from}
use Rattle.blocks.specs.Lookup.{past_row_field}

-- the point is of a range of keys, and from an instant to another and with it
unfoldable pub is_asked : KeyRange → ℕ → ℕ → (List ℕ × ℕ) → Bool
is_asked range from to point = is_key_in range point.0 && (nat_le from point.1 && nat_le point.1 to)

abbrev pub made : Parsed Event → Parsed (Option Event)
made None = None
made (Some (e, rest)) = Some (Some e, rest)

abbrev pub passed : Option (List ℕ) → Parsed (Option Event)
passed None = None
passed (Some rest) = Some (None, rest)

-- the event at the start of bytes, where it is asked for, and the bytes after it; none from the end of the range on
unfoldable pub next_asked : KeyRange → ℕ → ℕ → List ℕ → Parsed (Option Event)
next_asked range from to bytes =
    taken_then (point_from bytes)
    (λ point rest.
    if is_asked range from to point then made (event_from bytes)
    else if is_before_end point.0 range.hi then passed (past_row_field rest)
    else None)

abbrev pub asked_of : Option Event → List Event
asked_of None = []
asked_of (Some e) = e ∷ []

-- of so many events, those that are asked for
abbrev pub events_asked : ℕ → List ℕ → KeyRange → ℕ → ℕ → List Event
events_asked zero bytes range from to = []
events_asked (suc n) bytes range from to = elim (next_asked range from to bytes) [
  | None ↦ []
  | Some (found, left) ↦ asked_of found ++ events_asked n left range from to
]
