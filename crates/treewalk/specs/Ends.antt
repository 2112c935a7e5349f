-- Whether one range ends inside another.
use Rattle.std.specs.Prelude.{ℕ, List, Bool, true, false, ◌&&◌, not, nat_le, Option, Some, None}
use Rattle.keyrange.specs.declared.range.KeyRange.{KeyRange}
use Rattle.keyrange.specs.declared.range.TimeRange.{TimeRange}
use Rattle.keyrange.specs.Range.{is_below}
use Rattle.keyrange.specs.Rect.{Area}

abbrev pub is_instant_end_within : Option ℕ → Option ℕ → Bool
is_instant_end_within end None = true
is_instant_end_within None (Some last) = false
is_instant_end_within (Some end) (Some last) = nat_le end last

abbrev pub is_bytes_end_within : Option (List ℕ) → Option (List ℕ) → Bool
is_bytes_end_within end None = true
is_bytes_end_within None (Some last) = false
is_bytes_end_within (Some end) (Some last) = not (is_below last end)

-- the first range of instants ends where the second does, or before it
abbrev pub is_time_end_within : TimeRange → TimeRange → Bool
is_time_end_within inner outer = is_instant_end_within inner.to outer.to

-- the first range of keys ends where the second does, or before it
abbrev pub is_key_end_within : KeyRange → KeyRange → Bool
is_key_end_within inner outer = is_bytes_end_within inner.hi outer.hi

-- the first rectangle ends where the second does, or before it, in both
abbrev pub ends_within : Area → Area → Bool
ends_within inner outer =
    is_time_end_within inner.time outer.time && is_key_end_within inner.keys outer.keys
