-- The rectangle of a block.
use Rattle.std.specs.Prelude.{ℕ, ◌≤◌, List, [], ◌++◌, Option, Some, None, length, IfSome}
use Rattle.values.specs.KeyEncoding.{longest_key}
use Rattle.values.specs.RowReading.{Parsed}
use Rattle.keyrange.specs.declared.range.KeyRange.{KeyRange}
use Rattle.keyrange.specs.declared.range.TimeRange.{TimeRange}
use Rattle.keyrange.specs.Rect.{Area}
use Rattle.blocks.specs.Field.{taken_then, key_field, end_field, instant_field, key_from, end_from, instant_from}

-- ---- what is written

abbrev pub keys_field : KeyRange → List ℕ
keys_field keys = key_field keys.lo ++ end_field keys.hi

-- only a node of history has an end, and a block
abbrev pub time_end_field : Option ℕ → List ℕ
time_end_field None = []
time_end_field (Some end) = instant_field end

abbrev pub time_field : TimeRange → List ℕ
time_field time = instant_field time.from ++ time_end_field time.to

abbrev pub rect_field : Area → List ℕ
rect_field r = keys_field r.keys ++ time_field r.time

-- as each range that a program holds: no key has over 1,609 bytes
pub record AreShortKeys (keys : KeyRange) : Type 0 where
  pub lower : length keys.lo ≤ longest_key
  pub upper : IfSome keys.hi (λ key. length key ≤ longest_key)

-- ---- what is read

unfoldable pub keys_from : List ℕ → Parsed KeyRange
keys_from bytes =
    taken_then (key_from bytes)
    (λ lo rest. taken_then (end_from rest) (λ hi left. Some (record { lo = lo; hi = hi }, left)))

unfoldable pub time_from : List ℕ → Parsed TimeRange
time_from bytes =
    taken_then (instant_from bytes)
    (λ from rest.
    taken_then (instant_from rest)
    (λ to left. Some (record { from = from; to = Some to }, left)))
