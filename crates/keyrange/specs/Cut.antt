-- The two halves of a cut rectangle.
use Rattle.std.specs.Prelude.{◌≡◌, ◌⊎◌, ℕ, List, Bool, ◌&&◌, not, nat_lt, nat_le, Option, Some, None, if◌then◌else◌}
use Rattle.values.specs.Commits.{max_instant}
use Rattle.keyrange.specs.declared.range.KeyRange.{KeyRange}
use Rattle.keyrange.specs.declared.range.TimeRange.{TimeRange}
use Rattle.keyrange.specs.Range.{is_below, is_before_end, is_early}
use Rattle.keyrange.specs.Rect.{is_area, Area, has_point}

-- the rectangle of two ranges
abbrev pub rect_of : KeyRange → TimeRange → Option Area
rect_of keys time = if is_area keys time then Some (record { keys = keys; time = time }) else None

-- both of two, where both are there
abbrev pub pair_of : Option Area → Option Area → Option (Area × Area)
pair_of (Some a) (Some b) = Some (a, b)
pair_of _ _ = None

-- strictly inside the range of keys
abbrev pub is_key_inside : Area → List ℕ → Bool
is_key_inside r key = is_below r.keys.lo key && is_before_end key r.keys.hi

-- strictly inside the range of instants, and an instant
abbrev pub is_time_inside : Area → ℕ → Bool
is_time_inside r instant =
    nat_lt r.time.from instant && (is_early instant r.time.to && nat_le instant max_instant)

abbrev pub halves_by_key : Area → List ℕ → Option (Area × Area)
halves_by_key r key =
    if is_key_inside r key
    then Some (
      record { keys = record { lo = r.keys.lo; hi = Some key }; time = r.time },
      record { keys = record { lo = key; hi = r.keys.hi }; time = r.time },
    )
    else None

abbrev pub halves_by_time : Area → ℕ → Option (Area × Area)
halves_by_time r instant =
    if is_time_inside r instant
    then Some (
      record { keys = r.keys; time = record { from = r.time.from; to = Some instant } },
      record { keys = r.keys; time = record { from = instant; to = r.time.to } },
    )
    else None

-- the points below the cut are in the first half and the others in the second: none in both, and none
-- in neither
pub record PartsKeys (r first second : Area) (cut : List ℕ) : Type 0 where
  pub below : (key : List ℕ) (instant : ℕ)
      → has_point first key instant ≡ (has_point r key instant && is_below key cut)
  pub above : (key : List ℕ) (instant : ℕ)
      → has_point second key instant ≡ (has_point r key instant && not (is_below key cut))

pub record PartsTime (r first second : Area) (cut : ℕ) : Type 0 where
  pub before : (key : List ℕ) (instant : ℕ)
      → has_point first key instant ≡ (has_point r key instant && nat_lt instant cut)
  pub after : (key : List ℕ) (instant : ℕ)
      → has_point second key instant ≡ (has_point r key instant && not (nat_lt instant cut))

-- the two halves at a key, or at an instant
abbrev pub AreHalves : Area → Area → Area → Type 0
AreHalves r first second =
    ((cut : List ℕ) × PartsKeys r first second cut) ⊎ ((cut : ℕ) × PartsTime r first second cut)
