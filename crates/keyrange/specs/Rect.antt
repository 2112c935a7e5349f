-- Which points lie in rectangles. A point is a key's bytes and an instant.
use Rattle.std.specs.Prelude.{ℕ, ◌≤◌, List, Bool, true, ◌&&◌, nat_le, Option, Some, None, IsTrue}
use Rattle.values.specs.Commits.{max_instant}
use Rattle.keyrange.specs.declared.range.KeyRange.{KeyRange}
use Rattle.keyrange.specs.declared.range.TimeRange.{TimeRange}
use Rattle.keyrange.specs.Range.{is_before_end, is_early, is_key_in, is_time_in}

-- a range of keys and one of instants
pub record Area : Type 0 where
  pub keys : KeyRange
  pub time : TimeRange

-- an end, where there is one, is at most the last instant
abbrev pub is_instant_end : Option ℕ → Bool
is_instant_end None = true
is_instant_end (Some end) = nat_le end max_instant

-- what a rectangle asks of its ranges: neither is empty, and their instants are some
abbrev pub is_area : KeyRange → TimeRange → Bool
is_area keys time =
    is_before_end keys.lo keys.hi
    && (nat_le 1 time.from
    && (nat_le time.from max_instant && (is_early time.from time.to && is_instant_end time.to)))

abbrev pub IsArea : Area → Type 0
IsArea r = IsTrue (is_area r.keys r.time)

abbrev pub has_point : Area → List ℕ → ℕ → Bool
has_point r key instant = is_key_in r.keys key && is_time_in r.time instant

-- each point of the first is one of the second
abbrev pub IsInside : Area → Area → Type 0
IsInside inner outer =
    (key : List ℕ) (instant : ℕ)
    → IsTrue (has_point inner key instant) → IsTrue (has_point outer key instant)

-- a point of both, at an instant that is one
pub record Common (a b : Area) : Type 0 where
  pub key : List ℕ
  pub instant : ℕ
  pub is_first : 1 ≤ instant
  pub is_last : instant ≤ max_instant
  pub in_first : IsTrue (has_point a key instant)
  pub in_second : IsTrue (has_point b key instant)
