-- Which keys and which instants lie in ranges. A key is its bytes.
use Rattle.std.specs.Prelude.{ℕ, List, Bool, true, ◌&&◌, not, nat_le, nat_lt, Option, Some, None}
use Rattle.std.specs.Ordering.{nat_cmp, is_lt}
use Rattle.std.specs.Cmp.Lexicographic.{slice_cmp}
use Rattle.keyrange.specs.declared.range.KeyRange.{KeyRange}
use Rattle.keyrange.specs.declared.range.TimeRange.{TimeRange}

abbrev pub is_below : List ℕ → List ℕ → Bool
is_below key other = is_lt (slice_cmp nat_cmp key other)

-- below an end; none lies above all
abbrev pub is_before_end : List ℕ → Option (List ℕ) → Bool
is_before_end key None = true
is_before_end key (Some end) = is_below key end

abbrev pub is_early : ℕ → Option ℕ → Bool
is_early instant None = true
is_early instant (Some end) = nat_lt instant end

-- closed at its start and open at its end
abbrev pub is_key_in : KeyRange → List ℕ → Bool
is_key_in range key = not (is_below key range.lo) && is_before_end key range.hi

abbrev pub is_time_in : TimeRange → ℕ → Bool
is_time_in range instant = nat_le range.from instant && is_early instant range.to

-- each begins before the other ends
abbrev pub key_ranges_meet : KeyRange → KeyRange → Bool
key_ranges_meet a b = is_before_end a.lo b.hi && is_before_end b.lo a.hi

abbrev pub time_ranges_meet : TimeRange → TimeRange → Bool
time_ranges_meet a b = is_early a.from b.to && is_early b.from a.to
