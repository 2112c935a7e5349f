-- Spans: what overlaps what.
use Rattle.std.proofs.Common.{◌≡◌, Bool, true, false, ◌&&◌, refl, arith, ℤ, int_lt, int_le}
use Rattle.std.proofs.lemmas.Int.{ints, clamps}
use Rattle.std.specs.Int.{int_min, int_max}
use Rattle.values.specs.declared.period.Span.{Span}
use Rattle.values.specs.Period.{is_span, overlap, common, before, behind}
use Rattle.values.specs.Times.{lies_in}

and_turned : (a b : Bool) → (a && b) ≡ (b && a)
and_turned true true = refl
and_turned true false = refl
and_turned false true = refl
and_turned false false = refl

pub overlap_turned : (s t : Span) → overlap s t ≡ overlap t s
overlap_turned s t = and_turned (int_lt s.from t.to) (int_lt t.from s.to)

-- a part of what overlaps nothing of u overlaps nothing of u
pub part_apart : (s t u : Span) → lies_in s t ≡ true → overlap t u ≡ false → overlap s u ≡ false
part_apart s t u = by s.from s.to t.from t.to u.from u.to
  where
    by : (a b c d e f : ℤ) → (int_le c a && int_le b d) ≡ true → (int_lt c f && int_lt e d) ≡ false → (int_lt a f && int_lt e b) ≡ false
    by a b c d e f h k = grind (arith, ints)

pub before_in : (s t : Span) → overlap s t ≡ true → lies_in (before s t) s ≡ true
before_in s t = by s.from s.to t.from t.to
  where
    by : (a b c d : ℤ) → (int_lt a d && int_lt c b) ≡ true → (int_le a a && int_le c b) ≡ true
    by a b c d h = grind (arith, ints)

pub behind_in : (s t : Span) → overlap s t ≡ true → lies_in (behind s t) s ≡ true
behind_in s t = by s.from s.to t.from t.to
  where
    by : (a b c d : ℤ) → (int_lt a d && int_lt c b) ≡ true → (int_le a d && int_le b b) ≡ true
    by a b c d h = grind (arith, ints)

pub common_in : (s t : Span) → lies_in (common s t) s ≡ true
common_in s t = by s.from s.to t.from t.to
  where
    by : (a b c d : ℤ) → (int_le a (int_max a c) && int_le (int_min b d) b) ≡ true
    by a b c d = grind (arith, ints, clamps)

pub before_common : (s t : Span) → overlap (before s t) (common s t) ≡ false
before_common s t = by s.from s.to t.from t.to
  where
    by : (a b c d : ℤ) → (int_lt a (int_min b d) && int_lt (int_max a c) c) ≡ false
    by a b c d = grind (arith, ints, clamps)

pub common_behind : (s t : Span) → overlap (common s t) (behind s t) ≡ false
common_behind s t = by s.from s.to t.from t.to
  where
    by : (a b c d : ℤ) → (int_lt (int_max a c) b && int_lt d (int_min b d)) ≡ false
    by a b c d = grind (arith, ints, clamps)

pub before_behind : (s t : Span) → is_span t ≡ true → overlap (before s t) (behind s t) ≡ false
before_behind s t = by s.from s.to t.from t.to
  where
    by : (a b c d : ℤ) → int_lt c d ≡ true → (int_lt a b && int_lt d c) ≡ false
    by a b c d h = grind (arith, ints)
