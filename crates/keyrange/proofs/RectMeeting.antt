-- Rectangles meet where their ranges do.
use Rattle.std.proofs.Common.{◌≡◌, ℕ, ◌≤◌, List, Bool, true, false, Option, Some, None, refl, arith}
use Rattle.std.specs.Prelude.{◌&&◌, not, nat_le}
use Rattle.std.proofs.lemmas.Bool.Decides.{nat_tests}
use Rattle.values.specs.Commits.{max_instant}
use Rattle.keyrange.specs.declared.range.KeyRange.{KeyRange}
use Rattle.keyrange.specs.declared.range.TimeRange.{TimeRange}
use Rattle.keyrange.specs.Range.{is_below, is_before_end, is_early, is_key_in, is_time_in, key_ranges_meet, time_ranges_meet}
use Rattle.keyrange.specs.Rect.{is_area, Area, Common}
use Rattle.keyrange.proofs.RangeOrder.{not_itself, not_back, above}

pub both : (a b : Bool) → a ≡ true → b ≡ true → (a && b) ≡ true
both true b e f = f
both false b e f = e

pub first : (a b : Bool) → (a && b) ≡ true → a ≡ true
first true b e = refl
first false b e = e

pub second : (a b : Bool) → (a && b) ≡ true → b ≡ true
second true b e = e
second false b e = cc

negated : (a : Bool) → a ≡ false → not a ≡ true
negated true e = cc
negated false e = refl

denied : (a : Bool) → not a ≡ true → a ≡ false
denied true e = cc
denied false e = refl

-- ---- keys

record KeyInBoth (a b : KeyRange) : Type 0 where
  key : List ℕ
  in_first : is_key_in a key ≡ true
  in_second : is_key_in b key ≡ true

-- the higher of the two starts lies in both
key_in_both : (a b : KeyRange) → is_before_end a.lo a.hi ≡ true → is_before_end b.lo b.hi ≡ true → key_ranges_meet a b ≡ true → KeyInBoth a b
key_in_both a b ends_a ends_b meets = by (is_below a.lo b.lo) refl
  where
    by : (t : Bool) → is_below a.lo b.lo ≡ t → KeyInBoth a b
    by true e = record {
      key = b.lo;
      in_first = both _ _ (negated _ (not_back a.lo b.lo e)) (second (is_before_end a.lo b.hi) _ meets);
      in_second = both _ _ (negated _ (not_itself b.lo)) ends_b;
    }
    by false e = record {
      key = a.lo;
      in_first = both _ _ (negated _ (not_itself a.lo)) ends_a;
      in_second = both _ _ (negated _ e) (first (is_before_end a.lo b.hi) _ meets);
    }

end_above : (k lo : List ℕ) (end : Option (List ℕ)) → is_below k lo ≡ false → is_before_end k end ≡ true → is_before_end lo end ≡ true
end_above k lo None low high = refl
end_above k lo (Some end) low high = above k lo end low high

keys_meet : (a b : KeyRange) (k : List ℕ) → is_key_in a k ≡ true → is_key_in b k ≡ true → key_ranges_meet a b ≡ true
keys_meet a b k p q = both _ _ (end_above k a.lo b.hi (denied _ (first _ _ p)) (second (not (is_below k b.lo)) _ q)) (end_above k b.lo a.hi (denied _ (first _ _ q)) (second (not (is_below k a.lo)) _ p))

-- ---- instants

record TimeInBoth (a b : TimeRange) : Type 0 where
  instant : ℕ
  is_first : 1 ≤ instant
  is_last : instant ≤ max_instant
  in_first : is_time_in a instant ≡ true
  in_second : is_time_in b instant ≡ true

at_most : (x y : ℕ) → nat_le x y ≡ true → x ≤ y
at_most x y e = grind (arith, nat_tests)

is_at_most : (x y : ℕ) → x ≤ y → nat_le x y ≡ true
is_at_most x y e = grind (arith, nat_tests)

later : (x y : ℕ) → nat_le x y ≡ false → y ≤ x
later x y e = grind (arith, nat_tests)

time_in_both : (a b : TimeRange) → 1 ≤ a.from → 1 ≤ b.from → a.from ≤ max_instant → b.from ≤ max_instant → is_early a.from a.to ≡ true → is_early b.from b.to ≡ true → time_ranges_meet a b ≡ true → TimeInBoth a b
time_in_both a b one_a one_b last_a last_b ends_a ends_b meets = by (nat_le a.from b.from) refl
  where
    by : (t : Bool) → nat_le a.from b.from ≡ t → TimeInBoth a b
    by true e = record {
      instant = b.from;
      is_first = one_b;
      is_last = last_b;
      in_first = both _ _ e (second (is_early a.from b.to) _ meets);
      in_second = both _ _ (is_at_most b.from b.from (omega arith)) ends_b;
    }
    by false e = record {
      instant = a.from;
      is_first = one_a;
      is_last = last_a;
      in_first = both _ _ (is_at_most a.from a.from (omega arith)) ends_a;
      in_second = both _ _ (is_at_most b.from a.from (later _ _ e)) (first (is_early a.from b.to) _ meets);
    }

early_above : (t from : ℕ) (end : Option ℕ) → nat_le from t ≡ true → is_early t end ≡ true → is_early from end ≡ true
early_above t from None low high = refl
early_above t from (Some end) low high = grind (arith, nat_tests)

times_meet : (a b : TimeRange) (t : ℕ) → is_time_in a t ≡ true → is_time_in b t ≡ true → time_ranges_meet a b ≡ true
times_meet a b t p q = both _ _ (early_above t a.from b.to (first _ _ p) (second (nat_le b.from t) _ q)) (early_above t b.from a.to (first _ _ q) (second (nat_le a.from t) _ p))

-- ---- rectangles

pub common_point : (a b : Area) → is_area a.keys a.time ≡ true → is_area b.keys b.time ≡ true → key_ranges_meet a.keys b.keys ≡ true → time_ranges_meet a.time b.time ≡ true → Common a b
common_point a b is_a is_b keys times =
    let rest_a = second (is_before_end a.keys.lo a.keys.hi) _ is_a in
    let rest_b = second (is_before_end b.keys.lo b.keys.hi) _ is_b in
    let more_a = second (nat_le 1 a.time.from) _ rest_a in
    let more_b = second (nat_le 1 b.time.from) _ rest_b in
    let key = key_in_both a.keys b.keys (first _ _ is_a) (first _ _ is_b) keys in
    let time = time_in_both a.time b.time (at_most _ _ (first _ _ rest_a)) (at_most _ _ (first _ _ rest_b)) (at_most _ _ (first _ _ more_a)) (at_most _ _ (first _ _ more_b))
    (first (is_early a.time.from a.time.to) _ (second (nat_le a.time.from max_instant) _ more_a)) (first (is_early b.time.from b.time.to) _ (second (nat_le b.time.from max_instant) _ more_b)) times in
    record {
      key = key.key;
      instant = time.instant;
      is_first = time.is_first;
      is_last = time.is_last;
      in_first = both _ _ key.in_first time.in_first;
      in_second = both _ _ key.in_second time.in_second;
    }

pub keys_of_common : (a b : Area) → Common a b → key_ranges_meet a.keys b.keys ≡ true
keys_of_common a b c = keys_meet a.keys b.keys c.key (first _ _ c.in_first) (first _ _ c.in_second)

pub times_of_common : (a b : Area) → Common a b → time_ranges_meet a.time b.time ≡ true
times_of_common a b c = times_meet a.time b.time c.instant (second (is_key_in a.keys c.key) _ c.in_first) (second (is_key_in b.keys c.key) _ c.in_second)
