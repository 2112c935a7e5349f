-- The rectangle of a range of keys and of the instants from one to another.
use Rattle.std.proofs.Common.{◌≡◌, ℕ, ◌+◌, ◌<◌, ◌≤◌, Bool, true, false, List, Option, Some, None, refl, sym, ap, ◌∙◌, arith, if◌then◌else◌, nat_lt, nat_le, max}
use Rattle.std.specs.Prelude.{not}
use Rattle.std.proofs.lemmas.Bool.{and_parts, and_from, le-leb, lt-ltb, leb-true, ltb-true}
use Rattle.std.proofs.lemmas.Bool.Decides.{nat_tests}
use Rattle.values.specs.Commits.{max_instant}
use Rattle.keyrange.specs.declared.range.KeyRange.{KeyRange}
use Rattle.keyrange.specs.Range.{is_key_in, is_time_in, is_early, is_below, is_before_end}
use Rattle.keyrange.specs.Rect.{Area, is_area, has_point, is_instant_end}
use Rattle.keyrange.proofs.RangeOrder.{above}
use Rattle.treewalk.specs.Gather.{time_between, area_between}

-- a key of the range tells that it is not empty
range_has : (range : KeyRange) (key : List ℕ) → is_key_in range key ≡ true → is_before_end range.lo range.hi ≡ true
range_has range key h = by range.hi (and_parts (not (is_below key range.lo)) _ h).0 (and_parts (not (is_below key range.lo)) _ h).1
  where
    low : (b : Bool) → not b ≡ true → b ≡ false
    low true e = cc
    low false e = refl

    by : (hi : Option (List ℕ)) → not (is_below key range.lo) ≡ true → is_before_end key hi ≡ true → is_before_end range.lo hi ≡ true
    by None a b = refl
    by (Some hi) a b = above key range.lo hi (low (is_below key range.lo) a) b

-- the end behind an instant
end_early : (t to : ℕ) → t ≤ to → (b : Bool) → is_early t (if b then Some (to + 1) else None) ≡ true
end_early t to le true = lt-ltb t (to + 1) (omega arith)
end_early t to le false = refl

end_instant : (to : ℕ) (b : Bool) → nat_lt to max_instant ≡ b → is_instant_end (if b then Some (to + 1) else None) ≡ true
end_instant to true h = le-leb (to + 1) max_instant (let lt : to < max_instant = ltb-true to max_instant h in omega arith)
end_instant to false h = refl

pub record Asked (range : KeyRange) (from to : ℕ) (key : List ℕ) (t : ℕ) : Type 0 where
  pub in_range : is_key_in range key ≡ true
  pub started : from ≤ t
  pub not_ended : t ≤ to
  pub is_first : 1 ≤ t
  pub is_last : t ≤ max_instant

abbrev pub area_of : KeyRange → ℕ → ℕ → Area
area_of range from to = record { keys = range; time = time_between from to }

module _ (range : KeyRange) (from to : ℕ) (key : List ℕ) (t : ℕ) (h : Asked range from to key t) where
  start : max from 1 ≤ t
  start = omega (arith, h.started, h.is_first)

  pub asked_is_area : is_area range (time_between from to) ≡ true
  asked_is_area =
      and_from _ _ (range_has range key h.in_range)
      (and_from _ _ (le-leb 1 (max from 1) (omega arith))
      (and_from _ _ (le-leb (max from 1) max_instant (let a = start in let b = h.is_last in omega arith))
      (and_from _ _ (end_early (max from 1) to (let a = start in let b = h.not_ended in omega arith) (nat_lt to max_instant)) (end_instant to (nat_lt to max_instant) refl))))

  pub asked_point : has_point (area_of range from to) key t ≡ true
  asked_point = and_from _ _ h.in_range (and_from _ _ (le-leb (max from 1) t start) (end_early t to h.not_ended (nat_lt to max_instant)))

  pub asked_area : area_between range from to ≡ Some (area_of range from to)
  asked_area = ap (λ b. if b then Some (area_of range from to) else None) asked_is_area

-- the one rectangle that it may be
pub area_is : (range : KeyRange) (from to : ℕ) (area : Area) → area_between range from to ≡ Some area → area ≡ area_of range from to
area_is range from to area h = by (is_area range (time_between from to)) refl
  where
    by : (b : Bool) → is_area range (time_between from to) ≡ b → area ≡ area_of range from to
    by true e = let is : Some (area_of range from to) ≡ Some area = sym (ap (λ b. if b then Some (area_of range from to) else None) e) ∙ h in cc
    by false e = let is : None ≡ Some area = sym (ap (λ b. if b then Some (area_of range from to) else None) e) ∙ h in cc

-- at one instant there is no other
pub at_instant : (range : KeyRange) (instant : ℕ) (key : List ℕ) (t : ℕ) → instant ≤ max_instant → t ≤ max_instant → has_point (area_of range instant instant) key t ≡ true → t ≡ instant
at_instant range instant key t low high h = by (nat_lt instant max_instant) refl (and_parts (nat_le (max instant 1) t) _ time).1
  where
    time : is_time_in (time_between instant instant) t ≡ true
    time = (and_parts (is_key_in range key) _ h).1

    started : max instant 1 ≤ t
    started = leb-true (max instant 1) t (and_parts _ _ time).0

    by : (b : Bool) → nat_lt instant max_instant ≡ b → is_early t (if b then Some (instant + 1) else None) ≡ true → t ≡ instant
    by true e early = let lt : t < instant + 1 = ltb-true t (instant + 1) early in let s = started in omega arith
    by false e early = let s = started in let le : max_instant ≤ instant = past instant max_instant e in omega arith
      where
        past : (n m : ℕ) → nat_lt n m ≡ false → m ≤ n
        past n m e = grind (arith, nat_tests)
