-- Both halves of a cut are rectangles, and part its points.
use Rattle.std.proofs.Common.{◌≡◌, ℕ, List, Bool, true, false, Option, Some, None, refl, sym, ap, subst, ◌∙◌, arith}
use Rattle.std.specs.Prelude.{◌&&◌, not, nat_le, nat_lt, if◌then◌else◌, IfSome}
use Rattle.std.proofs.lemmas.Bool.Decides.{nat_tests}
use Rattle.values.specs.Commits.{max_instant}
use Rattle.keyrange.specs.declared.range.KeyRange.{KeyRange}
use Rattle.keyrange.specs.declared.range.TimeRange.{TimeRange}
use Rattle.keyrange.specs.Range.{is_below, is_before_end, is_early, is_key_in, is_time_in}
use Rattle.keyrange.specs.Rect.{is_instant_end, is_area, Area}
use Rattle.keyrange.specs.Cut.{pair_of, rect_of, is_key_inside, is_time_inside, halves_by_key, halves_by_time, PartsKeys, PartsTime}
use Rattle.keyrange.proofs.RangeOrder.{not_back, above, under}
use Rattle.keyrange.proofs.RectMeeting.{both, first, second}

made_is : (keys : KeyRange) (time : TimeRange) → is_area keys time ≡ true → rect_of keys time ≡ Some (record { keys = keys; time = time })
made_is keys time e = ap (λ t. if t then Some (record { keys = keys; time = time }) else None) e

abbrev below_part : Area → List ℕ → KeyRange
below_part r key = record { lo = r.keys.lo; hi = Some key }

abbrev above_part : Area → List ℕ → KeyRange
above_part r key = record { lo = key; hi = r.keys.hi }

abbrev past_part : Area → ℕ → TimeRange
past_part r instant = record { from = r.time.from; to = Some instant }

abbrev now_part : Area → ℕ → TimeRange
now_part r instant = record { from = instant; to = r.time.to }

pub halves_made : (r : Area) (key : List ℕ) → is_area r.keys r.time ≡ true → is_key_inside r key ≡ true → pair_of (rect_of (below_part r key) r.time) (rect_of (above_part r key) r.time) ≡ halves_by_key r key
halves_made r key is inside =
    let rest = second (is_before_end r.keys.lo r.keys.hi) _ is in
    (λ i. pair_of (made_is (below_part r key) r.time (both _ _ (first _ _ inside) rest) i) (made_is (above_part r key) r.time (both _ _ (second (is_below r.keys.lo key) _ inside) rest) i))
    ∙ sym (ap (λ t. if t then Some (record { keys = below_part r key; time = r.time }, record { keys = above_part r key; time = r.time }) else None) inside)

above_first : (x y : ℕ) → nat_lt x y ≡ true → nat_le 1 x ≡ true → nat_le 1 y ≡ true
above_first x y e f = grind (arith, nat_tests)

record AreaFacts (keys : KeyRange) (time : TimeRange) : Type 0 where
  has_key : is_before_end keys.lo keys.hi ≡ true
  starts : nat_le 1 time.from ≡ true
  in_range : nat_le time.from max_instant ≡ true
  has_instant : is_early time.from time.to ≡ true
  end_in_range : is_instant_end time.to ≡ true

facts_of : (keys : KeyRange) (time : TimeRange) → is_area keys time ≡ true → AreaFacts keys time
facts_of keys time is =
    let rest : (nat_le 1 time.from && (nat_le time.from max_instant && (is_early time.from time.to && is_instant_end time.to))) ≡ true = second (is_before_end keys.lo keys.hi) _ is in
    let more : (nat_le time.from max_instant && (is_early time.from time.to && is_instant_end time.to)) ≡ true = second (nat_le 1 time.from) _ rest in
    let ends : (is_early time.from time.to && is_instant_end time.to) ≡ true = second (nat_le time.from max_instant) _ more in
    record {
      has_key = first _ _ is;
      starts = first _ _ rest;
      in_range = first _ _ more;
      has_instant = first _ _ ends;
      end_in_range = second (is_early time.from time.to) _ ends;
    }

area_of : (keys : KeyRange) (time : TimeRange) → AreaFacts keys time → is_area keys time ≡ true
area_of keys time f = both (is_before_end keys.lo keys.hi) _ f.has_key (both (nat_le 1 time.from) _ f.starts (both (nat_le time.from max_instant) _ f.in_range (both (is_early time.from time.to) _ f.has_instant f.end_in_range)))

record InsideFacts (r : Area) (instant : ℕ) : Type 0 where
  later : nat_lt r.time.from instant ≡ true
  before_end : is_early instant r.time.to ≡ true
  in_range : nat_le instant max_instant ≡ true

inside_of : (r : Area) (instant : ℕ) → is_time_inside r instant ≡ true → InsideFacts r instant
inside_of r instant inside =
    let bounded : (is_early instant r.time.to && nat_le instant max_instant) ≡ true = second (nat_lt r.time.from instant) _ inside in
    record { later = first _ _ inside; before_end = first _ _ bounded; in_range = second (is_early instant r.time.to) _ bounded }

pub times_made : (r : Area) (instant : ℕ) → is_area r.keys r.time ≡ true → is_time_inside r instant ≡ true → pair_of (rect_of r.keys (past_part r instant)) (rect_of r.keys (now_part r instant)) ≡ halves_by_time r instant
times_made r instant is inside =
    let f : AreaFacts r.keys r.time = facts_of r.keys r.time is in
    let g : InsideFacts r instant = inside_of r instant inside in
    (λ i. pair_of
    (made_is r.keys (past_part r instant) (area_of r.keys (past_part r instant) (record { has_key = f.has_key; starts = f.starts; in_range = f.in_range; has_instant = g.later; end_in_range = g.in_range })) i)
    (made_is r.keys (now_part r instant) (area_of r.keys (now_part r instant) (record { has_key = f.has_key; starts = above_first _ _ g.later f.starts; in_range = g.in_range; has_instant = g.before_end; end_in_range = f.end_in_range })) i))
    ∙ sym (ap (λ t. if t then Some (record { keys = r.keys; time = past_part r instant }, record { keys = r.keys; time = now_part r instant }) else None) inside)

-- ---- points

below_all : (a b h t : Bool) → (b ≡ true → h ≡ true) → ((a && b) && t) ≡ (((a && h) && t) && b)
below_all true true true true f = refl
below_all true true true false f = refl
below_all true true false t f = cc (f refl)
below_all true false true true f = refl
below_all true false true false f = refl
below_all true false false t f = refl
below_all false b h t f = refl

above_all : (a c h t : Bool) → (c ≡ false → a ≡ true) → ((not c && h) && t) ≡ (((a && h) && t) && not c)
above_all true true true true f = refl
above_all true true true false f = refl
above_all true true false t f = refl
above_all true false true true f = refl
above_all true false true false f = refl
above_all true false false t f = refl
above_all false true h t f = refl
above_all false false h t f = cc (f refl)

before_end : (key cut : List ℕ) (end : Option (List ℕ)) → is_before_end cut end ≡ true → is_below key cut ≡ true → is_before_end key end ≡ true
before_end key cut None inside e = refl
before_end key cut (Some end) inside e = above cut key end (not_back key cut e) inside

not_below : (key lo cut : List ℕ) → is_below lo cut ≡ true → is_below key cut ≡ false → not (is_below key lo) ≡ true
not_below key lo cut inside e = ap not (under key lo cut inside e)

pub parts_keys : (r : Area) (key : List ℕ) → is_key_inside r key ≡ true → PartsKeys r (record { keys = below_part r key; time = r.time }) (record { keys = above_part r key; time = r.time }) key
parts_keys r key inside = record {
  below = λ q t. below_all (not (is_below q r.keys.lo)) (is_below q key) (is_before_end q r.keys.hi) (is_time_in r.time t) (before_end q key r.keys.hi (second (is_below r.keys.lo key) _ inside));
  above = λ q t. above_all (not (is_below q r.keys.lo)) (is_below q key) (is_before_end q r.keys.hi) (is_time_in r.time t) (not_below q r.keys.lo key (first _ _ inside));
}

early_all : (k f b h : Bool) → (b ≡ true → h ≡ true) → (k && (f && b)) ≡ ((k && (f && h)) && b)
early_all true true true true g = refl
early_all true true true false g = cc (g refl)
early_all true true false true g = refl
early_all true true false false g = refl
early_all true false b h g = refl
early_all false f b h g = refl

late_all : (k f c h n : Bool) → n ≡ not c → (c ≡ false → f ≡ true) → (k && (n && h)) ≡ ((k && (f && h)) && not c)
late_all true true true true n e g = ap (λ n. n && true) e
late_all true true true false n e g = ap (λ n. n && false) e
late_all true true false true n e g = ap (λ n. n && true) e
late_all true true false false n e g = ap (λ n. n && false) e
late_all true false true true n e g = ap (λ n. n && true) e
late_all true false true false n e g = ap (λ n. n && false) e
late_all true false false h n e g = cc (g refl)
late_all false f c h n e g = refl

end_later : (t cut : ℕ) (end : Option ℕ) → is_early cut end ≡ true → nat_lt t cut ≡ true → is_early t end ≡ true
end_later t cut None inside e = refl
end_later t cut (Some end) inside e = grind (arith, nat_tests)

le_is : (cut t : ℕ) → nat_le cut t ≡ not (nat_lt t cut)
le_is cut t = grind (arith, nat_tests)

from_earlier : (from cut t : ℕ) → nat_lt from cut ≡ true → nat_lt t cut ≡ false → nat_le from t ≡ true
from_earlier from cut t inside e = grind (arith, nat_tests)

pub parts_time : (r : Area) (cut : ℕ) → is_time_inside r cut ≡ true → PartsTime r (record { keys = r.keys; time = past_part r cut }) (record { keys = r.keys; time = now_part r cut }) cut
parts_time r cut inside = record {
  before = λ q t. early_all (is_key_in r.keys q) (nat_le r.time.from t) (nat_lt t cut) (is_early t r.time.to) (end_later t cut r.time.to (first _ _ (second (nat_lt r.time.from cut) _ inside)));
  after = λ q t. late_all (is_key_in r.keys q) (nat_le r.time.from t) (nat_lt t cut) (is_early t r.time.to) (nat_le cut t) (le_is cut t) (from_earlier r.time.from cut t (first _ _ inside));
}

-- ---- what a cut gives

pub parted_keys : (r : Area) (key : List ℕ) (h : Option (Area × Area)) → h ≡ halves_by_key r key → IfSome h (λ p. PartsKeys r p.0 p.1 key)
parted_keys r key h e = subst (λ (h : Option (Area × Area)). IfSome h (λ p. PartsKeys r p.0 p.1 key)) (sym e) (by (is_key_inside r key) refl)
  where
    by : (t : Bool) → is_key_inside r key ≡ t → IfSome {T = Area × Area} (if t then Some (record { keys = below_part r key; time = r.time }, record { keys = above_part r key; time = r.time }) else None) (λ p. PartsKeys r p.0 p.1 key)
    by true inside = parts_keys r key inside
    by false inside = tt

pub parted_time : (r : Area) (cut : ℕ) (h : Option (Area × Area)) → h ≡ halves_by_time r cut → IfSome h (λ p. PartsTime r p.0 p.1 cut)
parted_time r cut h e = subst (λ (h : Option (Area × Area)). IfSome h (λ p. PartsTime r p.0 p.1 cut)) (sym e) (by (is_time_inside r cut) refl)
  where
    by : (t : Bool) → is_time_inside r cut ≡ t → IfSome {T = Area × Area} (if t then Some (record { keys = r.keys; time = past_part r cut }, record { keys = r.keys; time = now_part r cut }) else None) (λ p. PartsTime r p.0 p.1 cut)
    by true inside = parts_time r cut inside
    by false inside = tt
