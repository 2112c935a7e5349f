-- The references of a half have points of it, as they had points of the whole.
use Rattle.std.proofs.Common.{◌≡◌, ℕ, ◌<◌, ◌≤◌, List, [], ◌∷◌, ◌++◌, Bool, true, false, max, refl, sym, subst, ◌∙◌, arith}
use Rattle.std.specs.Prelude.{IsTrue, not, nat_lt, nat_le}
use Rattle.std.specs.List.{filter, All}
use Rattle.std.proofs.lemmas.Bool.Decides.{nat_tests}
use Rattle.std.proofs.lemmas.List.Elements.{All-nil, All-cons, All-append}
use Rattle.values.specs.Commits.{max_instant}
use Rattle.keyrange.specs.Rect.{Area, is_area, Common, IsInside}
use Rattle.keyrange.specs.Range.{is_key_in, is_time_in, is_below, is_before_end, is_early}
use Rattle.keyrange.specs.Cut.{is_key_inside, is_time_inside, PartsKeys, PartsTime}
use Rattle.keyrange.proofs.RectMeeting.{both, first, second, common_point}
use Rattle.keyrange.proofs.RangeOrder.{not_itself, not_back, above}
use Rattle.indexnode.specs.declared.reference.Reference.{Reference}
use Rattle.indexnode.specs.Node.{AllMeet}
use Rattle.indexnode.specs.Split.{reaches_below, reaches_up, starts_before, ends_after}
use Rattle.indexnode.specs.Replacement.{Replaced}
use Rattle.indexnode.proofs.SplitCurrent.{all_taken}
use Rattle.indexnode.proofs.SplitInstants.{up_to, at_most, is_less, less, early_before}
use Rattle.indexnode.proofs.SplitTiling.{denied, negated, end_above}
use Rattle.indexnode.proofs.ReplacementPlace.{fronts, backs}

pub starts_at_1 : (r : Area) → IsTrue (is_area r.keys r.time) → 1 ≤ r.time.from
starts_at_1 r is_one = at_most 1 r.time.from (first _ _ (second (is_before_end r.keys.lo r.keys.hi) _ is_one))

-- what lies inside has a point of it
inside_meets : (r outer : Area) → IsTrue (is_area r.keys r.time) → IsInside r outer → Common r outer
inside_meets r outer is_one lies =
    let keys : is_before_end r.keys.lo r.keys.hi ≡ true = first _ _ is_one in
    let early : is_early r.time.from r.time.to ≡ true = first _ _ (second (nat_le r.time.from max_instant) _ (second (nat_le 1 r.time.from) _ (second (is_before_end r.keys.lo r.keys.hi) _ is_one))) in
    let c = common_point r r is_one is_one (both _ _ keys keys) (both _ _ early early) in
    record { key = c.key; instant = c.instant; is_first = c.is_first; is_last = c.is_last; in_first = c.in_first; in_second = lies c.key c.instant c.in_first }

module _ (area one other : Area) (cut : List ℕ) (parts : PartsKeys area one other cut) (inside : is_key_inside area cut ≡ true) where
  pub below_meets : (r : Area) → Common r area → reaches_below cut r ≡ true → Common r one
  below_meets r c reaches = by (is_below c.key cut) refl
    where
      low_r : is_below c.key r.keys.lo ≡ false
      low_r = denied _ (first _ _ (first _ _ c.in_first))

      low_area : is_below c.key area.keys.lo ≡ false
      low_area = denied _ (first _ _ (first _ _ c.in_second))

      high_r : is_before_end c.key r.keys.hi ≡ true
      high_r = second (not (is_below c.key r.keys.lo)) _ (first _ _ c.in_first)

      high_area : is_before_end c.key area.keys.hi ≡ true
      high_area = second (not (is_below c.key area.keys.lo)) _ (first _ _ c.in_second)

      time_r : is_time_in r.time c.instant ≡ true
      time_r = second (is_key_in r.keys c.key) _ c.in_first

      time_area : is_time_in area.time c.instant ≡ true
      time_area = second (is_key_in area.keys c.key) _ c.in_second

      at : (key : List ℕ) → is_key_in r.keys key ≡ true → is_key_in area.keys key ≡ true → is_below key cut ≡ true → Common r one
      at key in_r in_area low = record {
        key = key;
        instant = c.instant;
        is_first = c.is_first;
        is_last = c.is_last;
        in_first = both _ _ in_r time_r;
        in_second = parts.below key c.instant ∙ both _ _ (both _ _ in_area time_area) low;
      }

      higher : (t : Bool) → is_below r.keys.lo area.keys.lo ≡ t → Common r one
      higher true e = at area.keys.lo (both _ _ (negated _ (not_back r.keys.lo area.keys.lo e)) (end_above c.key area.keys.lo r.keys.hi low_area high_r)) (both _ _ (negated _ (not_itself area.keys.lo)) (end_above c.key area.keys.lo area.keys.hi low_area high_area)) (first _ _ inside)
      higher false e = at r.keys.lo (both _ _ (negated _ (not_itself r.keys.lo)) (end_above c.key r.keys.lo r.keys.hi low_r high_r)) (both _ _ (negated _ e) (end_above c.key r.keys.lo area.keys.hi low_r high_area)) reaches

      by : (t : Bool) → is_below c.key cut ≡ t → Common r one
      by true e = at c.key (first _ _ c.in_first) (first _ _ c.in_second) e
      by false e = higher (is_below r.keys.lo area.keys.lo) refl

  pub above_meets : (r : Area) → Common r area → reaches_up cut r ≡ true → Common r other
  above_meets r c reaches = by (is_below c.key cut) refl
    where
      at : (key : List ℕ) → is_key_in r.keys key ≡ true → is_key_in area.keys key ≡ true → is_below key cut ≡ false → Common r other
      at key in_r in_area high = record {
        key = key;
        instant = c.instant;
        is_first = c.is_first;
        is_last = c.is_last;
        in_first = both _ _ in_r (second (is_key_in r.keys c.key) _ c.in_first);
        in_second = parts.above key c.instant ∙ both _ _ (both _ _ in_area (second (is_key_in area.keys c.key) _ c.in_second)) (negated _ high);
      }

      by : (t : Bool) → is_below c.key cut ≡ t → Common r other
      by false e = at c.key (first _ _ c.in_first) (first _ _ c.in_second) e
      by true e =
          let low : is_below r.keys.lo cut ≡ true = above c.key r.keys.lo cut (denied _ (first _ _ (first _ _ c.in_first))) e in
          at cut (both _ _ (negated _ (not_back r.keys.lo cut low)) reaches) (both _ _ (negated _ (not_back area.keys.lo cut (first _ _ inside))) (second (is_below area.keys.lo cut) _ inside)) (not_itself cut)

module _ (area one other : Area) (cut : ℕ) (parts : PartsTime area one other cut) (inside : is_time_inside area cut ≡ true) (starts : 1 ≤ area.time.from) where
  pub past_meets : (r : Area) → Common r area → starts_before cut r ≡ true → Common r one
  past_meets r c reaches = by (nat_lt c.instant cut) refl
    where
      at : (instant : ℕ) → 1 ≤ instant → instant ≤ c.instant → r.time.from ≤ instant → area.time.from ≤ instant → nat_lt instant cut ≡ true → Common r one
      at instant one_le le from_r from_area low = record {
        key = c.key;
        instant = instant;
        is_first = one_le;
        is_last = let last = c.is_last in omega arith;
        in_first = both _ _ (first _ _ c.in_first) (both _ _ (up_to r.time.from instant from_r) (early_before instant c.instant r.time.to le (second (nat_le r.time.from c.instant) _ (second (is_key_in r.keys c.key) _ c.in_first))));
        in_second = parts.before c.key instant
            ∙ both _ _ (both _ _ (first _ _ c.in_second) (both _ _ (up_to area.time.from instant from_area) (early_before instant c.instant area.time.to le (second (nat_le area.time.from c.instant) _ (second (is_key_in area.keys c.key) _ c.in_second))))) low;
      }

      from_r_le : r.time.from ≤ c.instant
      from_r_le = at_most _ _ (first _ _ (second (is_key_in r.keys c.key) _ c.in_first))

      from_area_le : area.time.from ≤ c.instant
      from_area_le = at_most _ _ (first _ _ (second (is_key_in area.keys c.key) _ c.in_second))

      by : (t : Bool) → nat_lt c.instant cut ≡ t → Common r one
      by true e = at c.instant c.is_first (omega arith) from_r_le from_area_le e
      by false e =
          let low_r : r.time.from < cut = is_less _ _ reaches in
          let low_area : area.time.from < cut = is_less _ _ (first _ _ inside) in
          let le_r = from_r_le in
          let le_area = from_area_le in
          let n = max r.time.from area.time.from in
          at n (omega arith) (omega arith) (omega arith) (omega arith) (less n cut (omega arith))

  pub now_meets : (r : Area) → Common r area → ends_after cut r ≡ true → Common r other
  now_meets r c reaches = by (nat_lt c.instant cut) refl
    where
      from_r_le : r.time.from ≤ c.instant
      from_r_le = at_most _ _ (first _ _ (second (is_key_in r.keys c.key) _ c.in_first))

      by : (t : Bool) → nat_lt c.instant cut ≡ t → Common r other
      by false e = record {
        key = c.key;
        instant = c.instant;
        is_first = c.is_first;
        is_last = c.is_last;
        in_first = c.in_first;
        in_second = parts.after c.key c.instant ∙ both _ _ c.in_second (negated _ e);
      }
      by true e =
          let low : c.instant < cut = is_less _ _ e in
          let one_le = c.is_first in
          let le_r = from_r_le in
          let low_area : area.time.from < cut = is_less _ _ (first _ _ inside) in
          record {
            key = c.key;
            instant = cut;
            is_first = omega arith;
            is_last = at_most _ _ (second (is_early cut area.time.to) _ (second (nat_lt area.time.from cut) _ inside));
            in_first = both _ _ (first _ _ c.in_first) (both _ _ (up_to r.time.from cut (omega arith)) reaches);
            in_second = parts.after c.key cut ∙ both _ _ (both _ _ (first _ _ c.in_second) (both _ _ (up_to area.time.from cut (omega arith)) (first _ _ (second (nat_lt area.time.from cut) _ inside)))) (negated _ (itself cut));
          }
        where
          itself : (n : ℕ) → nat_lt n n ≡ false
          itself n = grind (arith, nat_tests)

-- ---- lists of references

module _ {C : Type 0} where
  pub taken_meet : (area half : Area) (keeps : Area → Bool) (references taken : List (Reference C)) → taken ≡ filter (λ r. keeps r.rect) references → ((r : Area) → Common r area → keeps r ≡ true → Common r half) → AllMeet area references → AllMeet half taken
  taken_meet area half keeps references taken are each meeting =
      all_taken (λ r. Common r.rect area) (λ r. Common r.rect area) (λ r. Common r.rect half) (λ r. keeps r.rect) references taken are (λ r c _ passes. each r.rect c passes) meeting meeting

  pub still_meet : (area rect : Area) (given before after : List (Reference C)) → Replaced rect given before after → AllMeet area before → AllMeet area given → AllMeet area after
  still_meet area rect given before after replaced olds news =
      let P : Reference C → Type 0 = λ r. Common r.rect area in
      let all : All P (replaced.front ++ replaced.reference ∷ replaced.back) = subst (All P) replaced.was olds in
      subst (All P) (sym replaced.is) (All-append P (replaced.front ++ given) replaced.back (All-append P replaced.front given (fronts P replaced.front _ all) news) (backs P replaced.front replaced.reference replaced.back all))

  pub one_meets : (outer : Area) (r : Reference C) (list : List (Reference C)) → IsTrue (is_area r.rect.keys r.rect.time) → IsInside r.rect outer → list ≡ r ∷ [] → AllMeet outer list
  one_meets outer r list is_one lies is =
      let P : Reference C → Type 0 = λ s. Common s.rect outer in
      subst (All P) (sym is) (All-cons P r [] (inside_meets r.rect outer is_one lies) (All-nil P))

  pub both_meet : (outer : Area) (r s : Reference C) (list : List (Reference C)) → IsTrue (is_area r.rect.keys r.rect.time) → IsTrue (is_area s.rect.keys s.rect.time) → IsInside r.rect outer → IsInside s.rect outer → list ≡ r ∷ s ∷ [] → AllMeet outer list
  both_meet outer r s list is_one is_other lies_one lies_other is =
      let P : Reference C → Type 0 = λ t. Common t.rect outer in
      subst (All P) (sym is) (All-cons P r (s ∷ []) (inside_meets r.rect outer is_one lies_one) (All-cons P s [] (inside_meets s.rect outer is_other lies_other) (All-nil P)))
