-- Where there is one current reference, no other one ends after its start.
use Rattle.std.proofs.Common.{◌≡◌, ℕ, ◌<◌, ◌≤◌, List, [], ◌∷◌, Bool, true, false, length, max, cond, get_or, Option, Some, None, refl, sym, ap, subst, ◌∙◌, arith}
use Rattle.std.specs.Prelude.{◌&&◌, nat_lt, nat_le, is_none, MatchOption, IfSome}
use Rattle.std.specs.List.{filter, All}
use Rattle.std.proofs.lemmas.Bool.Decides.{nat_tests}
use Rattle.std.proofs.lemmas.List.Elements.{All-nil, All-cons, All-head, All-tail, All-weaker}
use Rattle.keyrange.specs.Rect.{Area, has_point}
use Rattle.keyrange.specs.Range.{is_key_in, is_early}
use Rattle.keyrange.proofs.RectMeeting.{both, first, second}
use Rattle.indexnode.specs.declared.reference.Reference.{Reference}
use Rattle.indexnode.specs.Node.{at_point, Tiles, AllMeet}
use Rattle.indexnode.specs.Split.{is_current, ends_after}
use Rattle.indexnode.specs.Choice.{HasNoCurrent, IsLeastStart, current_count, StandsAlone}
use Rattle.indexnode.proofs.ChoiceCrossing.{endless, OnlyOne, only_one}
use Rattle.indexnode.proofs.SplitInstants.{up_to, at_most, is_less, less, early_before}
use Rattle.indexnode.proofs.ChoiceMiddle.{fewer}

none_pass : {X : Type 0} (p : X → Bool) (xs : List X) → All (λ x. p x ≡ false) xs → length (filter p xs) ≡ 0
none_pass p [] none = refl
none_pass p (x ∷ xs) none = ap (λ b. length (cond b (x ∷ filter p xs) (filter p xs))) (All-head (λ y. p y ≡ false) x xs none) ∙ none_pass p xs (All-tail (λ y. p y ≡ false) x xs none)

all_pass : {X : Type 0} (p : X → Bool) (xs : List X) → All (λ x. p x ≡ true) xs → length (filter p xs) ≡ length xs
all_pass p [] all = refl
all_pass p (x ∷ xs) all = omega (arith, ap (λ b. length (cond b (x ∷ filter p xs) (filter p xs))) (All-head (λ y. p y ≡ true) x xs all), all_pass p xs (All-tail (λ y. p y ≡ true) x xs all))

not_both : (a b : Bool) → b ≡ false → (a && b) ≡ false
not_both true b e = e
not_both false b e = refl

not_one : (a b : Bool) → a ≡ false → (a && b) ≡ false
not_one true b e = cc
not_one false b e = refl

-- an end that is not passed at any of three instants is not at the latest of them
early_at_latest : (x y z : ℕ) (end : Option ℕ) → is_early x end ≡ true → is_early y end ≡ true → is_early z end ≡ true → is_early (max x (max y z)) end ≡ true
early_at_latest x y z None e f g = refl
early_at_latest x y z (Some end) e f g = by x y z end (is_less x end e) (is_less y end f) (is_less z end g)
  where
    below : (n end : ℕ) → nat_lt n end ≡ true → n < end
    below n end e = grind (arith, nat_tests)

    is_below : (n end : ℕ) → n < end → nat_lt n end ≡ true
    is_below n end lt = grind (arith, nat_tests)

    by : (x y z end : ℕ) → x < end → y < end → z < end → nat_lt (max x (max y z)) end ≡ true
    by x y z end e f g = less (max x (max y z)) end (omega arith)

at_end : (to : Option ℕ) → (n : ℕ) × (is_none to ≡ false → (t : ℕ) → n ≤ t → is_early t to ≡ false)
at_end None = (0, λ historical t le. cc)
at_end (Some end) = (end, λ historical t le. past t end le)
  where
    past : (t end : ℕ) → end ≤ t → nat_lt t end ≡ false
    past t end le = grind (arith, nat_tests)

module _ {C : Type 0} where
  -- an instant at which no historical reference is left
  record AllEnded (references : List (Reference C)) : Type 0 where
    instant : ℕ
    ended : All (λ r. is_current r ≡ false → (t : ℕ) → instant ≤ t → is_early t r.rect.time.to ≡ false) references

  all_ended : (references : List (Reference C)) → AllEnded references
  all_ended [] = record { instant = 0; ended = All-nil (λ r. is_current r ≡ false → (t : ℕ) → 0 ≤ t → is_early t r.rect.time.to ≡ false) }
  all_ended (r ∷ rest) =
      let l = all_ended rest in
      let e = at_end r.rect.time.to in
      let n = max e.0 l.instant in
      record {
        instant = n;
        ended = All-cons (λ s. is_current s ≡ false → (t : ℕ) → n ≤ t → is_early t s.rect.time.to ≡ false) r rest (λ historical t le. e.1 historical t (omega arith))
            (All-weaker (λ s. is_current s ≡ false → (t : ℕ) → l.instant ≤ t → is_early t s.rect.time.to ≡ false) (λ s. is_current s ≡ false → (t : ℕ) → n ≤ t → is_early t s.rect.time.to ≡ false) (λ s ended historical t le. ended historical t (omega arith)) rest l.ended);
      }

  module _ (area : Area) (references : List (Reference C)) (start : ℕ) (tiled : Tiles area references) (meeting : AllMeet area references)
      (endless_area : area.time.to ≡ None) (alone : current_count references ≡ 1) (least : IsLeastStart references start) where
    current : OnlyOne is_current references
    current = only_one is_current references alone

    the_one : Reference C
    the_one = current.one

    -- where it stands
    the_place : (k : ℕ) × (get_or references k the_one ≡ the_one) × (k < length references)
    unfolding the_one
    the_place =
        let some = least.some in
        let is : some.1 ≡ current.one = subst (λ (r : Reference C). r ≡ current.one) some.3 (current.same some.0 some.1 some.2 (subst (λ (r : Reference C). is_current r ≡ true) (sym some.3) some.4.0)) in
        (some.0, subst (λ (r : Reference C). get_or references some.0 r ≡ r) is some.3, some.2)

    same_one : (k : ℕ) (d : Reference C) → k < length references → is_current (get_or references k d) ≡ true → get_or references k d ≡ the_one
    unfolding the_one
    same_one k d lt e = current.same k d lt e

    starts : the_one.rect.time.from ≡ start
    unfolding the_one
    starts =
        let some = least.some in
        let is : some.1 ≡ current.one = subst (λ (r : Reference C). r ≡ current.one) some.3 (current.same some.0 some.1 some.2 (subst (λ (r : Reference C). is_current r ≡ true) (sym some.3) some.4.0)) in
        ap (λ (r : Reference C). r.rect.time.from) (sym is) ∙ some.4.1

    is_one : is_current the_one ≡ true
    unfolding the_one
    is_one =
        let some = least.some in
        let is : some.1 ≡ current.one = subst (λ (r : Reference C). r ≡ current.one) some.3 (current.same some.0 some.1 some.2 (subst (λ (r : Reference C). is_current r ≡ true) (sym some.3) some.4.0)) in
        subst (λ (r : Reference C). is_current r ≡ true) is some.4.0

    early_in_area : (instant : ℕ) → is_early instant area.time.to ≡ true
    early_in_area instant = subst (λ to. is_early instant to ≡ true) (sym endless_area) refl

    -- it has all keys of the rectangle
    no_holder : (key : List ℕ) → is_key_in the_one.rect.keys key ≡ false → (n : ℕ) (r : Reference C) (b : Bool) → is_current r ≡ b → (is_current r ≡ true → r ≡ the_one)
        → (is_current r ≡ false → is_early n r.rect.time.to ≡ false) → has_point r.rect key n ≡ false
    no_holder key out n r true is same ended = not_one _ _ (ap (λ (s : Reference C). is_key_in s.rect.keys key) (same is) ∙ out)
    no_holder key out n r false is same ended = not_both _ _ (not_both _ _ (ended is))

    has_key : (key : List ℕ) → is_key_in area.keys key ≡ true → is_key_in the_one.rect.keys key ≡ true
    has_key key in_area = by (is_key_in the_one.rect.keys key) refl
      where
        by : (t : Bool) → is_key_in the_one.rect.keys key ≡ t → is_key_in the_one.rect.keys key ≡ true
        by true e = e
        by false e =
            let l = all_ended references in
            let n = max l.instant area.time.from in
            let none : length (at_point key n references) ≡ 0 = none_pass (λ r. has_point r.rect key n) references (λ k d lt.
            no_holder key e n (get_or references k d) (is_current (get_or references k d)) refl (same_one k d lt) (λ historical. l.ended k d lt historical n (omega arith))) in
            let once : length (at_point key n references) ≡ 1 = tiled.once key n (both _ _ in_area (both _ _ (up_to area.time.from n (omega arith)) (early_in_area n))) in
            absurd (omega arith)

    -- no historical one ends after its start
    ended_by_then : (k : ℕ) (d : Reference C) → k < length references → is_current (get_or references k d) ≡ false → ends_after start (get_or references k d).rect ≡ false
    ended_by_then k d lt historical = by (ends_after start (get_or references k d).rect) refl
      where
        by : (t : Bool) → ends_after start (get_or references k d).rect ≡ t → ends_after start (get_or references k d).rect ≡ false
        by false e = e
        by true e =
            let r = get_or references k d in
            let c = meeting k d lt in
            let n = max start (max r.rect.time.from area.time.from) in
            let early : is_early c.instant r.rect.time.to ≡ true = second (nat_le r.rect.time.from c.instant) _ (second (is_key_in r.rect.keys c.key) _ c.in_first) in
            let from_r : r.rect.time.from ≤ c.instant = at_most _ _ (first _ _ (second (is_key_in r.rect.keys c.key) _ c.in_first)) in
            let from_area : area.time.from ≤ c.instant = at_most _ _ (first _ _ (second (is_key_in area.keys c.key) _ c.in_second)) in
            let holds_r : has_point r.rect c.key n ≡ true = both _ _ (first _ _ c.in_first) (both _ _ (up_to r.rect.time.from n (omega arith))
            (early_at_latest start r.rect.time.from area.time.from r.rect.time.to e (early_before r.rect.time.from c.instant r.rect.time.to from_r early) (early_before area.time.from c.instant r.rect.time.to from_area early))) in
            let holds_one : has_point the_one.rect c.key n ≡ true = both _ _ (has_key c.key (first _ _ c.in_second)) (both _ _ (up_to the_one.rect.time.from n (omega (arith, starts))) (endless the_one.rect.time.to n is_one)) in
            let in_area : has_point area c.key n ≡ true = both _ _ (first _ _ c.in_second) (both _ _ (up_to area.time.from n (omega arith)) (early_in_area n)) in
            let only = only_one (λ s. has_point s.rect c.key n) references (tiled.once c.key n in_area) in
            let same : r ≡ the_one = only.same k d lt holds_r ∙ sym (subst (λ (s : Reference C). s ≡ only.one) the_place.1 (only.same the_place.0 the_one the_place.2 (subst (λ (s : Reference C). has_point s.rect c.key n ≡ true) (sym the_place.1) holds_one))) in
            let yes : is_current r ≡ true = ap is_current same ∙ is_one in
            absurd (let no : true ≡ false = sym yes ∙ historical in cc)

    stays : length (filter (λ r. ends_after start r.rect) references) ≡ 1
    stays =
        let fewer_stay : length (filter (λ r. ends_after start r.rect) references) ≤ length (filter is_current references) = fewer (λ r. ends_after start r.rect) is_current references (λ k d lt e. by (get_or references k d) e (ended_by_then k d lt) (is_current (get_or references k d)) refl) in
        let more_stay : length (filter is_current references) ≤ length (filter (λ r. ends_after start r.rect) references) = fewer is_current (λ r. ends_after start r.rect) references (λ k d lt e. endless (get_or references k d).rect.time.to start e) in
        omega (arith, alone)
      where
        by : (r : Reference C) → ends_after start r.rect ≡ true → (is_current r ≡ false → ends_after start r.rect ≡ false) → (b : Bool) → is_current r ≡ b → is_current r ≡ true
        by r e ended true is = is
        by r e ended false is = absurd (let no : true ≡ false = sym e ∙ ended is in cc)

    -- one that is historical ends after the rectangle's start
    current_there : (k : ℕ) (d : Reference C) → k < length references → start ≤ area.time.from → (b : Bool) → is_current (get_or references k d) ≡ b → is_current (get_or references k d) ≡ true
    current_there k d lt low true is = is
    current_there k d lt low false is =
        let r = get_or references k d in
        let c = meeting k d lt in
        let early : is_early c.instant r.rect.time.to ≡ true = second (nat_le r.rect.time.from c.instant) _ (second (is_key_in r.rect.keys c.key) _ c.in_first) in
        let from_area : area.time.from ≤ c.instant = at_most _ _ (first _ _ (second (is_key_in area.keys c.key) _ c.in_second)) in
        let yes : ends_after start r.rect ≡ true = early_before start c.instant r.rect.time.to (omega arith) early in
        let gone : ends_after start r.rect ≡ false = ended_by_then k d lt is in
        absurd (let no : true ≡ false = sym yes ∙ gone in cc)

    later : 2 ≤ length references → area.time.from < start
    later several = by (nat_lt area.time.from start) refl
      where
        is_less : (x y : ℕ) → nat_lt x y ≡ true → x < y
        is_less x y e = grind (arith, nat_tests)

        not_less : (x y : ℕ) → nat_lt x y ≡ false → y ≤ x
        not_less x y e = grind (arith, nat_tests)

        by : (t : Bool) → nat_lt area.time.from start ≡ t → area.time.from < start
        by true e = is_less area.time.from start e
        by false e =
            let low = not_less area.time.from start e in
            let all : All (λ r. is_current r ≡ true) references = λ k d lt. current_there k d lt low (is_current (get_or references k d)) refl in
            let count : length (filter is_current references) ≡ length references = all_pass is_current references all in
            absurd (omega (arith, alone))

    stands_alone : StandsAlone area references start
    stands_alone = record { stays = stays; later = later }

  pub alone : (area : Area) (references : List (Reference C)) (least : Option ℕ) → Tiles area references → AllMeet area references → area.time.to ≡ None → current_count references ≡ 1 → MatchOption least (HasNoCurrent references) (IsLeastStart references) → IfSome least (StandsAlone area references)
  alone area references None tiled meeting endless one none = tt
  alone area references (Some start) tiled meeting endless one least = stands_alone area references start tiled meeting endless one least
