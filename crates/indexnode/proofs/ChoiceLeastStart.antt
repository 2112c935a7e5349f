-- The least start of a current reference, one reference after another.
use Rattle.std.proofs.Common.{◌≡◌, ℕ, ◌<◌, ◌≤◌, ◌⊎◌, inl, inr, List, [], ◌∷◌, ◌++◌, Bool, true, false, length, cond, Option, Some, None, refl, sym, ap, subst, ◌∙◌, arith}
use Rattle.std.specs.Prelude.{IsTrue, nat_le, nat_lt, MatchOption, IfSome}
use Rattle.std.specs.List.{filter, All, Any}
use Rattle.std.proofs.lemmas.Bool.Decides.{nat_tests}
use Rattle.std.proofs.lemmas.List.Elements.{All-push, All-weaker, All-head, All-tail, Contains-append_left, Contains-push}
use Rattle.values.specs.Commits.{max_instant}
use Rattle.keyrange.specs.Rect.{is_area}
use Rattle.keyrange.specs.Range.{is_before_end}
use Rattle.keyrange.proofs.RectMeeting.{first, second}
use Rattle.indexnode.specs.declared.reference.Reference.{Reference}
use Rattle.indexnode.specs.Split.{is_current, starts_before}
use Rattle.indexnode.specs.Choice.{HasNoCurrent, IsLeastStart, current_count}
use Rattle.indexnode.proofs.SplitInstants.{at_most, is_less, not_less}
use Rattle.indexnode.proofs.ChoiceMiddle.{all_or_fewer}

before : (x y : ℕ) → x < y → x ≤ y
before x y lt = omega arith

never : (x : ℕ) → nat_lt x x ≡ true → ⊥
never x e = grind (arith, nat_tests)

module _ {C : Type 0} where
  any_before : (P : Reference C → Type 0) (xs : List (Reference C)) (y : Reference C) → Any P xs → Any P (xs ++ y ∷ [])
  any_before P xs y a = let c = Contains-append_left xs (y ∷ []) a.1 (a.0, a.2, a.3) in (c.0, a.1, c.1, c.2, a.4)

  any_last : (P : Reference C → Type 0) (xs : List (Reference C)) (y : Reference C) → P y → Any P (xs ++ y ∷ [])
  any_last P xs y h = let c = Contains-push xs y in (c.0, y, c.1, c.2, h)

  not_current : (r : Reference C) → is_current r ≡ false → IsTrue (is_current r) → ⊥
  not_current r e h = cc

  first_start : (xs : List (Reference C)) (r : Reference C) → HasNoCurrent xs → IsTrue (is_current r) → IsLeastStart (xs ++ r ∷ []) r.rect.time.from
  first_start xs r none current = record {
    some = any_last (λ s. IsTrue (is_current s) × (s.rect.time.from ≡ r.rect.time.from)) xs r (current, refl);
    none_before = All-push (λ s. IsTrue (is_current s) → r.rect.time.from ≤ s.rect.time.from) xs r
        (All-weaker (λ s. is_current s ≡ false) (λ s. IsTrue (is_current s) → r.rect.time.from ≤ s.rect.time.from) (λ s no yes. absurd (not_current s no yes)) xs none) (λ _. omega arith);
  }

  next_start : (b : Bool) (xs : List (Reference C)) (r : Reference C) (t : ℕ) → nat_lt t r.rect.time.from ≡ b → IsLeastStart xs t → IsTrue (is_current r) → IsLeastStart (xs ++ r ∷ []) (cond b t r.rect.time.from)
  next_start true xs r t e least current = record {
    some = any_before (λ s. IsTrue (is_current s) × (s.rect.time.from ≡ t)) xs r least.some;
    none_before = All-push (λ s. IsTrue (is_current s) → t ≤ s.rect.time.from) xs r least.none_before (λ _. before t r.rect.time.from (is_less t r.rect.time.from e));
  }
  next_start false xs r t e least current = record {
    some = any_last (λ s. IsTrue (is_current s) × (s.rect.time.from ≡ r.rect.time.from)) xs r (current, refl);
    none_before = All-push (λ s. IsTrue (is_current s) → r.rect.time.from ≤ s.rect.time.from) xs r
        (All-weaker (λ s. IsTrue (is_current s) → t ≤ s.rect.time.from) (λ s. IsTrue (is_current s) → r.rect.time.from ≤ s.rect.time.from) (λ s later yes. let le = not_less t r.rect.time.from e in let more = later yes in omega arith) xs least.none_before)
        (λ _. omega arith);
  }

  pub with_current : (xs : List (Reference C)) (r : Reference C) (least : Option ℕ) (start : ℕ) → MatchOption least (HasNoCurrent xs) (IsLeastStart xs) → IsTrue (is_current r)
      → (least ≡ None → start ≡ r.rect.time.from) → IfSome least (λ t. start ≡ cond (nat_lt t r.rect.time.from) t r.rect.time.from) → IsLeastStart (xs ++ r ∷ []) start
  with_current xs r None start before current none some = subst (IsLeastStart (xs ++ r ∷ [])) (sym (none refl)) (first_start xs r before current)
  with_current xs r (Some t) start before current none some = subst (IsLeastStart (xs ++ r ∷ [])) (sym some) (next_start (nat_lt t r.rect.time.from) xs r t refl before current)

  pub with_historical : (xs : List (Reference C)) (r : Reference C) (least : Option ℕ) → MatchOption least (HasNoCurrent xs) (IsLeastStart xs) → is_current r ≡ false → MatchOption least (HasNoCurrent (xs ++ r ∷ [])) (IsLeastStart (xs ++ r ∷ []))
  with_historical xs r None before e = All-push (λ s. is_current s ≡ false) xs r before e
  with_historical xs r (Some t) before e = record {
    some = any_before (λ s. IsTrue (is_current s) × (s.rect.time.from ≡ t)) xs r before.some;
    none_before = All-push (λ s. IsTrue (is_current s) → t ≤ s.rect.time.from) xs r before.none_before (λ yes. absurd (not_current r e yes));
  }

  no_current : (xs : List (Reference C)) → HasNoCurrent xs → current_count xs ≡ 0
  no_current [] none = refl
  no_current (x ∷ xs) none = ap (λ b. length (cond b (x ∷ filter is_current xs) (filter is_current xs))) (All-head (λ r. is_current r ≡ false) x xs none) ∙ no_current xs (All-tail (λ r. is_current r ≡ false) x xs none)

  pub as_count : (xs : List (Reference C)) (least : Option ℕ) → MatchOption least (HasNoCurrent xs) (IsLeastStart xs) → MatchOption least (current_count xs ≡ 0) (IsLeastStart xs)
  as_count xs None none = no_current xs none
  as_count xs (Some t) found = found

  pub in_range : (xs : List (Reference C)) (least : Option ℕ) → All (λ r. IsTrue (is_area r.rect.keys r.rect.time)) xs → MatchOption least (HasNoCurrent xs) (IsLeastStart xs) → IfSome least (λ t. t ≤ max_instant)
  in_range xs None areas none = tt
  in_range xs (Some t) areas found =
      let some = found.some in
      let area : IsTrue (is_area some.1.rect.keys some.1.rect.time) = subst (λ (r : Reference C). IsTrue (is_area r.rect.keys r.rect.time)) some.3 (areas some.0 some.1 some.2) in
      let start : nat_le some.1.rect.time.from max_instant ≡ true = first _ _ (second (nat_le 1 some.1.rect.time.from) _ (second (is_before_end some.1.rect.keys.lo some.1.rect.keys.hi) _ area)) in
      subst (λ n. n ≤ max_instant) some.4.1 (at_most some.1.rect.time.from max_instant start)

  pub smaller : (xs : List (Reference C)) (least : Option ℕ) → MatchOption least (HasNoCurrent xs) (IsLeastStart xs) → IfSome least (λ t. length (filter (λ r. starts_before t r.rect) xs) < length xs)
  smaller xs None none = tt
  smaller xs (Some t) found = by (all_or_fewer (λ r. starts_before t r.rect) xs)
    where
      by : All (λ r. starts_before t r.rect ≡ true) xs ⊎ (length (filter (λ r. starts_before t r.rect) xs) < length xs) → length (filter (λ r. starts_before t r.rect) xs) < length xs
      by (inr less) = less
      by (inl all) =
          let some = found.some in
          let before : starts_before t some.1.rect ≡ true = subst (λ (r : Reference C). starts_before t r.rect ≡ true) some.3 (all some.0 some.1 some.2) in
          absurd (never t (subst (λ n. nat_lt n t ≡ true) some.4.1 before))
