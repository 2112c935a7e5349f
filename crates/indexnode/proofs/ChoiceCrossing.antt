-- No current reference crosses the lower key of another, where current ones lie in a rectangle that is tiled.
use Rattle.std.proofs.Common.{◌≡◌, ℕ, ◌≤◌, List, [], ◌∷◌, Bool, true, false, length, max, cond, get_or, Option, Some, None, refl, sym, ap, subst, ◌∙◌, arith}
use Rattle.std.specs.Prelude.{IsTrue, nat_le, is_none}
use Rattle.std.specs.List.{filter, All, AllByRecursion}
use Rattle.std.proofs.lemmas.Bool.Decides.{nat_tests}
use Rattle.std.proofs.lemmas.List.Elements.{All-from_recursion, recursion_from_All, All-nil, All-cons, All-map}
use Rattle.std.proofs.lemmas.List.Sorted.{All-permutation}
use Rattle.keyrange.specs.Rect.{Area, has_point, is_area}
use Rattle.keyrange.specs.Range.{is_below, is_early}
use Rattle.keyrange.specs.Cut.{is_key_inside}
use Rattle.keyrange.proofs.RectMeeting.{both, first, second}
use Rattle.keyrange.proofs.RangeOrder.{not_itself, not_back}
use Rattle.indexnode.specs.declared.reference.Reference.{Reference}
use Rattle.indexnode.specs.Node.{Tiles}
use Rattle.indexnode.specs.Split.{is_current, IsUncrossed, AreCurrentIn}
use Rattle.indexnode.specs.Choice.{current_keys, AreOrdered}
use Rattle.indexnode.proofs.SplitCurrent.{all_taken}
use Rattle.indexnode.proofs.SplitTiling.{negated}

-- ---- what is true of those that pass

module _ {X : Type 0} (p : X → Bool) (Q : X → Type 0) where
  one_passing : (b : Bool) (x : X) (zs : List X) → p x ≡ b → AllByRecursion Q (cond b (x ∷ zs) zs) → (p x ≡ true → Q x) × AllByRecursion Q zs
  one_passing true x zs e h = (λ _. h.0, h.1)
  one_passing false x zs e h = (λ t. let no : true ≡ false = sym t ∙ e in cc, h)

  each_passing : (xs : List X) → AllByRecursion Q (filter p xs) → AllByRecursion (λ x. p x ≡ true → Q x) xs
  each_passing [] h = tt
  each_passing (x ∷ xs) h = let s = one_passing (p x) x (filter p xs) refl h in (s.0, each_passing xs s.1)

  pub passing : (xs : List X) → All Q (filter p xs) → All (λ x. p x ≡ true → Q x) xs
  passing xs h = All-from_recursion (λ x. p x ≡ true → Q x) xs (each_passing xs (recursion_from_All Q (filter p xs) h))

-- of one that passes all others are the same
pub record OnlyOne {X : Type 0} (p : X → Bool) (xs : List X) : Type 0 where
  pub one : X
  pub same : All (λ x. p x ≡ true → x ≡ one) xs

pub only_one : {X : Type 0} (p : X → Bool) (xs : List X) → length (filter p xs) ≡ 1 → OnlyOne p xs
only_one {X} p xs e = by (filter p xs) refl e
  where
    by : (ys : List X) → filter p xs ≡ ys → length ys ≡ 1 → OnlyOne p xs
    by [] is e = absurd (omega arith)
    by (y ∷ []) is e = record { one = y; same = passing p (λ x. x ≡ y) xs (subst (All (λ x. x ≡ y)) (sym is) (All-cons (λ x. x ≡ y) y [] refl (All-nil (λ x. x ≡ y)))) }
    by (y ∷ z ∷ ys) is e = absurd (omega arith)

-- ---- two current references and a key

pub endless : (to : Option ℕ) (instant : ℕ) → is_none to ≡ true → is_early instant to ≡ true
endless None instant e = refl
endless (Some end) instant e = cc

at_most_left : (x y : ℕ) → nat_le x (max x y) ≡ true
at_most_left x y = by x (max x y) (omega arith)
  where
    by : (x y : ℕ) → x ≤ y → nat_le x y ≡ true
    by x y le = grind (arith, nat_tests)

at_most_right : (x y : ℕ) → nat_le y (max x y) ≡ true
at_most_right x y = by y (max x y) (omega arith)
  where
    by : (x y : ℕ) → x ≤ y → nat_le x y ≡ true
    by x y le = grind (arith, nat_tests)

-- both hold the lower key of the one, from the later start on
apart : {C : Type 0} (lower r : Reference C) → IsTrue (is_area lower.rect.keys lower.rect.time) → IsTrue (is_current lower) → IsTrue (is_current r)
    → ((key : List ℕ) (instant : ℕ) → IsTrue (has_point lower.rect key instant) → IsTrue (has_point r.rect key instant) → lower ≡ r)
    → is_key_inside r.rect lower.rect.keys.lo ≡ false
apart {C} lower r is_one current_lower current_r alone = by (is_key_inside r.rect lower.rect.keys.lo) refl
  where
    by : (t : Bool) → is_key_inside r.rect lower.rect.keys.lo ≡ t → is_key_inside r.rect lower.rect.keys.lo ≡ false
    by false e = e
    by true e =
        let key = lower.rect.keys.lo in
        let instant = max lower.rect.time.from r.rect.time.from in
        let below : is_below r.rect.keys.lo key ≡ true = first _ _ e in
        let holds_lower : has_point lower.rect key instant ≡ true =
        both _ _ (both _ _ (negated _ (not_itself key)) (first _ _ is_one)) (both _ _ (at_most_left lower.rect.time.from r.rect.time.from) (endless lower.rect.time.to instant current_lower)) in
        let holds_r : has_point r.rect key instant ≡ true =
        both _ _ (both _ _ (negated _ (not_back r.rect.keys.lo key below)) (second (is_below r.rect.keys.lo key) _ e)) (both _ _ (at_most_right lower.rect.time.from r.rect.time.from) (endless r.rect.time.to instant current_r)) in
        let same : lower ≡ r = alone key instant holds_lower holds_r in
        let itself : is_below key key ≡ true = ap (λ (s : Reference C). is_below s.rect.keys.lo key) same ∙ below in
        let not : is_below key key ≡ false = not_itself key in
        cc

module _ {C : Type 0} (area : Area) (references : List (Reference C)) where
  lower_keys : Tiles area references → AreCurrentIn area references → All (λ r. IsTrue (is_area r.rect.keys r.rect.time)) references → All (λ r. IsTrue (is_current r) → IsUncrossed r.rect.keys.lo references) references
  lower_keys tiled inside areas = λ i d lt current_i k e lt_k current_k.
      apart (get_or references i d) (get_or references k e) (areas i d lt) current_i current_k (λ key instant holds_i holds_k.
      let one = only_one (λ r. has_point r.rect key instant) references (tiled.once key instant (inside i d lt current_i key instant holds_i)) in
      one.same i d lt holds_i ∙ sym (one.same k e lt_k holds_k))

  pub uncrossed : (ordered : List (List ℕ)) → Tiles area references → AreCurrentIn area references → All (λ r. IsTrue (is_area r.rect.keys r.rect.time)) references → AreOrdered references ordered → All (λ key. IsUncrossed key references) ordered
  uncrossed ordered tiled inside areas are =
      let P : Reference C → Type 0 = λ r. IsTrue (is_current r) → IsUncrossed r.rect.keys.lo references in
      let each = lower_keys tiled inside areas in
      All-permutation (λ key. IsUncrossed key references) (current_keys references) ordered are.same_keys
      (All-map (λ key. IsUncrossed key references) (λ r. r.rect.keys.lo) (filter is_current references)
      (all_taken P P (λ r. IsUncrossed r.rect.keys.lo references) is_current references (filter is_current references) refl (λ r uncrossed _ current. uncrossed current) each each))
