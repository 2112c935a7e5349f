-- The references of a half tile the half.
use Rattle.std.proofs.Common.{◌≡◌, ℕ, List, [], ◌∷◌, Bool, true, false, length, cond, Option, Some, None, refl, sym, ap, ◌∙◌, arith}
use Rattle.std.specs.Prelude.{IsTrue, not, nat_lt, nat_le}
use Rattle.std.specs.List.{filter}
use Rattle.std.proofs.lemmas.Bool.Decides.{nat_tests}
use Rattle.keyrange.specs.Rect.{Area, has_point, IsInside}
use Rattle.keyrange.specs.Range.{is_key_in, is_below, is_before_end, is_early}
use Rattle.keyrange.specs.Cut.{PartsKeys, PartsTime}
use Rattle.keyrange.proofs.RectMeeting.{first, second}
use Rattle.keyrange.proofs.RangeOrder.{above}
use Rattle.indexnode.specs.declared.reference.Reference.{Reference}
use Rattle.indexnode.specs.Node.{at_point, Tiles}
use Rattle.indexnode.specs.Split.{reaches_below, reaches_up, starts_before, ends_after}

pub denied : (a : Bool) → not a ≡ true → a ≡ false
denied true e = cc
denied false e = refl

pub negated : (a : Bool) → a ≡ false → not a ≡ true
negated true e = cc
negated false e = refl

-- ---- a filter under another that lets through less

under_one : {X : Type 0} (a b : Bool) (x : X) (p : X → Bool) (ys zs : List X) → p x ≡ a → (a ≡ true → b ≡ true) → filter p ys ≡ zs → filter p (cond b (x ∷ ys) ys) ≡ cond a (x ∷ zs) zs
under_one true true x p ys zs is less e = ap (λ t. cond t (x ∷ filter p ys) (filter p ys)) is ∙ ap (λ l. x ∷ l) e
under_one true false x p ys zs is less e = let h : false ≡ true = less refl in cc
under_one false true x p ys zs is less e = ap (λ t. cond t (x ∷ filter p ys) (filter p ys)) is ∙ e
under_one false false x p ys zs is less e = e

pub under_more : {X : Type 0} (p q : X → Bool) → ((x : X) → p x ≡ true → q x ≡ true) → (xs : List X) → filter p (filter q xs) ≡ filter p xs
under_more p q less [] = refl
under_more p q less (x ∷ xs) = under_one (p x) (q x) x p (filter q xs) (filter p xs) refl (less x) (under_more p q less xs)

-- ---- a half that takes every reference that holds one of its points

pub half_tiles : {C : Type 0} (area half : Area) (keeps : Area → Bool) (references taken : List (Reference C))
    → IsInside half area
    → ((r : Area) (key : List ℕ) (instant : ℕ) → IsTrue (has_point half key instant) → IsTrue (has_point r key instant) → keeps r ≡ true)
    → taken ≡ filter (λ r. keeps r.rect) references
    → Tiles area references → Tiles half taken
half_tiles area half keeps references taken inside holding are tiled = record {
  once = λ key instant h.
      ap (λ l. length (at_point key instant l)) are
      ∙ ap length (under_more (λ r. has_point r.rect key instant) (λ r. keeps r.rect) (λ r. holding r.rect key instant h) references)
      ∙ tiled.once key instant (inside key instant h);
}

pub end_above : (k cut : List ℕ) (end : Option (List ℕ)) → is_below k cut ≡ false → is_before_end k end ≡ true → is_before_end cut end ≡ true
end_above k cut None low high = refl
end_above k cut (Some end) low high = above k cut end low high

module _ (area one other : Area) (cut : List ℕ) (parts : PartsKeys area one other cut) where
  pub one_in : IsInside one area
  one_in key instant h = first _ _ (sym (parts.below key instant) ∙ h)

  pub other_in : IsInside other area
  other_in key instant h = first _ _ (sym (parts.above key instant) ∙ h)

  pub reaching_below : (r : Area) (key : List ℕ) (instant : ℕ) → IsTrue (has_point one key instant) → IsTrue (has_point r key instant) → reaches_below cut r ≡ true
  reaching_below r key instant h holds =
      above key r.keys.lo cut (denied _ (first _ _ (first (is_key_in r.keys key) _ holds))) (second (has_point area key instant) _ (sym (parts.below key instant) ∙ h))

  pub reaching_up : (r : Area) (key : List ℕ) (instant : ℕ) → IsTrue (has_point other key instant) → IsTrue (has_point r key instant) → reaches_up cut r ≡ true
  reaching_up r key instant h holds =
      end_above key cut r.keys.hi (denied _ (second (has_point area key instant) _ (sym (parts.above key instant) ∙ h))) (second (not (is_below key r.keys.lo)) _ (first (is_key_in r.keys key) _ holds))

module _ (area one other : Area) (cut : ℕ) (parts : PartsTime area one other cut) where
  pub past_in : IsInside one area
  past_in key instant h = first _ _ (sym (parts.before key instant) ∙ h)

  pub now_in : IsInside other area
  now_in key instant h = first _ _ (sym (parts.after key instant) ∙ h)

  at_or_before : (from instant cut : ℕ) → nat_le from instant ≡ true → nat_lt instant cut ≡ true → nat_lt from cut ≡ true
  at_or_before from instant cut e f = grind (arith, nat_tests)

  early_at : (cut instant : ℕ) (end : Option ℕ) → nat_lt instant cut ≡ false → is_early instant end ≡ true → is_early cut end ≡ true
  early_at cut instant None low high = refl
  early_at cut instant (Some end) low high = grind (arith, nat_tests)

  pub starting_before : (r : Area) (key : List ℕ) (instant : ℕ) → IsTrue (has_point one key instant) → IsTrue (has_point r key instant) → starts_before cut r ≡ true
  starting_before r key instant h holds =
      at_or_before r.time.from instant cut (first _ _ (second (is_key_in r.keys key) _ holds)) (second (has_point area key instant) _ (sym (parts.before key instant) ∙ h))

  pub ending_after : (r : Area) (key : List ℕ) (instant : ℕ) → IsTrue (has_point other key instant) → IsTrue (has_point r key instant) → ends_after cut r ≡ true
  ending_after r key instant h holds =
      early_at cut instant r.time.to (denied _ (second (has_point area key instant) _ (sym (parts.after key instant) ∙ h))) (second (nat_le r.time.from instant) _ (second (is_key_in r.keys key) _ holds))
