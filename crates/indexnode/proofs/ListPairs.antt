-- One reference tiles its own rectangle, and two tile one whose halves they have.
use Rattle.std.proofs.Common.{◌≡◌, ℕ, List, [], ◌∷◌, Bool, true, false, length, cond, sym, ap, subst, ◌∙◌, inl, inr}
use Rattle.std.specs.Prelude.{◌&&◌, not, nat_lt}
use Rattle.std.specs.List.{filter, All}
use Rattle.std.proofs.lemmas.List.Elements.{All-nil, All-cons}
use Rattle.keyrange.specs.Range.{is_below}
use Rattle.keyrange.specs.Cut.{AreHalves}
use Rattle.keyrange.specs.Rect.{Area, has_point, IsInside}
use Rattle.indexnode.specs.declared.reference.Reference.{Reference}
use Rattle.indexnode.specs.Node.{Tiles}

once : {X : Type 0} (p : X → Bool) (x : X) → p x ≡ true → length (filter p (x ∷ [])) ≡ 1
once p x e = ap (λ b. length (cond b (x ∷ []) [])) e

within : (whole t one : Bool) → one ≡ (whole && t) → whole ≡ true → one ≡ t
within true t one e h = e
within false t one e h = cc

module _ {C : Type 0} where
  pub one_tiles : (r : Reference C) (list : List (Reference C)) → list ≡ r ∷ [] → Tiles r.rect list
  one_tiles r list is = subst (Tiles r.rect) (sym is) (record { once = λ key instant h. once (λ s. has_point s.rect key instant) r h })

  pub one_inside : (r : Reference C) (list : List (Reference C)) → list ≡ r ∷ [] → All (λ s. IsInside s.rect r.rect) list
  one_inside r list is = subst (All (λ s. IsInside s.rect r.rect)) (sym is) (All-cons (λ s. IsInside s.rect r.rect) r [] (λ key instant h. h) (All-nil (λ s. IsInside s.rect r.rect)))

  -- what a test parts lies in one of the two
  parted : (a b t : Bool) (x y : Reference C) → a ≡ t → b ≡ not t → length (cond a (x ∷ cond b (y ∷ []) []) (cond b (y ∷ []) [])) ≡ 1
  parted a b true x y e f = ap (λ s. length (cond s (x ∷ cond b (y ∷ []) []) (cond b (y ∷ []) []))) e ∙ ap (λ s. length (x ∷ cond s (y ∷ []) [])) f
  parted a b false x y e f = ap (λ s. length (cond s (x ∷ cond b (y ∷ []) []) (cond b (y ∷ []) []))) e ∙ ap (λ s. length (cond s (y ∷ []) [])) f

  pub halves_tile : (area : Area) (first second : Reference C) (test : List ℕ → ℕ → Bool) (list : List (Reference C))
      → ((key : List ℕ) (instant : ℕ) → has_point first.rect key instant ≡ (has_point area key instant && test key instant))
      → ((key : List ℕ) (instant : ℕ) → has_point second.rect key instant ≡ (has_point area key instant && not (test key instant)))
      → list ≡ first ∷ second ∷ [] → Tiles area list
  halves_tile area first second test list ones others is = subst (Tiles area) (sym is) (record {
    once = λ key instant h. parted (has_point first.rect key instant) (has_point second.rect key instant) (test key instant) first second
        (within (has_point area key instant) (test key instant) _ (ones key instant) h) (within (has_point area key instant) (not (test key instant)) _ (others key instant) h);
  })

  pub tile_halves : (area : Area) (first second : Reference C) (list : List (Reference C)) → AreHalves area first.rect second.rect → list ≡ first ∷ second ∷ [] → Tiles area list
  tile_halves area first second list (inl h) is = halves_tile area first second (λ key _. is_below key h.0) list h.1.below h.1.above is
  tile_halves area first second list (inr h) is = halves_tile area first second (λ _ instant. nat_lt instant h.0) list h.1.before h.1.after is

  pub lie_inside : (area : Area) (first second : Reference C) (list : List (Reference C)) → IsInside first.rect area → IsInside second.rect area → list ≡ first ∷ second ∷ [] → All (λ r. IsInside r.rect area) list
  lie_inside area first second list one other is =
      let P : Reference C → Type 0 = λ r. IsInside r.rect area in
      subst (All P) (sym is) (All-cons P first (second ∷ []) one (All-cons P second [] other (All-nil P)))
