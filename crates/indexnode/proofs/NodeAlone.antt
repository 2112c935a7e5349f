-- An element that passes a test is all that passes, where one alone does.
use Rattle.std.proofs.Common.{◌≡◌, List, [], ◌∷◌, Bool, true, length, refl, sym, ap, subst, ◌∙◌, arith}
use Rattle.std.specs.List.{filter, All, Contains}
use Rattle.std.proofs.lemmas.List.Elements.{All-nil, All-cons}
use Rattle.indexnode.proofs.ChoiceCrossing.{passing}

pub alone : {X : Type 0} (p : X → Bool) (xs : List X) (r : X) → Contains xs r → p r ≡ true → length (filter p xs) ≡ 1 → filter p xs ≡ r ∷ []
alone {X} p xs r among passes one = by (filter p xs) refl one
  where
    by : (ys : List X) → filter p xs ≡ ys → length ys ≡ 1 → filter p xs ≡ r ∷ []
    by [] is e = absurd (omega arith)
    by (y ∷ []) is e =
        let all = passing p (λ x. x ≡ y) xs (subst (All (λ x. x ≡ y)) (sym is) (All-cons (λ x. x ≡ y) y [] refl (All-nil (λ x. x ≡ y)))) in
        let same : r ≡ y = sym among.2 ∙ all among.0 r among.1 (ap p among.2 ∙ passes) in
        is ∙ ap (λ x. x ∷ []) (sym same)
    by (y ∷ z ∷ ys) is e = absurd (omega arith)
