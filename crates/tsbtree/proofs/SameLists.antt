-- Lists are the same that have the same items at the same places.
use Rattle.std.proofs.Common.{◌≡◌, ℕ, suc, ◌<◌, List, [], ◌∷◌, length, refl, arith}
use Rattle.std.specs.Prelude.{slice_get}

module _ {X : Type 0} where
  -- the same up to a place
  abbrev pub AreSame : List X → List X → ℕ → Type 0
  AreSame xs ys n = (k : ℕ) → k < n → slice_get xs k ≡ slice_get ys k

  some_is : (x y : X) → slice_get (x ∷ []) 0 ≡ slice_get (y ∷ []) 0 → x ≡ y
  some_is x y h = cc

  pub all_same : (xs ys : List X) → length xs ≡ length ys → AreSame xs ys (length xs) → xs ≡ ys
  all_same [] [] long same = refl
  all_same [] (y ∷ ys) long same = absurd (omega arith)
  all_same (x ∷ xs) [] long same = absurd (omega arith)
  all_same (x ∷ xs) (y ∷ ys) long same =
      let head : x ≡ y = some_is x y (same 0 (omega arith)) in
      let tail : xs ≡ ys = all_same xs ys (omega arith) (λ k lt. same (suc k) (omega arith)) in
      λ i. head i ∷ tail i
