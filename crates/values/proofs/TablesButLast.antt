-- All but the last of a list.
use Rattle.std.proofs.Common.{◌≡◌, List, [], ◌∷◌, ◌++◌, length, refl, ap, arith}
use Rattle.values.specs.Tables.{but_last}

pub but_last-push : {A : Type 0} (xs : List A) (x : A) → but_last (xs ++ x ∷ []) ≡ xs
but_last-push [] x = refl
but_last-push (y ∷ []) x = refl
but_last-push (y ∷ z ∷ xs) x = ap (λ l. y ∷ l) (but_last-push (z ∷ xs) x)

pub but_last-none : {A : Type 0} (xs : List A) → length xs ≡ 0 → but_last xs ≡ []
but_last-none [] none = refl
but_last-none (x ∷ xs) none = absurd (omega (arith, none))
