-- One more element of a list that is filtered, from the front.
use Rattle.std.proofs.Common.{◌≡◌, ℕ, ◌+◌, ◌<◌, ◌≤◌, List, [], ◌∷◌, Bool, true, false, ◌++◌, length, take, map, get_or, cond, sym, ap, subst, ◌∙◌, append-nil}
use Rattle.std.specs.List.{filter, All}
use Rattle.std.proofs.lemmas.List.{map-append, take_all}
use Rattle.std.proofs.lemmas.List.Elements.{filter_more, All-more}

module _ {X : Type 0} (p : X → Bool) where
  is_at : (xs : List X) (i : ℕ) (r : X) → i < length xs → r ≡ get_or xs i r → filter p (take (i + 1) xs) ≡ filter p (take i xs) ++ cond (p r) (r ∷ []) []
  is_at xs i r lt is = filter_more p xs i r lt ∙ ap (λ x. filter p (take i xs) ++ cond (p x) (x ∷ []) []) (sym is)

  -- one more that passes, and one more that does not
  pub took : (xs : List X) (i : ℕ) (r : X) → i < length xs → r ≡ get_or xs i r → p r ≡ true → filter p (take (i + 1) xs) ≡ filter p (take i xs) ++ r ∷ []
  took xs i r lt is e = is_at xs i r lt is ∙ ap (λ b. filter p (take i xs) ++ cond b (r ∷ []) []) e

  pub left_out : (xs : List X) (i : ℕ) (r : X) → i < length xs → r ≡ get_or xs i r → p r ≡ false → filter p (take (i + 1) xs) ≡ filter p (take i xs)
  left_out xs i r lt is e = is_at xs i r lt is ∙ ap (λ b. filter p (take i xs) ++ cond b (r ∷ []) []) e ∙ append-nil (filter p (take i xs))

-- the same of what is lent
module _ {X A : Type 0} (p : X → Bool) (f : A → X) where
  pub took_lent : (xs : List X) (i : ℕ) (r : X) (a : A) (found more : List A) → i < length xs → r ≡ get_or xs i r → p r ≡ true → f a ≡ r → more ≡ found ++ a ∷ [] → map f found ≡ filter p (take i xs) → map f more ≡ filter p (take (i + 1) xs)
  took_lent xs i r a found more lt is e lent grown before =
      ap (map f) grown ∙ map-append f found (a ∷ []) ∙ ap (λ ys. ys ++ f a ∷ []) before ∙ ap (λ x. filter p (take i xs) ++ x ∷ []) lent ∙ sym (took p xs i r lt is e)

  pub left_lent : (xs : List X) (i : ℕ) (r : X) (found more : List A) → i < length xs → r ≡ get_or xs i r → p r ≡ false → more ≡ found → map f found ≡ filter p (take i xs) → map f more ≡ filter p (take (i + 1) xs)
  left_lent xs i r found more lt is e same before = ap (map f) same ∙ before ∙ sym (left_out p xs i r lt is e)

-- the same of what is made of them
module _ {X Y : Type 0} (p : X → Bool) (f : X → Y) where
  pub took_made : (xs : List X) (i : ℕ) (r : X) (found more : List Y) → i < length xs → r ≡ get_or xs i r → p r ≡ true → more ≡ found ++ f r ∷ [] → found ≡ map f (filter p (take i xs)) → more ≡ map f (filter p (take (i + 1) xs))
  took_made xs i r found more lt is e grown before =
      grown ∙ ap (λ ys. ys ++ f r ∷ []) before ∙ sym (map-append f (filter p (take i xs)) (r ∷ [])) ∙ sym (ap (map f) (took p xs i r lt is e))

  pub left_made : (xs : List X) (i : ℕ) (r : X) (found more : List Y) → i < length xs → r ≡ get_or xs i r → p r ≡ false → more ≡ found → found ≡ map f (filter p (take i xs)) → more ≡ map f (filter p (take (i + 1) xs))
  left_made xs i r found more lt is e same before = same ∙ before ∙ sym (ap (map f) (left_out p xs i r lt is e))

-- what holds of the first elements and of the next one
pub more_hold : {X : Type 0} (P : X → Type 0) (xs : List X) (i : ℕ) (r : X) → i < length xs → r ≡ get_or xs i r → All P (take i xs) → P r → All P (take (i + 1) xs)
more_hold P xs i r lt is before here = All-more P xs i r lt before (subst P is here)

pub all_hold : {X : Type 0} (P : X → Type 0) (xs : List X) (i : ℕ) → length xs ≤ i → All P (take i xs) → All P xs
all_hold P xs i le held = subst (All P) (take_all i xs le) held
