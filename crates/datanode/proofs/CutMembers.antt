-- Members of a list, and what a filter keeps.
use Rattle.std.proofs.lemmas.List.{get_or_default, append-nil}
use Rattle.std.proofs.lemmas.List.Elements.{filter_more}
use Rattle.std.proofs.Common.{length, take, get_or, ◌+◌, ◌++◌, ◌<◌, arith, ℕ, ◌≡◌, Bool, true, false, ◌&&◌, ◌||◌, cond, List, [], ◌∷◌, Some, refl, sym, ap, ◌∙◌, subst, ◌⊎◌, inl, inr}
use Rattle.std.specs.List.{filter, list_any}
use Rattle.std.specs.Bool.{Decides}

module _ {X : Type 0} where
  abbrev pub In : X → List X → Type 0
  In x [] = ⊥
  In x (y ∷ ys) = (y ≡ x) ⊎ In x ys

  pub filter_alike : (p q : X → Bool) (xs : List X) → ((x : X) → In x xs → p x ≡ q x) → filter p xs ≡ filter q xs
  filter_alike p q [] h = refl
  filter_alike p q (x ∷ xs) h = (λ i. cond (h x (inl refl) i) (x ∷ filter p xs) (filter p xs)) ∙ ap (λ l. cond (q x) (x ∷ l) l) (filter_alike p q xs (λ y i. h y (inr i)))

  pub filter_twice : (p q : X → Bool) (xs : List X) → filter q (filter p xs) ≡ filter (λ x. p x && q x) xs
  filter_twice p q [] = refl
  filter_twice p q (x ∷ xs) = elim (p x) as (λ b. filter q (cond b (x ∷ filter p xs) (filter p xs)) ≡ cond (b && q x) (x ∷ filter (λ x. p x && q x) xs) (filter (λ x. p x && q x) xs)) [
    | true ↦ ap (λ l. cond (q x) (x ∷ l) l) (filter_twice p q xs)
    | false ↦ filter_twice p q xs
  ]

  pub In-filter : (p : X → Bool) (xs : List X) (x : X) → In x xs → p x ≡ true → In x (filter p xs)
  In-filter p [] x i h = absurd i
  In-filter p (y ∷ ys) x (inl e) h = subst (λ b. In x (cond b (y ∷ filter p ys) (filter p ys))) (sym (ap p e ∙ h)) (inl e)
  In-filter p (y ∷ ys) x (inr i) h = elim (p y) as (λ b. In x (cond b (y ∷ filter p ys) (filter p ys))) [ true ↦ inr (In-filter p ys x i h) | false ↦ In-filter p ys x i h ]

  one_kept : (p : X → Bool) (y x : X) (ys : List X) (b : Bool) → p y ≡ b → (In x (filter p ys) → In x ys × (p x ≡ true)) → In x (cond b (y ∷ filter p ys) (filter p ys)) → In x (y ∷ ys) × (p x ≡ true)
  one_kept p y x ys true e rest (inl h) = (inl h, ap p (sym h) ∙ e)
  one_kept p y x ys true e rest (inr h) = (inr (rest h).0, (rest h).1)
  one_kept p y x ys false e rest h = (inr (rest h).0, (rest h).1)

  pub In-from_filter : (p : X → Bool) (xs : List X) (x : X) → In x (filter p xs) → In x xs × (p x ≡ true)
  In-from_filter p [] x h = absurd h
  In-from_filter p (y ∷ ys) x h = one_kept p y x ys (p y) refl (In-from_filter p ys x) h

  any_here : (p : X → Bool) (y : X) (ys : List X) (b : Bool) → p y ≡ b → (list_any p ys ≡ true → (x : X) × In x ys × (p x ≡ true)) → (b || list_any p ys) ≡ true → (x : X) × In x (y ∷ ys) × (p x ≡ true)
  any_here p y ys true e rest h = (y, inl refl, e)
  any_here p y ys false e rest h = let r = rest h in (r.0, inr r.1, r.2)

  pub any_In : (p : X → Bool) (xs : List X) → Decides (list_any p xs) ((x : X) × In x xs × (p x ≡ true))
  any_In p xs = (from xs, λ r. to xs r.0 r.1 r.2)
    where
      from : (xs : List X) → list_any p xs ≡ true → (x : X) × In x xs × (p x ≡ true)
      from [] h = cc
      from (y ∷ ys) h = any_here p y ys (p y) refl (from ys) h

      to : (xs : List X) (x : X) → In x xs → p x ≡ true → list_any p xs ≡ true
      to [] x i h = absurd i
      to (y ∷ ys) x (inl e) h = rw (ap p e ∙ h) refl
      to (y ∷ ys) x (inr i) h = elim (p y) as (λ b. (b || list_any p ys) ≡ true) [ true ↦ refl | false ↦ to ys x i h ]

pub some_is : {X : Type 0} (x y : X) → Some x ≡ Some y → x ≡ y
some_is x y h = cc

-- ---- a filter, one element after the other

pub filter_step : {X : Type 0} (p : X → Bool) (xs held new : List X) (i : ℕ) (x : X) (b : Bool) → i < length xs → x ≡ get_or xs i x → ((d : X) → b ≡ p (get_or xs i d)) → held ≡ filter p (take i xs) → new ≡ held ++ cond b (x ∷ []) []
    → new ≡ filter p (take (i + 1) xs)
filter_step p xs held new i x b lt is passes before more =
    more ∙ (λ j. before j ++ cond (passes x j) (is j ∷ []) []) ∙ sym (filter_more p xs i x lt)

pub filter_left : {X : Type 0} (p : X → Bool) (xs held new : List X) (i : ℕ) → i < length xs → ((d : X) → false ≡ p (get_or xs i d)) → held ≡ filter p (take i xs) → new ≡ held → new ≡ filter p (take (i + 1) xs)
filter_left p [] held new i lt fails before same = absurd (omega arith)
filter_left p (x ∷ xs) held new i lt fails before same = filter_step p (x ∷ xs) held new i (get_or (x ∷ xs) i x) false lt (get_or_own x (x ∷ xs) i lt) fails before (same ∙ sym (append-nil held))
  where
    get_or_own : {X : Type 0} (d : X) (xs : List X) (i : ℕ) → i < length xs → get_or xs i d ≡ get_or xs i (get_or xs i d)
    get_or_own d xs i lt = get_or_default xs i d (get_or xs i d) lt

pub none_kept : {X : Type 0} (p : X → Bool) (xs : List X) → ((x : X) → In x xs → p x ≡ false) → filter p xs ≡ []
none_kept p [] h = refl
none_kept p (x ∷ xs) h = ap (λ b. cond b (x ∷ filter p xs) (filter p xs)) (h x (inl refl)) ∙ none_kept p xs (λ y i. h y (inr i))

pub all_kept : {X : Type 0} (p : X → Bool) (xs : List X) → ((x : X) → In x xs → p x ≡ true) → filter p xs ≡ xs
all_kept p [] h = refl
all_kept p (x ∷ xs) h = ap (λ b. cond b (x ∷ filter p xs) (filter p xs)) (h x (inl refl)) ∙ ap (λ l. x ∷ l) (all_kept p xs (λ y i. h y (inr i)))
