-- Elements put in order by numbers, and those of one number as they came.
use Rattle.std.proofs.Common.{◌≡◌, ℕ, ◌+◌, ◌≤◌, List, [], ◌∷◌, ◌++◌, Bool, true, false, refl, sym, ap, ◌∙◌, arith, if◌then◌else◌, nat_le, filter, sum_by, cond}
use Rattle.std.proofs.lemmas.Bool.Decides.{nat_tests}
use Rattle.std.proofs.lemmas.List.Sums.{sum_by-cons}

module _ {A : Type 0} (key : A → ℕ) where
  -- before the first whose number is not lower
  abbrev pub put : A → List A → List A
  put y [] = y ∷ []
  put y (x ∷ xs) = if nat_le (key y) (key x) then y ∷ x ∷ xs else x ∷ put y xs

  abbrev pub in_turn : List A → List A
  in_turn [] = []
  in_turn (x ∷ xs) = put x (in_turn xs)

  -- numbers never fall
  abbrev pub Climbs : ℕ → List A → Type 0
  Climbs low [] = Unit {0}
  Climbs low (x ∷ xs) = (low ≤ key x) × Climbs (key x) xs

  lower : (a b : ℕ) (xs : List A) → a ≤ b → Climbs b xs → Climbs a xs
  lower a b [] le c = tt
  lower a b (x ∷ xs) le c = (omega (arith, c.0), c.1)

  put_climbs : (low : ℕ) (y : A) (xs : List A) → low ≤ key y → Climbs low xs → Climbs low (put y xs)
  put_climbs low y [] le c = (le, tt)
  put_climbs low y (x ∷ xs) le c = by (nat_le (key y) (key x)) refl (λ h. put_climbs (key x) y xs h c.1)
    where
      by : (b : Bool) → nat_le (key y) (key x) ≡ b → (key x ≤ key y → Climbs (key x) (put y xs)) → Climbs low (if b then y ∷ x ∷ xs else x ∷ put y xs)
      by true h rest = (le, ((let h1 : key y ≤ key x = grind (arith, nat_tests) in h1), c.1))
      by false h rest = (c.0, rest (grind (arith, nat_tests)))

  pub in_turn_climbs : (xs : List A) → Climbs 0 (in_turn xs)
  in_turn_climbs [] = tt
  in_turn_climbs (x ∷ xs) = put_climbs 0 x (in_turn xs) (omega arith) (in_turn_climbs xs)

  -- what is not above all is put in front
  pub put_first : (y : A) (xs : List A) → Climbs (key y) xs → put y xs ≡ y ∷ xs
  put_first y [] c = refl
  put_first y (x ∷ xs) c =
      let le : key y ≤ key x = c.0 in
      let h : nat_le (key y) (key x) ≡ true = grind (arith, nat_tests) in
      λ k. if h k then y ∷ x ∷ xs else x ∷ put y xs

  pub in_turn_already : (low : ℕ) (xs : List A) → Climbs low xs → in_turn xs ≡ xs
  in_turn_already low [] c = refl
  in_turn_already low (x ∷ xs) c = ap (put x) (in_turn_already (key x) xs c.1) ∙ put_first x xs c.1

  put_sum : (f : A → ℕ) (y : A) (xs : List A) → sum_by f (put y xs) ≡ f y + sum_by f xs
  put_sum f y [] = sum_by-cons f y []
  put_sum f y (x ∷ xs) = by (nat_le (key y) (key x)) (put_sum f y xs)
    where
      by : (b : Bool) → sum_by f (put y xs) ≡ f y + sum_by f xs → sum_by f (if b then y ∷ x ∷ xs else x ∷ put y xs) ≡ f y + sum_by f (x ∷ xs)
      by true rest = sum_by-cons f y (x ∷ xs)
      by false rest = omega (arith, rest, sum_by-cons f x (put y xs), sum_by-cons f x xs)

  pub in_turn_sum : (f : A → ℕ) (xs : List A) → sum_by f (in_turn xs) ≡ sum_by f xs
  in_turn_sum f [] = refl
  in_turn_sum f (x ∷ xs) = put_sum f x (in_turn xs) ∙ ap (λ n. f x + n) (in_turn_sum f xs) ∙ sym (sum_by-cons f x xs)

  -- what is left of a list that climbs climbs
  module _ (p : A → Bool) where
    filter_climbs : (low : ℕ) (xs : List A) → Climbs low xs → Climbs low (filter p xs)
    filter_climbs low [] c = tt
    filter_climbs low (x ∷ xs) c = by (p x) (filter_climbs (key x) xs c.1)
      where
        by : (b : Bool) → Climbs (key x) (filter p xs) → Climbs low (cond b (x ∷ filter p xs) (filter p xs))
        by true rest = (c.0, rest)
        by false rest = lower low (key x) (filter p xs) c.0 rest

    put_kept : (y : A) (xs : List A) (low : ℕ) → p y ≡ true → Climbs low xs → filter p (put y xs) ≡ put y (filter p xs)
    put_kept y [] low its c = λ k. cond (its k) (y ∷ []) []
    put_kept y (x ∷ xs) low its c = by (nat_le (key y) (key x)) refl (p x) refl (put_kept y xs (key x) its c.1)
      where
        by : (b : Bool) → nat_le (key y) (key x) ≡ b → (d : Bool) → p x ≡ d → filter p (put y xs) ≡ put y (filter p xs)
            → filter p (if b then y ∷ x ∷ xs else x ∷ put y xs) ≡ put y (filter p (x ∷ xs))
        by true h d is rest =
            (λ k. cond (its k) (y ∷ filter p (x ∷ xs)) (filter p (x ∷ xs)))
            ∙ sym (put_first y (filter p (x ∷ xs)) (filter_climbs (key y) (x ∷ xs) (let le : key y ≤ key x = grind (arith, nat_tests) in (le, c.1))))
        by false h true is rest =
            (λ k. cond (is k) (x ∷ filter p (put y xs)) (filter p (put y xs)))
            ∙ ap (λ zs. x ∷ zs) rest
            ∙ (λ k. if sym h k then y ∷ x ∷ filter p xs else x ∷ put y (filter p xs))
            ∙ (λ k. put y (cond (sym is k) (x ∷ filter p xs) (filter p xs)))
        by false h false is rest =
            (λ k. cond (is k) (x ∷ filter p (put y xs)) (filter p (put y xs)))
            ∙ rest
            ∙ (λ k. put y (cond (sym is k) (x ∷ filter p xs) (filter p xs)))

    put_dropped : (y : A) (xs : List A) → p y ≡ false → filter p (put y xs) ≡ filter p xs
    put_dropped y [] out = λ k. cond (out k) (y ∷ []) []
    put_dropped y (x ∷ xs) out = by (nat_le (key y) (key x)) (put_dropped y xs out)
      where
        by : (b : Bool) → filter p (put y xs) ≡ filter p xs → filter p (if b then y ∷ x ∷ xs else x ∷ put y xs) ≡ filter p (x ∷ xs)
        by true rest = λ k. cond (out k) (y ∷ filter p (x ∷ xs)) (filter p (x ∷ xs))
        by false rest = ap (λ zs. cond (p x) (x ∷ zs) zs) rest

    pub filter_in_turn : (xs : List A) → filter p (in_turn xs) ≡ in_turn (filter p xs)
    filter_in_turn [] = refl
    filter_in_turn (x ∷ xs) = by (p x) refl (filter_in_turn xs)
      where
        by : (b : Bool) → p x ≡ b → filter p (in_turn xs) ≡ in_turn (filter p xs) → filter p (put x (in_turn xs)) ≡ in_turn (filter p (x ∷ xs))
        by true is rest =
            put_kept x (in_turn xs) 0 is (in_turn_climbs xs)
            ∙ ap (put x) rest
            ∙ (λ k. in_turn (cond (sym is k) (x ∷ filter p xs) (filter p xs)))
        by false is rest =
            put_dropped x (in_turn xs) is
            ∙ rest
            ∙ (λ k. in_turn (cond (sym is k) (x ∷ filter p xs) (filter p xs)))

  -- what holds of each element holds of each in turn
  module _ (P : A → Type 0) where
    abbrev pub Each : List A → Type 0
    Each [] = Unit {0}
    Each (x ∷ xs) = P x × Each xs

    put_each : (y : A) (xs : List A) → P y → Each xs → Each (put y xs)
    put_each y [] its each = (its, tt)
    put_each y (x ∷ xs) its each = by (nat_le (key y) (key x)) (put_each y xs its each.1)
      where
        by : (b : Bool) → Each (put y xs) → Each (if b then y ∷ x ∷ xs else x ∷ put y xs)
        by true rest = (its, each)
        by false rest = (each.0, rest)

    pub in_turn_each : (xs : List A) → Each xs → Each (in_turn xs)
    in_turn_each [] each = tt
    in_turn_each (x ∷ xs) each = put_each x (in_turn xs) each.0 (in_turn_each xs each.1)

    pub each_split : (xs ys : List A) → Each (xs ++ ys) → Each xs × Each ys
    each_split [] ys each = (tt, each)
    each_split (x ∷ xs) ys each = let rest = each_split xs ys each.1 in ((each.0, rest.0), rest.1)

    pub each_join : (xs ys : List A) → Each xs → Each ys → Each (xs ++ ys)
    each_join [] ys first second = second
    each_join (x ∷ xs) ys first second = (first.0, each_join xs ys first.1 second)
