-- What is numbered 1 and 2 may be put before all others.
use Rattle.std.proofs.Common.{◌≡◌, ℕ, zero, suc, ◌<◌, ◌≤◌, List, [], ◌∷◌, ◌++◌, Bool, true, false, refl, sym, ap, subst, ◌∙◌, arith, if◌then◌else◌, nat_le, get_or, map, inl, inr}
use Rattle.std.specs.Prelude.{◌⊎◌}
use Rattle.std.proofs.lemmas.Bool.Decides.{nat_tests}
use Rattle.serving.specs.journal.Entries.{numbers}
use Rattle.runs.proofs.RunInTurn.{in_turn, in_turn_climbs, put, put_first, Climbs}

-- the numbers from 1 on begin so
begin_by_one : (n : ℕ) → (ks : List ℕ) × (numbers (suc n) ≡ 1 ∷ ks)
begin_by_one zero = ([], refl)
begin_by_one (suc n) = let h = begin_by_one n in (h.0 ++ suc (suc n) ∷ [], ap (λ xs. xs ++ suc (suc n) ∷ []) h.1)

begin_by_two : (n : ℕ) → (ks : List ℕ) × (numbers (suc (suc n)) ≡ 1 ∷ 2 ∷ ks)
begin_by_two zero = ([], refl)
begin_by_two (suc n) = let h = begin_by_two n in (h.0 ++ suc (suc (suc n)) ∷ [], ap (λ xs. xs ++ suc (suc (suc n)) ∷ []) h.1)

first_is : (k : ℕ) (ks : List ℕ) (n : ℕ) → k ∷ ks ≡ numbers n → k ≡ 1
first_is k ks zero e = cc e
first_is k ks (suc n) e = ap (λ xs. get_or xs 0 0) (e ∙ (begin_by_one n).1)

second_is : (k l : ℕ) (ks : List ℕ) (n : ℕ) → k ∷ l ∷ ks ≡ numbers n → l ≡ 2
second_is k l ks zero e = cc e
second_is k l ks (suc zero) e = cc e
second_is k l ks (suc (suc n)) e = ap (λ xs. get_or xs 1 0) (e ∙ (begin_by_two n).1)

module _ {A : Type 0} (key : A → ℕ) where
  -- nothing else is numbered below 2
  behind_two : (x y : A) (xs : List A) (n : ℕ) → key x ≡ 1 → key y ≡ 2 → Climbs key 0 xs → map key (put key x (put key y xs)) ≡ numbers n → Climbs key 2 xs
  behind_two x y [] n first second c are = tt
  behind_two x y (z ∷ xs) n first second c are = by (nat_le (key y) (key z)) refl are
    where
      low : (b : Bool) → nat_le (key x) (key z) ≡ b → key z < 2 → map key (if b then x ∷ z ∷ put key y xs else z ∷ put key x (put key y xs)) ≡ numbers n → ⊥
      low true h below are = let two : key z ≡ 2 = second_is (key x) (key z) (map key (put key y xs)) n are in omega (arith, two, below)
      low false h below are = let one : key z ≡ 1 = first_is (key z) (map key (put key x (put key y xs))) n are in grind (arith, nat_tests)

      by : (b : Bool) → nat_le (key y) (key z) ≡ b → map key (put key x (if b then y ∷ z ∷ xs else z ∷ put key y xs)) ≡ numbers n → Climbs key 2 (z ∷ xs)
      by true h are = ((let up : key y ≤ key z = grind (arith, nat_tests) in omega (arith, up, second)), c.1)
      by false h are = absurd (low (nat_le (key x) (key z)) refl (let below : key z < key y = grind (arith, nat_tests) in omega (arith, below, second)) are)

  two_first : (x y : A) (rest : List A) (n : ℕ) → key x ≡ 1 → key y ≡ 2 → map key (in_turn key (x ∷ y ∷ rest)) ≡ numbers n → map key (x ∷ y ∷ in_turn key rest) ≡ numbers n
  two_first x y rest n first second are =
      let behind : Climbs key 2 (in_turn key rest) = behind_two x y (in_turn key rest) n first second (in_turn_climbs key rest) are in
      let after : put key y (in_turn key rest) ≡ y ∷ in_turn key rest = put_first key y (in_turn key rest) (subst (λ low. Climbs key low (in_turn key rest)) (sym second) behind) in
      let before : put key x (y ∷ in_turn key rest) ≡ x ∷ y ∷ in_turn key rest = put_first key x (y ∷ in_turn key rest) (omega (arith, first, second), subst (λ low. Climbs key low (in_turn key rest)) (sym second) behind) in
      ap (map key) (sym before ∙ ap (put key x) (sym after)) ∙ are

  pub numbered_first : (own rest : List A) (n : ℕ) → (map key own ≡ []) ⊎ (map key own ≡ 1 ∷ 2 ∷ []) → map key (in_turn key (own ++ rest)) ≡ numbers n → map key (own ++ in_turn key rest) ≡ numbers n
  numbered_first [] rest n e are = are
  numbered_first (x ∷ []) rest n (inl e) are = cc e
  numbered_first (x ∷ []) rest n (inr e) are = cc e
  numbered_first (x ∷ y ∷ []) rest n (inl e) are = cc e
  numbered_first (x ∷ y ∷ []) rest n (inr e) are = two_first x y rest n (ap (λ ns. get_or ns 0 0) e) (ap (λ ns. get_or ns 1 0) e) are
  numbered_first (x ∷ y ∷ z ∷ own) rest n (inl e) are = cc e
  numbered_first (x ∷ y ∷ z ∷ own) rest n (inr e) are = cc e
