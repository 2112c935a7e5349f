-- What is numbered once from 1 on is numbered in turn, once it was put in turn.
use Rattle.std.proofs.Common.{◌≡◌, ℕ, zero, suc, ◌<◌, ◌≤◌, List, [], ◌∷◌, ◌++◌, true, false, refl, sym, ap, ◌∙◌, arith, if◌then◌else◌, nat_le, map, sum_by, IsPermutation}
use Rattle.std.proofs.lemmas.Bool.Decides.{nat_tests}
use Rattle.std.proofs.lemmas.List.Sorted.{sum_by-IsPermutation}
use Rattle.std.proofs.lemmas.List.Sums.{sum_by-cons}
use Rattle.serving.specs.journal.Entries.{numbers}
use Rattle.runs.proofs.RunInTurn.{in_turn, in_turn_climbs, in_turn_sum, Climbs}

abbrev itself : ℕ → ℕ
itself n = n

abbrev below : ℕ → ℕ → ℕ
below x z = if nat_le z x then 1 else 0

below_none : (x z : ℕ) → x < z → below x z ≡ 0
below_none x z lt =
    let h : nat_le z x ≡ false = grind (arith, nat_tests) in
    λ k. if h k then 1 else 0

below_itself : (x : ℕ) → below x x ≡ 1
below_itself x =
    let h : nat_le x x ≡ true = grind (arith, nat_tests) in
    λ k. if h k then 1 else 0

none_below : (x low : ℕ) (ys : List ℕ) → x < low → Climbs itself low ys → sum_by (below x) ys ≡ 0
none_below x low [] lt c = refl
none_below x low (y ∷ ys) lt c =
    let at : x < y = omega (arith, c.0) in
    omega (arith, sum_by-cons (below x) y ys, below_none x y at, none_below x y ys at c.1)

not_less : (x y : ℕ) (xs ys : List ℕ) → Climbs itself y ys → sum_by (below x) (x ∷ xs) ≡ sum_by (below x) (y ∷ ys) → x < y → ⊥
not_less x y xs ys c same lt =
    omega (arith, same, sum_by-cons (below x) x xs, below_itself x, none_below x y (y ∷ ys) lt (omega arith, c))

-- two lists that climb, with the same sums, are the same
same_climbing : (a b : ℕ) (xs ys : List ℕ) → Climbs itself a xs → Climbs itself b ys → ((f : ℕ → ℕ) → sum_by f xs ≡ sum_by f ys) → xs ≡ ys
same_climbing a b [] [] c d same = refl
same_climbing a b [] (y ∷ ys) c d same = absurd (omega (arith, same (λ z. 1), sum_by-cons (λ z. 1) y ys))
same_climbing a b (x ∷ xs) [] c d same = absurd (omega (arith, same (λ z. 1), sum_by-cons (λ z. 1) x xs))
same_climbing a b (x ∷ xs) (y ∷ ys) c d same =
    let up : x < y → ⊥ = not_less x y xs ys d.1 (same (below x)) in
    let down : y < x → ⊥ = not_less y x ys xs c.1 (sym (same (below y))) in
    let is : x ≡ y = omega (arith, up, down) in
    (λ k. is k ∷ xs) ∙ ap (λ zs. y ∷ zs) (same_climbing x y xs ys c.1 d.1 (λ f. omega (arith, same f, sum_by-cons f x xs, sum_by-cons f y ys, ap f is)))

-- ---- the numbers from 1 on

abbrev AllUpto : ℕ → List ℕ → Type 0
AllUpto n [] = Unit {0}
AllUpto n (x ∷ xs) = (x ≤ n) × AllUpto n xs

upto_more : (n : ℕ) (xs : List ℕ) → AllUpto n xs → AllUpto (suc n) (xs ++ suc n ∷ [])
upto_more n [] upto = (omega arith, tt)
upto_more n (x ∷ xs) upto = (omega (arith, upto.0), upto_more n xs upto.1)

numbers_upto : (n : ℕ) → AllUpto n (numbers n)
numbers_upto zero = tt
numbers_upto (suc n) = upto_more n (numbers n) (numbers_upto n)

climbs_push : (low n : ℕ) (xs : List ℕ) → Climbs itself low xs → low ≤ suc n → AllUpto n xs → Climbs itself low (xs ++ suc n ∷ [])
climbs_push low n [] c le upto = (le, tt)
climbs_push low n (x ∷ xs) c le upto = (c.0, climbs_push x n xs c.1 (omega (arith, upto.0)) upto.1)

numbers_climb : (n : ℕ) → Climbs itself 0 (numbers n)
numbers_climb zero = tt
numbers_climb (suc n) = climbs_push 0 n (numbers n) (numbers_climb n) (omega arith) (numbers_upto n)

module _ {A : Type 0} (key : A → ℕ) where
  keys_climb : (low : ℕ) (xs : List A) → Climbs key low xs → Climbs itself low (map key xs)
  keys_climb low [] c = tt
  keys_climb low (x ∷ xs) c = (c.0, keys_climb (key x) xs c.1)

  map_sum : (f : ℕ → ℕ) (xs : List A) → sum_by f (map key xs) ≡ sum_by (λ x. f (key x)) xs
  map_sum f [] = refl
  map_sum f (x ∷ xs) = omega (arith, sum_by-cons f (key x) (map key xs), map_sum f xs, sum_by-cons (λ x. f (key x)) x xs)

  pub numbered : (xs : List A) (n : ℕ) → IsPermutation (map key xs) (numbers n) → map key (in_turn key xs) ≡ numbers n
  numbered xs n once =
      same_climbing 0 0 (map key (in_turn key xs)) (numbers n) (keys_climb 0 (in_turn key xs) (in_turn_climbs key xs)) (numbers_climb n)
      (λ f. map_sum f (in_turn key xs) ∙ in_turn_sum key (λ x. f (key x)) xs ∙ sym (map_sum f xs) ∙ sym (sum_by-IsPermutation f (map key xs) (numbers n) once))
