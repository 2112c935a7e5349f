-- No number is twice among those from 1 on.
use Rattle.std.proofs.Common.{◌≡◌, ℕ, zero, suc, ◌+◌, ◌<◌, ◌≤◌, ◌==◌, List, [], ◌∷◌, ◌++◌, Bool, true, false, refl, sym, ap, ◌∙◌, arith, if◌then◌else◌, map, sum_by, IsPermutation}
use Rattle.std.proofs.lemmas.Bool.Decides.{nat_tests}
use Rattle.std.proofs.lemmas.List.Sums.{sum_by-cons, sum_by-append}
use Rattle.std.proofs.lemmas.List.Sorted.{sum_by-IsPermutation}
use Rattle.serving.specs.journal.Entries.{numbers}

abbrev same : ℕ → ℕ → ℕ
same n m = if m == n then 1 else 0

same_itself : (n : ℕ) → same n n ≡ 1
same_itself n =
    let h : (n == n) ≡ true = grind (arith, nat_tests) in
    λ k. if h k then 1 else 0

same_most : (n m : ℕ) → same n m ≤ 1
same_most n m = by (m == n)
  where
    by : (b : Bool) → (if b then 1 else 0) ≤ 1
    by true = omega arith
    by false = omega arith

pushed : (n k : ℕ) → sum_by (same n) (numbers (suc k)) ≡ sum_by (same n) (numbers k) + same n (suc k)
pushed n k = sum_by-append (same n) (numbers k) (suc k ∷ []) ∙ ap (λ m. sum_by (same n) (numbers k) + m) (omega (arith, sum_by-cons (same n) (suc k) []))

none_above : (n k : ℕ) → k < n → sum_by (same n) (numbers k) ≡ 0
none_above n zero below = refl
none_above n (suc k) below =
    let h : (suc k == n) ≡ false = grind (arith, nat_tests, below) in
    let other : same n (suc k) ≡ 0 = λ j. if h j then 1 else 0 in
    omega (arith, pushed n k, none_above n k (omega (arith, below)), other)

once_at_most : (n k : ℕ) → sum_by (same n) (numbers k) ≤ 1
once_at_most n zero = omega arith
once_at_most n (suc k) = by (suc k == n) refl (once_at_most n k)
  where
    by : (b : Bool) → (suc k == n) ≡ b → sum_by (same n) (numbers k) ≤ 1 → sum_by (same n) (numbers (suc k)) ≤ 1
    by true is before =
        let at : suc k ≡ n = grind (arith, nat_tests, is) in
        omega (arith, pushed n k, none_above n k (omega (arith, at)), same_most n (suc k))
    by false is before =
        let none : same n (suc k) ≡ 0 = λ j. if is j then 1 else 0 in
        omega (arith, pushed n k, before, none)

module _ {A : Type 0} (key : A → ℕ) where
  pub not_twice : (front between back : List A) (x y : A) (k : ℕ) → key x ≡ key y → IsPermutation (map key (front ++ x ∷ (between ++ y ∷ back))) (numbers k) → ⊥
  not_twice front between back x y k is once =
      let n = key x in
      let f = λ (a : A). same n (key a) in
      omega (
        arith,
        once_at_most n k,
        sum_by-IsPermutation (same n) (map key (front ++ x ∷ (between ++ y ∷ back))) (numbers k) once,
        map_sum f (front ++ x ∷ (between ++ y ∷ back)),
        sum_by-append f front (x ∷ (between ++ y ∷ back)),
        sum_by-cons f x (between ++ y ∷ back),
        sum_by-append f between (y ∷ back),
        sum_by-cons f y back,
        same_itself n,
        ap (same n) (sym is),
      )
    where
      map_sum : (f : A → ℕ) (xs : List A) → sum_by (same (key x)) (map key xs) ≡ sum_by (λ a. same (key x) (key a)) xs
      map_sum f [] = refl
      map_sum f (z ∷ xs) = omega (arith, sum_by-cons (same (key x)) (key z) (map key xs), map_sum f xs, sum_by-cons (λ a. same (key x) (key a)) z xs)
