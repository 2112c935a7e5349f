-- Entries by their numbers, and by their places from the oldest on.
use Rattle.std.proofs.Common.{◌≡◌, ◌≢◌, ℕ, zero, suc, ◌+◌, ◌-◌, ◌<◌, ◌≤◌, ◌==◌, List, [], ◌∷◌, ◌++◌, length, reverse, Option, Some, None, Bool, true, false, refl, sym, ap, ◌∙◌, arith, if◌then◌else◌, slice_get, map, IsPermutation, subst}
use Rattle.std.proofs.lemmas.Bool.Decides.{nat_tests}
use Rattle.std.proofs.lemmas.List.{reverse-append, length-reverse, reverse-reverse}
use Rattle.std.proofs.lemmas.List.Sorted.{IsPermutation-map}
use Rattle.std.proofs.lemmas.Option.{slice_get_within}
use Rattle.journal.specs.declared.entry.Entry.{Entry}
use Rattle.journal.specs.Entries.{Entries, entry_at, numbers}

module _ {A : Type 0} where
  pub slice_get-append_left : (xs ys : List A) (n : ℕ) → n < length xs → slice_get (xs ++ ys) n ≡ slice_get xs n
  slice_get-append_left [] ys n h = absurd (omega arith)
  slice_get-append_left (x ∷ xs) ys zero h = refl
  slice_get-append_left (x ∷ xs) ys (suc n) h = slice_get-append_left xs ys n (omega arith)

  pub slice_get_seam : (xs : List A) (x : A) → slice_get (xs ++ x ∷ []) (length xs) ≡ Some x
  slice_get_seam [] x = refl
  slice_get_seam (y ∷ xs) x = slice_get_seam xs x

  not_seam : (xs : List A) (x : A) (n : ℕ) → n ≢ length xs → slice_get (xs ++ x ∷ []) n ≡ slice_get xs n
  not_seam [] x zero h = absurd (h refl)
  not_seam [] x (suc n) h = refl
  not_seam (y ∷ xs) x zero h = refl
  not_seam (y ∷ xs) x (suc n) h = not_seam xs x n (λ e. h (ap suc e))

  pub reverse_more : (x : A) (xs : List A) → reverse (x ∷ xs) ≡ reverse xs ++ x ∷ []
  reverse_more x xs = reverse-append (x ∷ []) xs

  pub reverse_push : (xs : List A) (x : A) → reverse (xs ++ x ∷ []) ≡ x ∷ reverse xs
  reverse_push xs x = reverse-append xs (x ∷ [])

abbrev by_test : Bool → Entry → Option Entry → Option Entry
by_test b e o = if b then Some e else o

-- the place of an entry is one less than its number
pub entry_is : (j : Entries) (n : ℕ) → entry_at j (n + 1) ≡ slice_get (reverse j) n
entry_is [] n = refl
entry_is (e ∷ j) n = by ((n + 1) == length (e ∷ j)) refl (entry_is j n)
  where
    at : slice_get (reverse (e ∷ j)) n ≡ slice_get (reverse j ++ e ∷ []) n
    at = ap (λ xs. slice_get xs n) (reverse_more e j)

    by : (b : Bool) → ((n + 1) == length (e ∷ j)) ≡ b → entry_at j (n + 1) ≡ slice_get (reverse j) n → entry_at (e ∷ j) (n + 1) ≡ slice_get (reverse (e ∷ j)) n
    by true h rest =
        let len : length (reverse j) ≡ length j = length-reverse j in
        let here : n ≡ length (reverse j) = grind (arith, nat_tests) in
        (λ i. by_test (h i) e (entry_at j (n + 1))) ∙ sym (at ∙ ap (slice_get (reverse j ++ e ∷ [])) here ∙ slice_get_seam (reverse j) e)
    by false h rest =
        let len : length (reverse j) ≡ length j = length-reverse j in
        let other : n ≢ length (reverse j) = λ is. cc (sym h, test_is n (length j) (is ∙ len)) in
        (λ i. by_test (h i) e (entry_at j (n + 1))) ∙ rest ∙ sym (at ∙ not_seam (reverse j) e n other)
      where
        test_is : (n k : ℕ) → n ≡ k → ((n + 1) == suc k) ≡ true
        test_is n k is = grind (arith, nat_tests)

pub entry_zero : (j : Entries) → entry_at j 0 ≡ None
entry_zero [] = refl
entry_zero (e ∷ j) =
    let no : (0 == length (e ∷ j)) ≡ false = grind (arith, nat_tests) in
    (λ i. by_test (no i) e (entry_at j 0)) ∙ entry_zero j

-- the entries from the oldest on, by their numbers
pub entry_found : (xs : List Entry) (number : ℕ) → 0 < number → entry_at (reverse xs) number ≡ slice_get xs (number - 1)
entry_found xs zero h = absurd (omega arith)
entry_found xs (suc n) h =
    let more : suc n ≡ n + 1 = omega arith in
    let less : n ≡ suc n - 1 = omega arith in
    ap (entry_at (reverse xs)) more ∙ entry_is (reverse xs) n ∙ ap (λ ys. slice_get ys n) (reverse-reverse xs) ∙ ap (slice_get xs) less

pub record IsWithin (j : Entries) (number : ℕ) : Type 0 where
  pub counts : 0 < number
  pub upto : number ≤ length j

pub entry_within : (j : Entries) (number : ℕ) (e : Entry) → entry_at j number ≡ Some e → IsWithin j number
entry_within j zero e h = absurd (cc (sym (entry_zero j), h))
entry_within j (suc n) e h =
    let more : suc n ≡ n + 1 = omega arith in
    let at : slice_get (reverse j) n ≡ Some e = sym (ap (entry_at j) more ∙ entry_is j n) ∙ h in
    let lt : n < length (reverse j) = slice_get_within (reverse j) n e at in
    let len : length (reverse j) ≡ length j = length-reverse j in
    record { counts = omega arith; upto = omega arith }

-- what was put in order has the numbers that the ordered list has
pub all_once : {A : Type 0} (f : A → ℕ) (xs ys : List A) (n : ℕ) → IsPermutation xs ys → map f ys ≡ numbers n → IsPermutation (map f xs) (numbers n)
all_once f xs ys n p e = subst (IsPermutation (map f xs)) e (IsPermutation-map f xs ys p)
