-- What is at the front of a list and what is behind it, where a test parts the two.
use Rattle.std.proofs.Common.{◌≡◌, ℕ, ◌≤◌, Bool, true, false, List, [], ◌∷◌, refl, sym, ap, ◌∙◌, arith, zero, suc, length, take, drop, filter, cond, All}
use Rattle.std.specs.declared.cmp.Ordering.{Ordering}
use Rattle.std.specs.declared.cmp.Ordering.TheVariants.{Less}
use Rattle.std.specs.List.{AllByRecursion, AllWithin}
use Rattle.std.specs.List.Sorted.{IsStrictlySortedBy}
use Rattle.std.proofs.lemmas.List.Elements.{All-nil}
use Rattle.values.specs.Event.{Event}
use Rattle.eventlist.specs.Place.{AreFirst}
use Rattle.eventlist.proofs.PlaceOrder.{sorted_head, sorted_tail, sorted_cons, sorted_none, within_tail, within_rest, within_head}
use Rattle.eventlist.proofs.ListingRanges.{none_pass}

-- ---- the first that pass a test

pub all_false : (p : Event → Bool) (es : List Event) → AllWithin (λ e. p e ≡ false) es 0 (length es) → All (λ e. p e ≡ false) es
all_false p es h k d lt = h k d (omega arith) lt

pub dropped_fail : (p : Event → Bool) (es : List Event) (n : ℕ) → n ≤ length es → AreFirst p es n → All (λ e. p e ≡ false) (drop n es)
dropped_fail p es zero le h = all_false p es h.1
dropped_fail p [] (suc n) le h = All-nil (λ e. p e ≡ false)
dropped_fail p (e ∷ es) (suc n) le h =
    dropped_fail p es n (omega arith) (within_rest (λ e. p e ≡ true) e es n h.0, within_tail (λ e. p e ≡ false) e es n (length es) h.1)

pub passing_taken : (p : Event → Bool) (es : List Event) (n : ℕ) → n ≤ length es → AreFirst p es n → filter p es ≡ take n es
passing_taken p [] zero le h = refl
passing_taken p [] (suc n) le h = refl
passing_taken p (e ∷ es) zero le h = none_pass p p false (λ e f. f) (e ∷ es) h.1
passing_taken p (e ∷ es) (suc n) le h =
    ap (λ b. cond b (e ∷ filter p es) (filter p es)) (within_head (λ e. p e ≡ true) e es n h.0)
    ∙ ap (λ l. e ∷ l) (passing_taken p es n (omega arith) (within_rest (λ e. p e ≡ true) e es n h.0, within_tail (λ e. p e ≡ false) e es n (length es) h.1))

-- tests that say the same
pub first_same : (p q : Event → Bool) (es : List Event) (n : ℕ) → n ≤ length es → All (λ e. p e ≡ q e) es → AreFirst p es n → AreFirst q es n
first_same p q es n le same h = (
  λ k d low high. sym (same k d (omega arith)) ∙ h.0 k d low high,
  λ k d low high. sym (same k d high) ∙ h.1 k d low high,
)

pub same_filter : (p q : Event → Bool) (es : List Event) → AllByRecursion (λ e. p e ≡ q e) es → filter p es ≡ filter q es
same_filter p q [] h = refl
same_filter p q (e ∷ es) h =
    ap (λ b. cond b (e ∷ filter p es) (filter p es)) h.0 ∙ ap (λ l. cond (q e) (e ∷ l) l) (same_filter p q es h.1)

-- ---- parts of what is in order

module _ {X : Type 0} (R : X → X → Ordering) where
  all_taken : (P : X → Type 0) (xs : List X) (n : ℕ) → AllByRecursion P xs → AllByRecursion P (take n xs)
  all_taken P xs zero h = tt
  all_taken P [] (suc n) h = tt
  all_taken P (x ∷ xs) (suc n) h = (h.0, all_taken P xs n h.1)

  pub sorted_drop : (xs : List X) (n : ℕ) → IsStrictlySortedBy R xs → IsStrictlySortedBy R (drop n xs)
  sorted_drop xs zero h = h
  sorted_drop [] (suc n) h = h
  sorted_drop (x ∷ xs) (suc n) h = sorted_drop xs n (sorted_tail R x xs h)

  pub sorted_take : (xs : List X) (n : ℕ) → IsStrictlySortedBy R xs → IsStrictlySortedBy R (take n xs)
  sorted_take xs zero h = sorted_none R
  sorted_take [] (suc n) h = h
  sorted_take (x ∷ xs) (suc n) h = sorted_cons R x (take n xs) (all_taken (λ y. R x y ≡ Less) xs n (sorted_head R x xs h)) (sorted_take xs n (sorted_tail R x xs h))
