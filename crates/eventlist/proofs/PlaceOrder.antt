-- Events are in a total order, in which only those of one key and one instant tie.
use Rattle.std.proofs.Common.{◌≡◌, ℕ, ◌<◌, ◌≤◌, Bool, true, false, T, List, [], ◌∷◌, refl, sym, ap, subst, ◌∙◌, arith, zero, suc, length, get_or, nat_lt, Option, Some, None, IfSome, option_copied}
use Rattle.std.specs.Cmp.{IsTotalOrder}
use Rattle.std.specs.Cmp.Lexicographic.{nat_list_cmp_total}
use Rattle.std.specs.Ordering.{nat_cmp, ordering_then, ordering_reverse, is_lt, is_eq}
use Rattle.std.specs.declared.cmp.Ordering.{Ordering}
use Rattle.std.specs.declared.cmp.Ordering.TheVariants.{Less, Equal, Greater}
use Rattle.std.specs.FinMap.{nat_cmp-IsAntisymmetric, slice_cmp-IsAntisymmetric}
use Rattle.std.specs.Prelude.{is_some}
use Rattle.std.specs.Borrow.{Bor}
use Rattle.std.specs.List.{AllByRecursion, AllWithin, slice_get}
use Rattle.std.proofs.lemmas.Option.{slice_get_past, slice_get_read}
use Rattle.std.specs.List.Sorted.{IsStrictlySortedBy, IsPartitionedBy}
use Rattle.std.proofs.lemmas.Bool.Decides.{nat_tests}
use Rattle.std.proofs.lemmas.List.Elements.{All-from_recursion}
use Rattle.values.specs.Event.{Event}
use Rattle.values.specs.Events.{bytes_cmp, is_bytes, event_cmp}
use Rattle.values.proofs.OrderTotal.{below}

pub bytes_total : IsTotalOrder bytes_cmp
bytes_total = nat_list_cmp_total

pub bytes_exact : (x y : List ℕ) → bytes_cmp x y ≡ Equal → x ≡ y
bytes_exact = slice_cmp-IsAntisymmetric nat_cmp-IsAntisymmetric

reversed : (o : Ordering) → is_eq (ordering_reverse o) ≡ is_eq o
reversed Less = refl
reversed Equal = refl
reversed Greater = refl

-- of two keys the test reads either way
pub is_bytes_back : (x y : List ℕ) → is_bytes x y ≡ is_eq (bytes_cmp y x)
is_bytes_back x y = ap is_eq (bytes_total.antisymm x y) ∙ reversed (bytes_cmp y x)

tied : (o : Ordering) → is_eq o ≡ true → o ≡ Equal
tied Less e = cc
tied Equal e = refl
tied Greater e = cc

pub same_bytes : (x y : List ℕ) → is_bytes x y ≡ true → x ≡ y
same_bytes x y e = bytes_exact x y (tied (bytes_cmp x y) e)

pub bytes_tie : (x : List ℕ) → bytes_cmp x x ≡ Equal
bytes_tie x = level (bytes_cmp x x) (bytes_total.antisymm x x)
  where
    level : (o : Ordering) → o ≡ ordering_reverse o → o ≡ Equal
    level Less e = cc
    level Equal e = refl
    level Greater e = cc

pub is_own : (x : List ℕ) → is_bytes x x ≡ true
is_own x = ap is_eq (bytes_tie x)

less_in_time : (i j : ℕ) → nat_cmp i j ≡ Less → i < j
less_in_time i j e = below i j (subst (λ o. T (is_lt o)) (sym e) tt)

-- an event before another is of a lesser key, or earlier of its key
pub record IsLower (d e : Event) : Type 0 where
  pub same : d.key ≡ e.key → d.at < e.at
  pub other : (d.key ≡ e.key → ⊥) → bytes_cmp d.key e.key ≡ Less

pub is_lower : (d e : Event) → event_cmp d e ≡ Less → IsLower d e
is_lower d e h = by (bytes_cmp d.key e.key) refl h
  where
    by : (o : Ordering) → bytes_cmp d.key e.key ≡ o → ordering_then o (nat_cmp d.at e.at) ≡ Less → IsLower d e
    by Less is h = record {
      same = λ k. absurd (let tie : bytes_cmp d.key e.key ≡ Equal = subst (λ x. bytes_cmp d.key x ≡ Equal) k (bytes_tie d.key) in cc);
      other = λ no. is;
    }
    by Equal is h = record { same = λ k. less_in_time d.at e.at h; other = λ no. absurd (no (bytes_exact d.key e.key is)) }
    by Greater is h = cc

-- ---- lists in order

module _ {X : Type 0} (R : X → X → Ordering) where
  pub sorted_head : (x : X) (xs : List X) → IsStrictlySortedBy R (x ∷ xs) → AllByRecursion (λ y. R x y ≡ Less) xs
  unfolding IsStrictlySortedBy
  sorted_head x xs h = h.0

  pub sorted_tail : (x : X) (xs : List X) → IsStrictlySortedBy R (x ∷ xs) → IsStrictlySortedBy R xs
  unfolding IsStrictlySortedBy
  sorted_tail x xs h = h.1

  pub sorted_cons : (x : X) (xs : List X) → AllByRecursion (λ y. R x y ≡ Less) xs → IsStrictlySortedBy R xs → IsStrictlySortedBy R (x ∷ xs)
  unfolding IsStrictlySortedBy
  sorted_cons x xs h k = (h, k)

  pub sorted_none : IsStrictlySortedBy R []
  unfolding IsStrictlySortedBy
  sorted_none = tt

  -- a test that holds of what is before an element of which it holds
  pub partitioned : (p : X → Bool) → ((x y : X) → R x y ≡ Less → p y ≡ true → p x ≡ true) → (xs : List X) → IsStrictlySortedBy R xs → IsPartitionedBy p xs
  partitioned p down [] h i j d le lt is = absurd (omega arith)
  partitioned p down (x ∷ xs) h zero zero d le lt is = is
  partitioned p down (x ∷ xs) h zero (suc j) d le lt is =
      down x (get_or xs j d) (All-from_recursion (λ y. R x y ≡ Less) xs (sorted_head x xs h) j d (omega arith)) is
  partitioned p down (x ∷ xs) h (suc i) zero d le lt is = absurd (omega arith)
  partitioned p down (x ∷ xs) h (suc i) (suc j) d le lt is = partitioned p down xs (sorted_tail x xs h) i j d (omega arith) (omega arith) is

-- ---- parts of lists

module _ {X : Type 0} (P : X → Type 0) where
  pub within_tail : (x : X) (xs : List X) (low high : ℕ) → AllWithin P (x ∷ xs) (suc low) (suc high) → AllWithin P xs low high
  within_tail x xs low high h k d a b = h (suc k) d (omega arith) (omega arith)

  pub within_rest : (x : X) (xs : List X) (high : ℕ) → AllWithin P (x ∷ xs) 0 (suc high) → AllWithin P xs 0 high
  within_rest x xs high h k d a b = h (suc k) d (omega arith) (omega arith)

  pub within_head : (x : X) (xs : List X) (high : ℕ) → AllWithin P (x ∷ xs) 0 (suc high) → P x
  within_head x xs high h = h 0 x (omega arith) (omega arith)

-- what a look at a place finds
pub looked : {X : Type 0} (xs : List X) (i : ℕ) (found : Option (Bor X)) → is_some found ≡ nat_lt i (length xs) → IfSome found (λ x. x.now ≡ get_or xs i x.now) → option_copied found ≡ slice_get xs i
looked xs i None within is = sym (slice_get_past xs i (past i (length xs) (sym within)))
  where
    past : (n m : ℕ) → nat_lt n m ≡ false → m ≤ n
    past n m e = grind (arith, nat_tests)
looked xs i (Some x) within is = sym (slice_get_read xs (length xs) i x.now refl (inside i (length xs) (sym within)) is)
  where
    inside : (n m : ℕ) → nat_lt n m ≡ true → n < m
    inside n m e = grind (arith, nat_tests)
