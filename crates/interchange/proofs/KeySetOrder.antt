-- Keys in their order as a list, and as a set.
use Rattle.std.proofs.Common.{◌≡◌, suc, ◌-◌, ◌&&◌, ◌||◌, Bool, true, false, List, [], ◌∷◌, ◌++◌, Option, Some, None, refl, sym, ap, ◌∙◌, length, slice_get, arith}
use Rattle.std.proofs.Math.Bool.{and-true, and-false}
use Rattle.std.proofs.lemmas.Bool.{and_parts}
use Rattle.std.specs.BTreeSet.{BTreeSet, IsFromIterResult, insert_key}
use Rattle.std.specs.Cmp.{IsTotalOrder, alike_right, tied_itself}
use Rattle.std.specs.FinMap.{IsAntisymmetric}
use Rattle.std.specs.List.{AllByRecursion, list_all, list_any}
use Rattle.std.specs.List.Sorted.{IsStrictlySortedBy}
use Rattle.std.specs.Ordering.{eq_by_cmp, is_eq, is_lt, match_ordering, ordering_reverse}
use Rattle.std.specs.declared.cmp.Ordering.{Ordering}
use Rattle.std.specs.declared.cmp.Ordering.TheVariants.{Less, Equal, Greater}

is_less : (r : Ordering) → is_lt r ≡ true → r ≡ Less
is_less Less h = refl
is_less Equal h = cc h
is_less Greater h = cc h

-- the last of a list, if it has one, is below k
abbrev pub last_below : {K : Type 0} → (K → K → Ordering) → Option K → K → Bool
last_below R None k = true
last_below R (Some last) k = is_lt (R last k)

module _ {K : Type 0} {R : K → K → Ordering} (o : IsTotalOrder R) where
  -- ---- a key above all of a list

  above : (x k : K) → is_lt (R x k) ≡ true → R k x ≡ Greater
  above x k h = o.antisymm k x ∙ ap ordering_reverse (is_less (R x k) h)

  pub inserted_last : (ks : List K) (k : K) → list_all (λ x. is_lt (R x k)) ks ≡ true → insert_key R ks k ≡ ks ++ k ∷ []
  inserted_last [] k h = refl
  inserted_last (x ∷ ks) k h =
      let parts = and_parts (is_lt (R x k)) (list_all (λ x. is_lt (R x k)) ks) h in
      ap (λ r. match_ordering r (k ∷ x ∷ ks) (x ∷ ks) (x ∷ insert_key R ks k)) (above x k parts.0) ∙ ap (λ l. x ∷ l) (inserted_last ks k parts.1)

  pub absent_above : (ks : List K) (k : K) → list_all (λ x. is_lt (R x k)) ks ≡ true → list_any (eq_by_cmp R k) ks ≡ false
  absent_above [] k h = refl
  absent_above (x ∷ ks) k h =
      let parts = and_parts (is_lt (R x k)) (list_all (λ x. is_lt (R x k)) ks) h in
      ap (λ r. is_eq r || list_any (eq_by_cmp R k) ks) (above x k parts.0) ∙ absent_above ks k parts.1

  -- what is above the last of a list in order is above all of it
  pub above_last : (ks : List K) (k : K) → IsStrictlySortedBy R ks → last_below R (slice_get ks (length ks - 1)) k ≡ list_all (λ x. is_lt (R x k)) ks
  unfolding IsStrictlySortedBy
  above_last [] k h = refl
  above_last (x ∷ []) k h = sym (and-true (is_lt (R x k)))
  above_last (x ∷ y ∷ ks) k h =
      let next : length (x ∷ y ∷ ks) - 1 ≡ suc (length (y ∷ ks) - 1) = omega arith in
      ap (λ n. last_below R (slice_get (x ∷ y ∷ ks) n) k) next ∙ above_last (y ∷ ks) k h.1 ∙ by (R y k) (list_all (λ x. is_lt (R x k)) ks) (o.trans x y k h.0.0)
    where
      by : (r : Ordering) (rest : Bool) → (r ≡ Less → R x k ≡ Less) → (is_lt r && rest) ≡ (is_lt (R x k) && (is_lt r && rest))
      by Less rest less = sym (ap (λ r. is_lt r && rest) (less refl))
      by Equal rest less = sym (and-false (is_lt (R x k)))
      by Greater rest less = sym (and-false (is_lt (R x k)))

  -- ---- a list in order stays so

  below_all : (k x : K) (ks : List K) → R k x ≡ Less → AllByRecursion (λ y. R x y ≡ Less) ks → AllByRecursion (λ y. R k y ≡ Less) ks
  below_all k x [] h below = tt
  below_all k x (y ∷ ks) h below = (o.trans k x y h below.0, below_all k x ks h below.1)

  below_inserted : (x k : K) (ks : List K) → AllByRecursion (λ y. R x y ≡ Less) ks → R x k ≡ Less → AllByRecursion (λ y. R x y ≡ Less) (insert_key R ks k)
  below_inserted x k [] below h = (h, tt)
  below_inserted x k (y ∷ ks) below h = by (R k y) (below_inserted x k ks below.1 h)
    where
      by : (r : Ordering) → AllByRecursion (λ y. R x y ≡ Less) (insert_key R ks k) → AllByRecursion (λ y. R x y ≡ Less) (match_ordering r (k ∷ y ∷ ks) (y ∷ ks) (y ∷ insert_key R ks k))
      by Less more = (h, below)
      by Equal more = below
      by Greater more = (below.0, more)

  pub sorted_inserted : (ks : List K) (k : K) → IsStrictlySortedBy R ks → IsStrictlySortedBy R (insert_key R ks k)
  unfolding IsStrictlySortedBy
  sorted_inserted [] k h = (tt, tt)
  sorted_inserted (x ∷ ks) k h = by (R k x) refl (sorted_inserted ks k h.1)
    where
      by : (r : Ordering) → R k x ≡ r → IsStrictlySortedBy R (insert_key R ks k) → IsStrictlySortedBy R (match_ordering r (k ∷ x ∷ ks) (x ∷ ks) (x ∷ insert_key R ks k))
      by Less is more = ((is, below_all k x ks is h.0), h)
      by Equal is more = h
      by Greater is more = (below_inserted x k ks h.0 (o.antisymm x k ∙ ap ordering_reverse is), more)

  -- ---- lists in order with the same keys

  present : (k : K) (ks : List K) → list_any (eq_by_cmp R k) (k ∷ ks) ≡ true
  present k ks = ap (λ r. is_eq r || list_any (eq_by_cmp R k) ks) (tied_itself o k)

  absent_below : (k : K) (ks : List K) → AllByRecursion (λ y. R k y ≡ Less) ks → list_any (eq_by_cmp R k) ks ≡ false
  absent_below k [] below = refl
  absent_below k (y ∷ ks) below = ap (λ r. is_eq r || list_any (eq_by_cmp R k) ks) below.0 ∙ absent_below k ks below.1

  -- a key below the first of a list in order is not in it
  absent_first : (k x : K) (ks : List K) → R k x ≡ Less → AllByRecursion (λ y. R x y ≡ Less) ks → list_any (eq_by_cmp R k) (x ∷ ks) ≡ false
  absent_first k x ks h below = absent_below k (x ∷ ks) (h, below_all k x ks h below)

  -- the first of a list in order is not among the others
  absent_again : (k x : K) (ks : List K) → R k x ≡ Equal → AllByRecursion (λ y. R x y ≡ Less) ks → list_any (eq_by_cmp R k) ks ≡ false
  absent_again k x [] h below = refl
  absent_again k x (y ∷ ks) h below = ap (λ r. is_eq r || list_any (eq_by_cmp R k) ks) (o.congr k x y h ∙ below.0) ∙ absent_again k x ks h below.1

  same_list : IsAntisymmetric R → (xs ys : List K) → IsStrictlySortedBy R xs → IsStrictlySortedBy R ys → ((k : K) → list_any (eq_by_cmp R k) xs ≡ list_any (eq_by_cmp R k) ys) → xs ≡ ys
  unfolding IsStrictlySortedBy
  same_list exact [] [] h g same = refl
  same_list exact [] (y ∷ ys) h g same = cc (same y, present y ys)
  same_list exact (x ∷ xs) [] h g same = cc (same x, present x xs)
  same_list exact (x ∷ xs) (y ∷ ys) h g same = by (R x y) refl (same_list exact xs ys h.1 g.1)
    where
      rest : (k : K) (r : Ordering) → R k x ≡ r → R k y ≡ r → (is_eq r || list_any (eq_by_cmp R k) xs) ≡ (is_eq r || list_any (eq_by_cmp R k) ys) → list_any (eq_by_cmp R k) xs ≡ list_any (eq_by_cmp R k) ys
      rest k Less at_x at_y alike = alike
      rest k Equal at_x at_y alike = absent_again k x xs at_x h.0 ∙ sym (absent_again k y ys at_y g.0)
      rest k Greater at_x at_y alike = alike

      by : (r : Ordering) → R x y ≡ r → (((k : K) → list_any (eq_by_cmp R k) xs ≡ list_any (eq_by_cmp R k) ys) → xs ≡ ys) → x ∷ xs ≡ y ∷ ys
      by Less is more = cc (same x, present x xs, absent_first x y ys is g.0)
      by Equal is more = λ i. exact x y is i ∷ more (λ k. rest k (R k y) (alike_right o x y k is) refl (ap (λ r. is_eq r || list_any (eq_by_cmp R k) xs) (sym (alike_right o x y k is)) ∙ same k)) i
      by Greater is more = cc (same y, present y ys, absent_first y x xs (o.antisymm y x ∙ ap ordering_reverse is) h.0)

  -- a set that is made of a list in order has the keys of the list
  pub collected : IsAntisymmetric R → (ks : List K) (set : BTreeSet K) → IsStrictlySortedBy R ks → IsFromIterResult R ks set → set.keys ≡ ks
  collected exact ks set h made = same_list exact set.keys ks made.1 h made.0
