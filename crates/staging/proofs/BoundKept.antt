-- Keys that meet comparisons are between the bounds that their first column has.
use Rattle.std.proofs.Common.{◌≡◌, ◌==◌, ◌&&◌, ℕ, Bool, true, false, cond, List, [], ◌∷◌, Option, Some, None, refl, sym, ap, subst, ◌∙◌, arith, filter, get_or, length, ◌<◌, suc, nat_lt}
use Rattle.std.proofs.lemmas.Bool.{and_parts}
use Rattle.std.proofs.lemmas.Bool.Decides.{nat_tests}
use Rattle.std.proofs.lemmas.Cmp.{tied_itself}
use Rattle.std.proofs.lemmas.List.Folds.{list_all_at}
use Rattle.std.specs.Prelude.{position, option_and_then}
use Rattle.std.specs.Cmp.{nat_cmp_total}
use Rattle.std.specs.Cmp.Lexicographic.{slice_cmp}
use Rattle.std.specs.BTreeMap.Range.{entries_between}
use Rattle.std.specs.declared.ops.Bound.TheVariants.{Included, Unbounded}
use Rattle.std.specs.List.{list_all, slice_get, AllByRecursion}
use Rattle.std.specs.List.Sorted.{IsStrictlySortedBy}
use Rattle.std.specs.Map.{keys_of}
use Rattle.std.specs.Ordering.{nat_cmp, ordering_then, ordering_reverse, is_le, is_lt, is_gt}
use Rattle.std.specs.declared.cmp.Ordering.{Ordering}
use Rattle.std.specs.declared.cmp.Ordering.TheVariants.{Less, Equal as Same, Greater}
use Rattle.values.specs.declared.key.Key.{Key}
use Rattle.values.specs.declared.table.Table.{Table}
use Rattle.values.specs.declared.value.Value.{Value}
use Rattle.values.specs.declared.query.Operator.{Operator}
use Rattle.values.specs.declared.query.Operator.TheVariants.{Equal, Below, AtMost, Above, AtLeast}
use Rattle.values.specs.declared.query.Comparison.{Comparison}
use Rattle.values.specs.declared.query.Keys.{Keys}
use Rattle.values.specs.Order.{value_cmp, key_cmp}
use Rattle.values.specs.OrderLaw.{value_cmp_total}
use Rattle.values.specs.Log.{Net, Row}
use Rattle.values.specs.Versions.{compares, holds, matches}
use Rattle.staging.specs.Bound.{is_first, is_of_first, bounds_below, bounds_above, is_from_value, is_first_below, IsPast}

clash : false ≡ true → ⊥
clash e = cc

-- each comparison holds
pub held_at : (table : Table) (k : Key) (cs : List Comparison) (i : ℕ) (d : Comparison) → i < length cs → list_all (holds table k) cs ≡ true → holds table k (get_or cs i d) ≡ true
held_at table k cs i d within all = by (holds table k (get_or cs i d)) refl
  where
    by : (b : Bool) → holds table k (get_or cs i d) ≡ b → b ≡ true
    by true is = refl
    by false is = absurd (clash (sym (list_all_at (holds table k) cs i d within is) ∙ all))

first_place : (ks : List ℕ) (column : ℕ) → is_first ks column ≡ true → position (λ k. k == column) ks ≡ Some 0
first_place [] column is = absurd (clash is)
first_place (k ∷ ks) column is = rw is (some (length ks))
  where
    some : (n : ℕ) → cond {A = Option ℕ} (nat_lt 0 (suc n)) (Some 0) None ≡ Some 0
    some n = let e : nat_lt 0 (suc n) ≡ true = grind (arith, nat_tests) in ap (λ b. cond {A = Option ℕ} b (Some 0) None) e

-- a comparison of the first column that holds is of the first value
first_held : (table : Table) (parts : List Value) (c : Comparison) → is_of_first table c ≡ true
    → ◌≡◌ {A = Bool} (elim (option_and_then (slice_get parts) (position (λ k. k == c.column) table.key)) [ None ↦ false | Some value ↦ compares c.operator (value_cmp value c.value) ]) (elim (slice_get parts 0) [ None ↦ false | Some value ↦ compares c.operator (value_cmp value c.value) ])
first_held table parts c is = ap (λ o. elim (option_and_then (slice_get parts) o) [ None ↦ false | Some value ↦ compares c.operator (value_cmp value c.value) ]) (first_place table.key c.column is)

from_below : (op : Operator) (o : Ordering) → bounds_below op ≡ true → compares op o ≡ true → is_le (ordering_reverse o) ≡ true
from_below Equal Less b h = absurd (clash h)
from_below Equal Same b h = refl
from_below Equal Greater b h = refl
from_below Above Less b h = absurd (clash h)
from_below Above Same b h = refl
from_below Above Greater b h = refl
from_below AtLeast Less b h = absurd (clash h)
from_below AtLeast Same b h = refl
from_below AtLeast Greater b h = refl
from_below Below o b h = absurd (clash b)
from_below AtMost o b h = absurd (clash b)

from_above : (op : Operator) (o : Ordering) → bounds_above op ≡ true → compares op o ≡ true → is_le o ≡ true
from_above Equal Less b h = refl
from_above Equal Same b h = refl
from_above Equal Greater b h = absurd (clash h)
from_above Below Less b h = refl
from_above Below Same b h = refl
from_above Below Greater b h = absurd (clash h)
from_above AtMost Less b h = refl
from_above AtMost Same b h = refl
from_above AtMost Greater b h = absurd (clash h)
from_above Above o b h = absurd (clash b)
from_above AtLeast o b h = absurd (clash b)

pub held_from : (table : Table) (k : Key) (c : Comparison) → is_of_first table c ≡ true → bounds_below c.operator ≡ true → holds table k c ≡ true → is_from_value c.value k.parts ≡ true
held_from table k c of bounds held = by k.parts (sym (first_held table k.parts c of) ∙ held)
  where
    by : (parts : List Value) → ◌≡◌ {A = Bool} (elim (slice_get parts 0) [ None ↦ false | Some value ↦ compares c.operator (value_cmp value c.value) ]) true → is_from_value c.value parts ≡ true
    by [] h = absurd (clash h)
    by (x ∷ xs) h = ap is_le (value_cmp_total.antisymm c.value x) ∙ from_below c.operator (value_cmp x c.value) bounds h

less_than : (x v y : Value) → is_le (value_cmp x v) ≡ true → is_gt (value_cmp y v) ≡ true → is_lt (value_cmp x y) ≡ true
less_than x v y le gt = by (value_cmp x v) refl le
  where
    over : (o : Ordering) → is_gt o ≡ true → ordering_reverse o ≡ Less
    over Less h = absurd (clash h)
    over Same h = absurd (clash h)
    over Greater h = refl

    under : value_cmp v y ≡ Less
    under = value_cmp_total.antisymm v y ∙ over (value_cmp y v) gt

    by : (o : Ordering) → value_cmp x v ≡ o → is_le o ≡ true → is_lt (value_cmp x y) ≡ true
    by Less is h = ap is_lt (value_cmp_total.trans x v y is under)
    by Same is h = ap is_lt (value_cmp_total.congr x v y is ∙ under)
    by Greater is h = absurd (clash h)

pub held_below : (table : Table) (k : Key) (c : Comparison) (y : Value) (ys : List Value) → slice_get ys 0 ≡ Some y → is_of_first table c ≡ true → (bounds_above c.operator && is_gt (value_cmp y c.value)) ≡ true → holds table k c ≡ true → is_first_below k.parts ys ≡ true
held_below table k c y [] begun of exceeded held = cc
held_below table k c y (z ∷ ys) begun of exceeded held = by k.parts (sym (first_held table k.parts c of) ∙ held)
  where
    both : (bounds_above c.operator ≡ true) × (is_gt (value_cmp y c.value) ≡ true)
    both = and_parts (bounds_above c.operator) (is_gt (value_cmp y c.value)) exceeded

    by : (parts : List Value) → ◌≡◌ {A = Bool} (elim (slice_get parts 0) [ None ↦ false | Some value ↦ compares c.operator (value_cmp value c.value) ]) true → is_first_below parts (z ∷ ys) ≡ true
    by [] h = absurd (clash h)
    by (x ∷ xs) h = let it : z ≡ y = cc in ap (λ v. is_lt (value_cmp x v)) it ∙ less_than x c.value y (from_above c.operator (value_cmp x c.value) both.0 h) both.1

same_number : (a b : ℕ) → (a == b) ≡ true → nat_cmp b a ≡ Same
same_number a b is = let e : a ≡ b = grind (arith, nat_tests) in ap (nat_cmp b) e ∙ tied_itself nat_cmp_total b

-- ---- keys above which none is taken

pub past_of_value : (table : Table) (keys : Keys) (key : Key) → key.table ≡ keys.table → ((k : Key) → list_all (holds table k) keys.comparisons ≡ true → is_first_below k.parts key.parts ≡ true) → IsPast table keys key
past_of_value table keys key same below k less = by (matches table keys k) refl
  where
    over : (xs ys : List Value) → is_first_below xs ys ≡ true → slice_cmp value_cmp ys xs ≡ Greater
    over [] ys h = absurd (clash h)
    over (x ∷ xs) [] h = absurd (clash h)
    over (x ∷ xs) (y ∷ ys) h = at (value_cmp x y) refl h
      where
        at : (o : Ordering) → value_cmp x y ≡ o → is_lt o ≡ true → ordering_then (value_cmp y x) (slice_cmp value_cmp ys xs) ≡ Greater
        at Less is h = ap (λ o. ordering_then o (slice_cmp value_cmp ys xs)) (value_cmp_total.antisymm y x ∙ ap ordering_reverse is)
        at Same is h = absurd (clash h)
        at Greater is h = absurd (clash h)

    by : (b : Bool) → matches table keys k ≡ b → b ≡ false
    by false m = refl
    by true m =
        let both = and_parts (k.table == keys.table) (list_all (holds table k) keys.comparisons) m in
        let tied : nat_cmp key.table k.table ≡ Same = ap (λ n. nat_cmp n k.table) same ∙ same_number k.table keys.table both.0 in
        let e : Greater ≡ Less = sym (ap (λ o. ordering_then o (slice_cmp value_cmp key.parts k.parts)) tied ∙ over k.parts key.parts (below k both.1)) ∙ less in
        cc

-- ---- writes from the least key on

module _ (p : Key → Bool) where
  pub kept_from : (least : Key) → ((k : Key) → p k ≡ true → is_le (key_cmp least k) ≡ true) → (w : Net) → filter (λ c. p c.0) (entries_between key_cmp (Included least) Unbounded w) ≡ filter (λ c. p c.0) w
  kept_from least below [] = refl
  kept_from least below (c ∷ w) = by (p c.0) (is_le (key_cmp least c.0)) refl refl (kept_from least below w)
    where
      from : Net
      from = entries_between key_cmp (Included least) Unbounded w

      by : (b d : Bool) → p c.0 ≡ b → is_le (key_cmp least c.0) ≡ d → filter (λ c. p c.0) from ≡ filter (λ c. p c.0) w
          → filter (λ c. p c.0) (cond (d && true) (c ∷ from) from) ≡ cond b (c ∷ filter (λ c. p c.0) w) (filter (λ c. p c.0) w)
      by true true is at ih = ap (λ b. cond b (c ∷ filter (λ c. p c.0) from) (filter (λ c. p c.0) from)) is ∙ ap (λ l. c ∷ l) ih
      by true false is at ih = absurd (clash (sym at ∙ below c.0 is))
      by false true is at ih = ap (λ b. cond b (c ∷ filter (λ c. p c.0) from) (filter (λ c. p c.0) from)) is ∙ ih
      by false false is at ih = ih

  pub none_past : (key : Key) → ((k : Key) → key_cmp key k ≡ Less → p k ≡ false) → (w : Net) → AllByRecursion (λ k. key_cmp key k ≡ Less) (keys_of w) → filter (λ c. p c.0) w ≡ []
  none_past key past [] h = refl
  none_past key past (c ∷ w) h = ap (λ b. cond b (c ∷ filter (λ c. p c.0) w) (filter (λ c. p c.0) w)) (past c.0 h.0) ∙ none_past key past w h.1

pub rest_above : (e : Key × Option Row) (xs ys : Net) → ys ≡ e ∷ xs → IsStrictlySortedBy key_cmp (keys_of ys) → AllByRecursion (λ k. key_cmp e.0 k ≡ Less) (keys_of xs)
unfolding IsStrictlySortedBy
rest_above e xs ys is h = (subst (λ es. IsStrictlySortedBy key_cmp (keys_of es)) is h).0

pub rest_ordered : (e : Key × Option Row) (xs ys : Net) → ys ≡ e ∷ xs → IsStrictlySortedBy key_cmp (keys_of ys) → IsStrictlySortedBy key_cmp (keys_of xs)
unfolding IsStrictlySortedBy
rest_ordered e xs ys is h = (subst (λ es. IsStrictlySortedBy key_cmp (keys_of es)) is h).1

-- what is left of entries in order is in order
pub left_ordered : (test : Key × Option Row → Bool) (w : Net) → IsStrictlySortedBy key_cmp (keys_of w) → IsStrictlySortedBy key_cmp (keys_of (filter test w))
unfolding IsStrictlySortedBy
left_ordered test [] h = tt
left_ordered test (c ∷ w) h =
    elim (test c) as (λ b. IsStrictlySortedBy key_cmp (keys_of (cond b (c ∷ filter test w) (filter test w)))) [
      | true ↦ (above w h.0, left_ordered test w h.1)
      | false ↦ left_ordered test w h.1
    ]
  where
    above : (ds : Net) → AllByRecursion (λ k. key_cmp c.0 k ≡ Less) (keys_of ds) → AllByRecursion (λ k. key_cmp c.0 k ≡ Less) (keys_of (filter test ds))
    above [] h = tt
    above (d ∷ ds) h =
        elim (test d) as (λ b. AllByRecursion (λ k. key_cmp c.0 k ≡ Less) (keys_of (cond b (d ∷ filter test ds) (filter test ds)))) [ true ↦ (h.0, above ds h.1) | false ↦ above ds h.1 ]
