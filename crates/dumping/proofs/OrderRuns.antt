-- Places by instant are those of one instant after another.
use Rattle.std.proofs.Common.{◌≡◌, ℕ, ◌+◌, ◌<◌, ◌==◌, Bool, true, false, cond, ◌&&◌, ◌||◌, T, List, [], ◌∷◌, ◌++◌, refl, sym, subst, ap, ◌∙◌, arith, length, get_or, filter, map, suc, zero, Option, Some, None}
use Rattle.std.specs.Cmp.{IsTotalOrder, nat_cmp_total, on_total, then_total}
use Rattle.std.specs.FinMap.{IsAntisymmetric, nat_cmp-IsAntisymmetric, is_sorted}
use Rattle.std.specs.BTreeMap.{is_at}
use Rattle.std.specs.Map.{keys_of, lookup}
use Rattle.std.specs.List.{AllByRecursion, IsDistinct, flat_map, list_any, range_with_len}
use Rattle.std.specs.List.Sorted.{IsStrictlySortedBy}
use Rattle.std.specs.Ordering.{eq_by_cmp, is_eq, is_lt, nat_cmp, ordering_reverse, ordering_then}
use Rattle.std.specs.declared.cmp.Ordering.{Ordering}
use Rattle.std.specs.declared.cmp.Ordering.TheVariants.{Less, Equal, Greater}
use Rattle.std.proofs.lemmas.Bool.Decides.{nat_tests}
use Rattle.std.proofs.lemmas.List.Folds.{list_any-append}
use Rattle.std.proofs.lemmas.List.FromFn.{get_or-range_with_len, length-range_with_len}
use Rattle.std.proofs.lemmas.List.Kept.{IsStrictlySortedBy-filter}
use Rattle.std.proofs.lemmas.List.Sorted.{list_any-IsPermutation}
use Rattle.std.proofs.lemmas.Map.Keys.{IsDistinct-IsPermutation, IsDistinct-from_sorted, apart_from_distinct, sorted_from_all_adjacent, sorted_from_strictly_increasing}
use Rattle.values.specs.Event.{Event}
use Rattle.values.proofs.LogMaps.{same_map}
use Rattle.values.proofs.OrderSorted.{is_equal, sorted_from}
use Rattle.values.proofs.OrderTotal.{below, then-Equal}
use Rattle.dumping.specs.History.{places_at}
use Rattle.dumping.specs.Order.{AreByInstant, by_instant, instant_at}
use Rattle.dumping.proofs.HistoryRuns.{Pass, filtered}

-- ---- lists in order with the same members are the same

abbrev present : Option (Unit {0})
present = Some tt

abbrev missing : Option (Unit {0})
missing = None

chosen : (a b : Bool) → cond a present (cond b present missing) ≡ cond (a || b) present missing
chosen true b = refl
chosen false b = refl

abbrev units : List ℕ → List (ℕ × Unit {0})
units ks = map (λ k. (k, tt)) ks

module _ {R : ℕ → ℕ → Ordering} (o : IsTotalOrder R) (exact : IsAntisymmetric R) where
  without_units : (ks : List ℕ) → keys_of (units ks) ≡ ks
  without_units [] = refl
  without_units (k ∷ ks) = ap (λ l. k ∷ l) (without_units ks)

  looked_up : (ks : List ℕ) (q : ℕ) → lookup (is_at (R q)) (units ks) ≡ cond (list_any (eq_by_cmp R q) ks) present missing
  looked_up [] q = refl
  looked_up (k ∷ ks) q = ap (cond (eq_by_cmp R q k) present) (looked_up ks q) ∙ chosen (eq_by_cmp R q k) (list_any (eq_by_cmp R q) ks)

  in_order : (ks : List ℕ) → IsStrictlySortedBy R ks → T (is_sorted R (units ks))
  in_order ks h = sorted_from R (units ks) (subst (IsStrictlySortedBy R) (sym (without_units ks)) h)

  same_list : (ks ls : List ℕ) → IsStrictlySortedBy R ks → IsStrictlySortedBy R ls → ((q : ℕ) → list_any (eq_by_cmp R q) ks ≡ list_any (eq_by_cmp R q) ls) → ks ≡ ls
  same_list ks ls here there alike =
      sym (without_units ks)
      ∙ ap keys_of (same_map o exact (units ks) (units ls) (in_order ks here) (in_order ls there) (λ q. looked_up ks q ∙ ap (λ b. cond b present missing) (alike q) ∙ sym (looked_up ls q)))
      ∙ without_units ls

-- ---- lists in order that are put together

module _ (R : ℕ → ℕ → Ordering) where
  -- each of the first is below each of the second
  abbrev AllBelow : List ℕ → List ℕ → Type 0
  AllBelow xs ys = AllByRecursion (λ x. AllByRecursion (λ y. R x y ≡ Less) ys) xs

  all_both : (x : ℕ) (xs ys : List ℕ) → AllByRecursion (λ y. R x y ≡ Less) xs → AllByRecursion (λ y. R x y ≡ Less) ys → AllByRecursion (λ y. R x y ≡ Less) (xs ++ ys)
  all_both x [] ys h g = g
  all_both x (y ∷ xs) ys h g = (h.0, all_both x xs ys h.1 g)

  sorted_both : (xs ys : List ℕ) → IsStrictlySortedBy R xs → IsStrictlySortedBy R ys → AllBelow xs ys → IsStrictlySortedBy R (xs ++ ys)
  unfolding IsStrictlySortedBy
  sorted_both [] ys h g below = g
  sorted_both (x ∷ xs) ys h g below = (all_both x xs ys h.0 below.0, sorted_both xs ys h.1 g below.1)

less : (i j : ℕ) → i < j → nat_cmp i j ≡ Less
less i j lt = grind (arith, nat_tests)

itself : (i : ℕ) → nat_cmp i i ≡ Equal
itself i = grind (arith, nat_tests)

range_rises : (n : ℕ) → IsStrictlySortedBy nat_cmp (range_with_len 0 n)
range_rises n = sorted_from_strictly_increasing (range_with_len 0 n) (λ k within.
    let fits : k + 1 < n = subst (λ m. k + 1 < m) (length-range_with_len 0 n) within in
    let here : get_or (range_with_len 0 n) k 0 ≡ 0 + k = get_or-range_with_len 0 n k 0 (omega arith) in
    let next : get_or (range_with_len 0 n) (k + 1) 0 ≡ 0 + (k + 1) = get_or-range_with_len 0 n (k + 1) 0 fits in
    omega arith)

module _ (es : List Event) where
  abbrev R : ℕ → ℕ → Ordering
  R = by_instant es

  total : IsTotalOrder R
  total = then_total (on_total (instant_at es) nat_cmp_total) nat_cmp_total

  exact : IsAntisymmetric R
  exact a b e = nat_cmp-IsAntisymmetric a b (then-Equal (nat_cmp (instant_at es a) (instant_at es b)) (nat_cmp a b) e).1

  -- ---- places by instant are in order

  places_rise : (places : List ℕ) → AreByInstant es places → IsStrictlySortedBy R places
  places_rise places h = sorted_from_all_adjacent total places 0 (λ k within. by (get_or places k 0) (get_or places (k + 1) 0) (R (get_or places k 0) (get_or places (k + 1) 0)) refl (h.in_order k 0 (omega arith) within) (differ k within))
    where
      distinct : IsDistinct (eq_by_cmp nat_cmp) places
      distinct = IsDistinct-IsPermutation (eq_by_cmp nat_cmp) flips (range_with_len 0 (length es)) places h.all (IsDistinct-from_sorted nat_cmp (range_with_len 0 (length es)) (range_rises (length es)))
        where
          flips : (x y : ℕ) → eq_by_cmp nat_cmp x y ≡ eq_by_cmp nat_cmp y x
          flips x y = grind (arith, nat_tests)

      differ : (k : ℕ) → k + 1 < length places → eq_by_cmp nat_cmp (get_or places k 0) (get_or places (k + 1) 0) ≡ false
      differ k within = apart_from_distinct (eq_by_cmp nat_cmp) places k (k + 1) 0 distinct (omega arith) within

      by : (a b : ℕ) (o : Ordering) → R a b ≡ o → is_lt (R b a) ≡ false → eq_by_cmp nat_cmp a b ≡ false → o ≡ Less
      by a b Less is not_after apart = refl
      by a b Equal is not_after apart = absurd (let one : eq_by_cmp nat_cmp a b ≡ true = subst (λ x. eq_by_cmp nat_cmp a x ≡ true) (exact a b is) (ap is_eq (itself a)) in cc)
      by a b Greater is not_after apart = let after : is_lt (R b a) ≡ true = ap is_lt (total.antisymm b a ∙ ap ordering_reverse is) in cc

  -- ---- so are those of one instant after another

  by_place : (i : ℕ) (places : List ℕ) → Pass (λ place. instant_at es place == i) true places → IsStrictlySortedBy nat_cmp places → IsStrictlySortedBy R places
  unfolding IsStrictlySortedBy
  by_place i [] h g = tt
  by_place i (place ∷ places) h g = (above places h.1 g.0, by_place i places h.1 g.1)
    where
      one : (a b : ℕ) → (a == i) ≡ true → (b == i) ≡ true → nat_cmp a b ≡ Equal
      one a b e f = let same : a ≡ b = grind (arith, nat_tests) in subst (λ x. nat_cmp a x ≡ Equal) same (itself a)

      above : (others : List ℕ) → Pass (λ place. instant_at es place == i) true others → AllByRecursion (λ y. nat_cmp place y ≡ Less) others → AllByRecursion (λ y. R place y ≡ Less) others
      above [] h g = tt
      above (y ∷ others) k g = (ap (λ o. ordering_then o (nat_cmp place y)) (one (instant_at es place) (instant_at es y) h.0 k.0) ∙ g.0, above others k.1 g.1)

  earlier : (i j : ℕ) (xs ys : List ℕ) → i < j → Pass (λ place. instant_at es place == i) true xs → Pass (λ place. instant_at es place == j) true ys → AllBelow R xs ys
  earlier i j [] ys lt h g = tt
  earlier i j (x ∷ xs) ys lt h g = (above ys g, earlier i j xs ys lt h.1 g)
    where
      before : (a b : ℕ) → (a == i) ≡ true → (b == j) ≡ true → nat_cmp a b ≡ Less
      before a b e f = let lower : a < b = grind (arith, nat_tests) in less a b lower

      above : (ys : List ℕ) → Pass (λ place. instant_at es place == j) true ys → AllByRecursion (λ y. R x y ≡ Less) ys
      above [] g = tt
      above (y ∷ ys) g = (ap (λ o. ordering_then o (nat_cmp x y)) (before (instant_at es x) (instant_at es y) h.0 g.0), above ys g.1)

  below_none : (xs : List ℕ) → AllBelow R xs []
  below_none [] = tt
  below_none (x ∷ xs) = (tt, below_none xs)

  below_both : (xs ys zs : List ℕ) → AllBelow R xs ys → AllBelow R xs zs → AllBelow R xs (ys ++ zs)
  below_both [] ys zs h g = tt
  below_both (x ∷ xs) ys zs h g = (all_both R x ys zs h.0 g.0, below_both xs ys zs h.1 g.1)

  abbrev run : ℕ → List ℕ
  run i = places_at es i

  run_passes : (i : ℕ) → Pass (λ place. instant_at es place == i) true (run i)
  run_passes i = filtered (λ place. instant_at es place == i) (range_with_len 0 (length es))

  below_later : (i : ℕ) (is : List ℕ) → AllByRecursion (λ j. nat_cmp i j ≡ Less) is → AllBelow R (run i) (flat_map run is)
  below_later i [] h = below_none (run i)
  below_later i (j ∷ is) h =
      let lt : i < j = below i j (subst (λ o. T (is_lt o)) (sym h.0) tt) in
      below_both (run i) (run j) (flat_map run is) (earlier i j (run i) (run j) lt (run_passes i) (run_passes j)) (below_later i is h.1)

  runs_rise : (is : List ℕ) → IsStrictlySortedBy nat_cmp is → IsStrictlySortedBy R (flat_map run is)
  unfolding IsStrictlySortedBy
  runs_rise [] h = tt
  runs_rise (i ∷ is) h =
      sorted_both R (run i) (flat_map run is) (by_place i (run i) (run_passes i) (IsStrictlySortedBy-filter nat_cmp (λ place. instant_at es place == i) (range_with_len 0 (length es)) (range_rises (length es))))
      (runs_rise is h.1) (below_later i is h.0)

  -- ---- both have all places

  abbrev among : ℕ → List ℕ → Bool
  among q places = list_any (eq_by_cmp R q) places

  found_at : (q i x : ℕ) (xs : List ℕ) (b e : Bool) → (instant_at es x == i) ≡ b → eq_by_cmp R q x ≡ e → among q (filter (λ place. instant_at es place == i) xs) ≡ ((instant_at es q == i) && among q xs)
      → among q (cond b (x ∷ filter (λ place. instant_at es place == i) xs) (filter (λ place. instant_at es place == i) xs)) ≡ ((instant_at es q == i) && (e || among q xs))
  found_at q i x xs true true is same rest =
      ap (λ c. c || among q (filter (λ place. instant_at es place == i) xs)) same
      ∙ ap (λ c. c && true) (sym (ap (λ p. instant_at es p == i) (exact q x (is_equal (R q x) same)) ∙ is))
  found_at q i x xs false true is same rest = rest ∙ ap (λ c. c && among q xs) not_at ∙ ap (λ c. c && true) (sym not_at)
    where
      not_at : (instant_at es q == i) ≡ false
      not_at = ap (λ p. instant_at es p == i) (exact q x (is_equal (R q x) same)) ∙ is
  found_at q i x xs true false is same rest = ap (λ c. c || among q (filter (λ place. instant_at es place == i) xs)) same ∙ rest
  found_at q i x xs false false is same rest = rest

  among_filtered : (q i : ℕ) (xs : List ℕ) → among q (filter (λ place. instant_at es place == i) xs) ≡ ((instant_at es q == i) && among q xs)
  among_filtered q i [] = none (instant_at es q == i)
    where
      none : (b : Bool) → false ≡ (b && false)
      none true = refl
      none false = refl
  among_filtered q i (x ∷ xs) = found_at q i x xs (instant_at es x == i) (eq_by_cmp R q x) refl refl (among_filtered q i xs)

  among_runs : (q : ℕ) (is : List ℕ) → among q (flat_map run is) ≡ (list_any (λ i. instant_at es q == i) is && among q (range_with_len 0 (length es)))
  among_runs q [] = refl
  among_runs q (i ∷ is) =
      list_any-append (eq_by_cmp R q) (run i) (flat_map run is)
      ∙ (λ k. among_filtered q i (range_with_len 0 (length es)) k || among_runs q is k)
      ∙ joined (instant_at es q == i) (list_any (λ i. instant_at es q == i) is) (among q (range_with_len 0 (length es)))
    where
      joined : (a b c : Bool) → ((a && c) || (b && c)) ≡ ((a || b) && c)
      joined true true true = refl
      joined true true false = refl
      joined true false true = refl
      joined true false false = refl
      joined false b c = refl

  within : (q a n : ℕ) → among q (range_with_len a n) ≡ true → q < a + n
  within q a zero e = cc
  within q a (suc n) e = by (eq_by_cmp R q a) refl e (within q (a + 1) n)
    where
      by : (b : Bool) → eq_by_cmp R q a ≡ b → (b || among q (range_with_len (a + 1) n)) ≡ true → (among q (range_with_len (a + 1) n) ≡ true → q < (a + 1) + n) → q < a + suc n
      by true is e rest = let same : q ≡ a = exact q a (is_equal (R q a) is) in omega arith
      by false is e rest = let lt : q < (a + 1) + n = rest e in omega arith

  -- of instants that have all changes
  pub runs_are : (is places : List ℕ) → AreByInstant es places → IsStrictlySortedBy nat_cmp is → ((q : ℕ) → q < length es → list_any (λ i. instant_at es q == i) is ≡ true) → places ≡ flat_map (places_at es) is
  runs_are is places h rising covers =
      same_list total exact places (flat_map run is) (places_rise places h) (runs_rise is rising)
      (λ q. sym (list_any-IsPermutation (eq_by_cmp R q) (range_with_len 0 (length es)) places h.all) ∙ covered q (among q (range_with_len 0 (length es))) refl ∙ sym (among_runs q is))
    where
      covered : (q : ℕ) (b : Bool) → among q (range_with_len 0 (length es)) ≡ b → b ≡ (list_any (λ i. instant_at es q == i) is && b)
      covered q true e = ap (λ c. c && true) (sym (covers q (let lt : q < 0 + length es = within q 0 (length es) e in omega arith)))
      covered q false e = none (list_any (λ i. instant_at es q == i) is)
        where
          none : (b : Bool) → false ≡ (b && false)
          none true = refl
          none false = refl
