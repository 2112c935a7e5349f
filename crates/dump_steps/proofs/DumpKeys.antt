-- The comparisons of a key take that key alone, and fit its table.
use Rattle.std.proofs.Common.{◌≡◌, ℕ, ◌+◌, suc, Bool, true, false, cond, ◌&&◌, ◌||◌, List, [], ◌∷◌, Option, Some, None, refl, sym, ap, ◌∙◌, arith, not, length, map, nat_lt}
use Rattle.std.specs.Prelude.{◌==◌, slice_get, position, option_and_then}
use Rattle.std.proofs.lemmas.Bool.Decides.{nat_tests}
use Rattle.std.specs.List.{list_any, list_all, position_or_len, prefix_len, AllByRecursion}
use Rattle.std.specs.Ordering.{nat_cmp, is_eq, ordering_then, ordering_reverse}
use Rattle.std.specs.Cmp.Lexicographic.{slice_cmp}
use Rattle.std.specs.declared.cmp.Ordering.{Ordering}
use Rattle.std.specs.declared.cmp.Ordering.TheVariants.{Less, Equal, Greater}
use Rattle.std.specs.FinMap.{nat_cmp-IsAntisymmetric}
use Rattle.values.specs.declared.value.Value.{Value}
use Rattle.values.specs.declared.key.Key.{Key}
use Rattle.values.specs.declared.table.Table.{Table}
use Rattle.values.specs.declared.query.Operator.TheVariants.{Equal as Equals}
use Rattle.values.specs.Order.{value_cmp, is_key}
use Rattle.values.specs.OrderLaw.{value_cmp_total}
use Rattle.values.specs.Log.{Row, State}
use Rattle.values.specs.Tables.{value_at}
use Rattle.values.specs.Versions.{holds, compares, matches}
use Rattle.values.specs.Writes.{key_of}
use Rattle.values.specs.Each.{Each}
use Rattle.dump_steps.specs.Dump.{comparisons_of, keys_of}

-- ---- a key's value of a column

one_more : (n : ℕ) → 1 + n ≡ suc n
one_more n = omega arith

module _ (f : ℕ → Value) (n : ℕ) where
  abbrev place : List ℕ → ℕ
  place ks = position_or_len (λ k. k == n) ks

  -- the column's first place among columns has its value
  record IsPlaced (ks : List ℕ) : Type 0 where
    within : nat_lt (place ks) (length ks) ≡ true
    value_is : slice_get (map f ks) (place ks) ≡ Some (f n)

  placed : (ks : List ℕ) → list_any (λ k. k == n) ks ≡ true → IsPlaced ks
  placed [] has = cc
  placed (k ∷ ks) has = by (k == n) refl has (placed ks)
    where
      by : (b : Bool) → (k == n) ≡ b → (b || list_any (λ k. k == n) ks) ≡ true → (list_any (λ k. k == n) ks ≡ true → IsPlaced ks) → IsPlaced (k ∷ ks)
      by true is has rest =
          let same : k ≡ n = grind (arith, nat_tests) in
          let first : place (k ∷ ks) ≡ 0 = ap (λ b. cond (not b) (1 + prefix_len (λ k. not (k == n)) ks) 0) is in
          record {
            within = (λ i. nat_lt (first i) (length (k ∷ ks))) ∙ grind (arith, nat_tests);
            value_is = (λ i. slice_get (map f (k ∷ ks)) (first i)) ∙ ap (λ k. Some (f k)) same;
          }
      by false is has rest =
          let behind = rest has in
          let next : place (k ∷ ks) ≡ suc (place ks) = ap (λ b. cond (not b) (1 + prefix_len (λ k. not (k == n)) ks) 0) is ∙ one_more (place ks) in
          record {
            within = (λ i. nat_lt (next i) (length (k ∷ ks))) ∙ up (place ks) (length ks) behind.within;
            value_is = (λ i. slice_get (map f (k ∷ ks)) (next i)) ∙ behind.value_is;
          }
        where
          up : (a b : ℕ) → nat_lt a b ≡ true → nat_lt (suc a) (suc b) ≡ true
          up a b lt = grind (arith, nat_tests)

  part_is : (ks : List ℕ) → list_any (λ k. k == n) ks ≡ true → option_and_then (slice_get (map f ks)) (position (λ k. k == n) ks) ≡ Some (f n)
  part_is ks has =
      let here = placed ks has in
      (λ i. option_and_then (slice_get (map f ks)) (cond (here.within i) (Some (place ks)) None)) ∙ here.value_is

-- ---- equal parts

and_eq : (o p : Ordering) → is_eq (ordering_then o p) ≡ (is_eq o && is_eq p)
and_eq Less p = refl
and_eq Equal p = refl
and_eq Greater p = refl

turned : (x y : Value) → is_eq (value_cmp x y) ≡ is_eq (value_cmp y x)
turned x y = ap is_eq (value_cmp_total.antisymm x y) ∙ by (value_cmp y x)
  where
    by : (o : Ordering) → is_eq (ordering_reverse o) ≡ is_eq o
    by Less = refl
    by Equal = refl
    by Greater = refl

shorter : (a b : ℕ) → suc a ≡ suc b → a ≡ b
shorter a b e = omega arith

-- each of the columns is one of the table's key
abbrev pub AreIn : Table → List ℕ → Type 0
AreIn table ns = Each (λ n. list_any (λ k. k == n) table.key ≡ true) ns

module _ (table : Table) (row : Row) where
  abbrev held : Option Value → Value → Bool
  held part v = elim part [ None ↦ false | Some value ↦ compares Equals (value_cmp value v) ]

  all_hold : (ns : List ℕ) (vs : List Value) → AreIn table ns → length vs ≡ length ns
      → list_all (holds table (key_of table row)) (comparisons_of ns vs) ≡ is_eq (slice_cmp value_cmp vs (map (value_at row) ns))
  all_hold [] [] are wide = refl
  all_hold [] (v ∷ vs) are wide = absurd (omega arith)
  all_hold (n ∷ ns) [] are wide = absurd (omega arith)
  all_hold (n ∷ ns) (v ∷ vs) are wide =
      (λ i. (ap (λ part. held part v) (part_is (value_at row) n table.key are.0) ∙ turned (value_at row n) v) i
      && all_hold ns vs are.1 (shorter (length vs) (length ns) wide) i)
      ∙ sym (and_eq (value_cmp v (value_at row n)) (slice_cmp value_cmp vs (map (value_at row) ns)))

pub all_in : (table : Table) (ns : List ℕ) → ((n : ℕ) → list_any (λ k. k == n) ns ≡ true → list_any (λ k. k == n) table.key ≡ true) → AreIn table ns
all_in table [] inside = tt
all_in table (n ∷ ns) inside = (inside n (first n), all_in table ns (λ m has. inside m (later m has)))
  where
    first : (n : ℕ) → ((n == n) || list_any (λ k. k == n) ns) ≡ true
    first n = ap (λ b. b || list_any (λ k. k == n) ns) (let e : (n == n) ≡ true = grind (arith, nat_tests) in e)

    later : (m : ℕ) → list_any (λ k. k == m) ns ≡ true → ((n == m) || list_any (λ k. k == m) ns) ≡ true
    later m has = by (n == m) (list_any (λ k. k == m) ns) has
      where
        by : (a b : Bool) → b ≡ true → (a || b) ≡ true
        by true b e = refl
        by false b e = e

-- ---- the keys that the comparisons take

-- where it is of the table, an entry has its own key
abbrev pub IsOwn : Table → (Key × Row) → Type 0
IsOwn table e = e.0.table ≡ table.number → e.0 ≡ key_of table e.1

module _ (table : Table) (key : Key) (its : key.table ≡ table.number) (wide : length key.parts ≡ length table.key) where
  numbers : (a b : ℕ) → (b == a) ≡ is_eq (nat_cmp a b)
  numbers a b = by (nat_cmp a b) refl
    where
      by : (o : Ordering) → nat_cmp a b ≡ o → (b == a) ≡ is_eq o
      by Less e = grind (arith, nat_tests, e)
      by Equal e = let same : a ≡ b = nat_cmp-IsAntisymmetric a b e in grind (arith, nat_tests)
      by Greater e = grind (arith, nat_tests, e)

  here : (q : Key) → (q.table == table.number) ≡ is_eq (nat_cmp key.table q.table)
  here q = ap (λ n. q.table == n) (sym its) ∙ numbers key.table q.table

  taken : (q : Key) (row : Row) → (q.table ≡ table.number → q ≡ key_of table row) → matches table (keys_of table key) q ≡ is_key key q
  taken q row own = by (q.table == table.number) refl
    where
      by : (b : Bool) → (q.table == table.number) ≡ b → matches table (keys_of table key) q ≡ is_key key q
      by true is =
          let same : q ≡ key_of table row = own (grind (arith, nat_tests)) in
          (λ i. here q i && list_all (holds table (same i)) (comparisons_of table.key key.parts))
          ∙ (λ i. is_eq (nat_cmp key.table q.table) && all_hold table row table.key key.parts (all_in table table.key (λ n has. has)) wide i)
          ∙ sym (and_eq (nat_cmp key.table q.table) (slice_cmp value_cmp key.parts (key_of table row).parts))
          ∙ (λ i. is_eq (ordering_then (nat_cmp key.table q.table) (slice_cmp value_cmp key.parts (sym same i).parts)))
      by false is =
          ap (λ b. b && list_all (holds table q) (comparisons_of table.key key.parts)) is
          ∙ sym (and_eq (nat_cmp key.table q.table) (slice_cmp value_cmp key.parts q.parts)
          ∙ ap (λ b. b && is_eq (slice_cmp value_cmp key.parts q.parts)) (sym (here q) ∙ is))

  pub takes_one : (m : State) → Each (IsOwn table) m → AllByRecursion (λ e. matches table (keys_of table key) e.0 ≡ is_key key e.0) m
  takes_one [] own = tt
  takes_one (e ∷ m) own = (taken e.0 e.1 own.0, takes_one m own.1)
