-- The keys that meet an entity's search condition are its keys.
use Rattle.std.proofs.Common.{◌≡◌, ℕ, ◌+◌, suc, Bool, true, false, cond, ◌&&◌, ◌||◌, List, [], ◌∷◌, ◌++◌, Option, Some, None, refl, sym, ap, ◌∙◌, arith, not, length, nat_lt, append_assoc, length-append}
use Rattle.std.specs.Prelude.{◌==◌, slice_get, position, option_and_then}
use Rattle.std.proofs.lemmas.Bool.Decides.{nat_tests}
use Rattle.std.specs.List.{list_any, list_all, position_or_len, prefix_len}
use Rattle.std.specs.Ordering.{nat_cmp, is_eq, ordering_then, ordering_reverse}
use Rattle.std.specs.Cmp.Lexicographic.{slice_cmp}
use Rattle.std.specs.declared.cmp.Ordering.{Ordering}
use Rattle.std.specs.declared.cmp.Ordering.TheVariants.{Less, Equal, Greater}
use Rattle.std.specs.FinMap.{nat_cmp-IsAntisymmetric}
use Rattle.values.specs.declared.value.Value.{Value}
use Rattle.values.specs.declared.key.Key.{Key}
use Rattle.values.specs.declared.table.Table.{Table}
use Rattle.values.specs.declared.query.Operator.TheVariants.{Equal as Equals}
use Rattle.values.specs.Order.{value_cmp}
use Rattle.values.specs.OrderLaw.{value_cmp_total}
use Rattle.values.specs.Order.{is_key}
use Rattle.values.specs.Entity.{entity_of}
use Rattle.values.specs.Versions.{holds, compares, matches}
use Rattle.values.specs.Tables.{but_last}
use Rattle.values.specs.TableRules.{IsDistinct}
use Rattle.periods.specs.EntityKeys.{equalities, entity_keys, EntityKeysAreItsKeys}

-- ---- the place of a column

one_more : (n : ℕ) → 1 + n ≡ suc n
one_more n = omega arith

place_is : (n : ℕ) (pre post : List ℕ) → list_any (λ c. c == n) pre ≡ false → position_or_len (λ c. c == n) (pre ++ n ∷ post) ≡ length pre
place_is n [] post none = ap (λ b. cond (not b) (1 + prefix_len (λ c. not (c == n)) post) 0) here
  where
    here : (n == n) ≡ true
    here = grind (arith, nat_tests)
place_is n (c ∷ pre) post none = by (c == n) refl none (λ none. place_is n pre post none)
  where
    by : (b : Bool) → (c == n) ≡ b → (b || list_any (λ c. c == n) pre) ≡ false → (list_any (λ c. c == n) pre ≡ false → position_or_len (λ c. c == n) (pre ++ n ∷ post) ≡ length pre)
        → cond (not b) (1 + prefix_len (λ c. not (c == n)) (pre ++ n ∷ post)) 0 ≡ suc (length pre)
    by true is none rest = cc
    by false is none rest = one_more (prefix_len (λ c. not (c == n)) (pre ++ n ∷ post)) ∙ ap suc (rest none)

pub position_is : (n : ℕ) (pre post : List ℕ) → list_any (λ c. c == n) pre ≡ false → position (λ c. c == n) (pre ++ n ∷ post) ≡ Some (length pre)
position_is n pre post none =
    (λ i. cond (nat_lt (place_is n pre post none i) (length (pre ++ n ∷ post))) (Some (place_is n pre post none i)) None)
    ∙ ap (λ b. cond b (Some (length pre)) None) (within (length pre) (length (pre ++ n ∷ post)) (length-append pre (n ∷ post)))
  where
    within : (a b : ℕ) → b ≡ a + length (n ∷ post) → nat_lt a b ≡ true
    within a b e = grind (arith, nat_tests)

value_there : (before : List Value) (x : Value) (after : List Value) → slice_get (before ++ x ∷ after) (length before) ≡ Some x
value_there [] x after = refl
value_there (y ∷ before) x after = value_there before x after

-- ---- equal parts

and_eq : (o p : Ordering) → is_eq (ordering_then o p) ≡ (is_eq o && is_eq p)
and_eq Less p = refl
and_eq Equal p = refl
and_eq Greater p = refl

eq_turned : (o p : Ordering) → o ≡ ordering_reverse p → is_eq o ≡ is_eq p
eq_turned o p e = ap is_eq e ∙ by p
  where
    by : (o : Ordering) → is_eq (ordering_reverse o) ≡ is_eq o
    by Less = refl
    by Equal = refl
    by Greater = refl

shorter : (a b : ℕ) → suc a ≡ suc b → a ≡ b
shorter a b e = omega arith

one_less : (a b : ℕ) → suc a + 1 ≡ suc b → a + 1 ≡ b
one_less a b e = omega arith

module _ (table : Table) (key : Key) (distinct : IsDistinct table.key) where
  holds_by : Value → Option Value → Bool
  holds_by v None = false
  holds_by v (Some value) = compares Equals (value_cmp value v)

  column_holds : (pre post : List ℕ) (n : ℕ) (front : List Value) (x v : Value) (rest : List Value) → table.key ≡ pre ++ n ∷ post → key.parts ≡ front ++ x ∷ rest → length front ≡ length pre
      → holds table key (record { column = n; operator = Equals; value = v }) ≡ is_eq (value_cmp x v)
  unfolding holds_by
  column_holds pre post n front x v rest columns parts places =
      ap (holds_by v)
      ((λ i. option_and_then (slice_get (parts i)) ((ap (position (λ k. k == n)) columns ∙ position_is n pre post (distinct pre post n columns)) i))
      ∙ ap (slice_get (front ++ x ∷ rest)) (sym places) ∙ value_there front x rest)

  all_hold : (ns : List ℕ) (vs xs : List Value) (pre : List ℕ) (front : List Value) → table.key ≡ pre ++ ns → key.parts ≡ front ++ xs → length front ≡ length pre
      → length vs + 1 ≡ length ns → length xs ≡ length ns
      → list_all (holds table key) (equalities ns vs) ≡ is_eq (slice_cmp value_cmp vs (but_last xs))
  all_hold [] vs xs pre front columns parts places few wide = absurd (omega arith)
  all_hold (n ∷ ns) [] [] pre front columns parts places few wide = absurd (omega arith)
  all_hold (n ∷ []) [] (x ∷ []) pre front columns parts places few wide = refl
  all_hold (n ∷ []) [] (x ∷ y ∷ ys) pre front columns parts places few wide = absurd (omega arith)
  all_hold (n ∷ m ∷ ns) [] (x ∷ xs) pre front columns parts places few wide = absurd (omega arith)
  all_hold (n ∷ ns) (v ∷ vs) [] pre front columns parts places few wide = absurd (omega arith)
  all_hold (n ∷ ns) (v ∷ vs) (x ∷ []) pre front columns parts places few wide = absurd (omega arith)
  all_hold (n ∷ ns) (v ∷ vs) (x ∷ y ∷ ys) pre front columns parts places few wide =
      (λ i. (column_holds pre ns n front x v (y ∷ ys) columns parts places ∙ eq_turned (value_cmp x v) (value_cmp v x) (value_cmp_total.antisymm x v)) i
      && all_hold ns vs (y ∷ ys) (pre ++ n ∷ []) (front ++ x ∷ []) (columns ∙ sym (append_assoc pre (n ∷ []) ns)) (parts ∙ sym (append_assoc front (x ∷ []) (y ∷ ys)))
      (longer front x pre n places) (one_less (length vs) (length ns) few) (shorter (length (y ∷ ys)) (length ns) wide) i)
      ∙ sym (and_eq (value_cmp v x) (slice_cmp value_cmp vs (but_last (y ∷ ys))))
    where
      longer : (front : List Value) (x : Value) (pre : List ℕ) (n : ℕ) → length front ≡ length pre → length (front ++ x ∷ []) ≡ length (pre ++ n ∷ [])
      longer front x pre n e = length-append front (x ∷ []) ∙ ap (λ a. a + 1) e ∙ sym (length-append pre (n ∷ []))

one_table : (a b : ℕ) → (b == a) ≡ is_eq (nat_cmp a b)
one_table a b = by (nat_cmp a b) refl
  where
    by : (o : Ordering) → nat_cmp a b ≡ o → (b == a) ≡ is_eq o
    by Less e = grind (arith, nat_tests, e)
    by Equal e = let same : a ≡ b = nat_cmp-IsAntisymmetric a b e in grind (arith, nat_tests)
    by Greater e = grind (arith, nat_tests, e)

pub entity_keys_are_its_keys : EntityKeysAreItsKeys
entity_keys_are_its_keys table entity key distinct few wide =
    (λ i. one_table entity.table key.table i && all_hold table key distinct table.key entity.parts key.parts [] [] refl refl refl few wide i)
    ∙ sym (and_eq (nat_cmp entity.table key.table) (slice_cmp value_cmp entity.parts (but_last key.parts)))

-- a key of another table is not the entity's, and does not meet its search condition
pub met_where_own : (table : Table) (entity key : Key) → (key.table ≡ entity.table → matches table (entity_keys table entity) key ≡ is_key entity (entity_of key)) → matches table (entity_keys table entity) key ≡ is_key entity (entity_of key)
met_where_own table entity key own = by (key.table == entity.table) refl
  where
    by : (b : Bool) → (key.table == entity.table) ≡ b → matches table (entity_keys table entity) key ≡ is_key entity (entity_of key)
    by true is = own (grind (arith, nat_tests))
    by false is =
        ap (λ b. b && list_all (holds table key) (equalities table.key entity.parts)) is
        ∙ sym (and_eq (nat_cmp entity.table key.table) (slice_cmp value_cmp entity.parts (but_last key.parts))
        ∙ ap (λ b. b && is_eq (slice_cmp value_cmp entity.parts (but_last key.parts))) (sym (one_table entity.table key.table) ∙ is))
