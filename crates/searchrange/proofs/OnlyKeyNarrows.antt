-- Where a search condition takes one key, each of its comparisons is of a column that narrows.
use Rattle.std.proofs.Common.{◌≡◌, ◌<◌, ℕ, ◌+◌, List, [], ◌∷◌, ◌==◌, ◌&&◌, ◌||◌, Bool, true, false, not, Option, Some, None, length, nat_lt, refl, sym, subst, ap, ◌∙◌, arith, suc, if◌then◌else◌, Bor}
use Rattle.std.specs.Prelude.{position, option_and_then, option_copied}
use Rattle.std.proofs.lemmas.Bool.Decides.{nat_tests}
use Rattle.std.specs.List.{list_all, list_any, position_or_len}
use Rattle.std.specs.Option.{option_map, is_some}
use Rattle.values.specs.declared.value.Value.{Value}
use Rattle.values.specs.declared.table.Table.{Table}
use Rattle.values.specs.declared.table.Column.{Column}
use Rattle.values.specs.declared.key.Key.{Key}
use Rattle.values.specs.declared.query.Comparison.{Comparison}
use Rattle.values.specs.declared.query.Keys.{Keys}
use Rattle.values.specs.Fit.{can_compare, comparison_fault, comparisons_fault}
use Rattle.values.specs.Tables.{column_at, is_key_column}
use Rattle.values.proofs.KeyLengths.{first_none}
use Rattle.searchrange.specs.SearchRange.{equal_at, narrowing_end, is_before_place, all_narrow}
use Rattle.searchrange.specs.OnlyKey.{equal_parts, key_meeting, only_key}

-- ---- what passes is found before the end

module _ (p : ℕ → Bool) where
  found : (xs : List ℕ) → list_any p xs ≡ true → position_or_len p xs < length xs
  found [] any = cc
  found (x ∷ xs) any = by (p x) refl any (found xs)
    where
      by : (b : Bool) → p x ≡ b → (b || list_any p xs) ≡ true → (list_any p xs ≡ true → position_or_len p xs < length xs) → position_or_len p (x ∷ xs) < suc (length xs)
      by true e any go = subst (λ t. (if not t then 1 + position_or_len p xs else 0) < suc (length xs)) (sym e) (omega arith)
      by false e any go =
          let rest = go any in
          subst (λ t. (if not t then 1 + position_or_len p xs else 0) < suc (length xs)) (sym e) (omega (arith, rest))

  before_end : (xs : List ℕ) → list_any p xs ≡ true → is_before_place (length xs) (position p xs) ≡ true
  before_end xs any = ap (λ t. is_before_place (length xs) (if t then Some (position_or_len p xs) else None)) lower ∙ lower
    where
      lower : nat_lt (position_or_len p xs) (length xs) ≡ true
      lower = let at : position_or_len p xs < length xs = found xs any in grind (arith, nat_tests, at)

-- ---- a comparison that fits the table is of a key column

key_column : (table : Table) (c : Comparison) → comparison_fault table c ≡ None → is_key_column table c.column ≡ true
key_column table c e = by (column_at table c.column) e
  where
    tested : (t u : Bool) → ◌≡◌ {A = Option ℕ} (if t && u then None else Some c.column) None → t ≡ true
    tested true u e = refl
    tested false u e = cc

    by : (o : Option Column)
        → ◌≡◌ {A = Option ℕ} (elim o [ None ↦ Some 0 | Some column ↦ if is_key_column table c.column && can_compare column.of c.value then None else Some c.column ]) None
        → is_key_column table c.column ≡ true
    by None e = cc
    by (Some column) e = tested (is_key_column table c.column) (can_compare column.of c.value) e

each_before : (table : Table) (cs : List Comparison) → comparisons_fault table cs ≡ None → list_all (λ c. is_before_place (length table.key) (position (λ k. k == c.column) table.key)) cs ≡ true
each_before table [] f = refl
each_before table (c ∷ cs) f =
    let none = first_none (comparison_fault table c) (comparisons_fault table cs) f in
    ap (λ t. t && list_all (λ c. is_before_place (length table.key) (position (λ k. k == c.column) table.key)) cs) (before_end (λ k. k == c.column) table.key (key_column table c none.0))
    ∙ each_before table cs none.1

-- ---- where each column is to be equal to a value, each narrows

module _ (table : Table) (cs : List Comparison) where
  whole : (columns : List ℕ) (place : ℕ) (vs : List Value) → equal_parts table cs place columns ≡ Some vs → narrowing_end table cs place columns ≡ place + length columns
  whole [] place vs e = omega arith
  whole (n ∷ ns) place vs e = by (equal_at table place cs) e (whole ns (place + 1))
    where
      Rest : Type 0
      Rest = (xs : List Value) → equal_parts table cs (place + 1) ns ≡ Some xs → narrowing_end table cs (place + 1) ns ≡ (place + 1) + length ns

      joined : (w : Value) (o : Option (List Value)) → equal_parts table cs (place + 1) ns ≡ o → option_map (λ xs. w ∷ xs) o ≡ Some vs → Rest → narrowing_end table cs (place + 1) ns ≡ place + suc (length ns)
      joined w None is e go = cc
      joined w (Some xs) is e go = let rest = go xs is in omega (arith, rest)

      by : (o : Option Value) → elim o [ None ↦ None | Some value ↦ option_map (λ xs. value ∷ xs) (equal_parts table cs (place + 1) ns) ] ≡ Some vs
          → Rest → elim o [ None ↦ place + 1 | Some _ ↦ narrowing_end table cs (place + 1) ns ] ≡ place + suc (length ns)
      by None e go = cc
      by (Some w) e go = joined w (equal_parts table cs (place + 1) ns) refl e go

module _ (table : Table) (keys : Keys) (fits : comparisons_fault table keys.comparisons ≡ None) where
  narrow_with : (key : Key) → only_key table keys ≡ Some key → all_narrow table keys.comparisons ≡ true
  narrow_with key is = by (equal_parts table cs 0 table.key) refl is
    where
      cs : List Comparison
      cs = keys.comparisons

      by : (o : Option (List Value)) → equal_parts table cs 0 table.key ≡ o → option_and_then (key_meeting table keys) o ≡ Some key → all_narrow table cs ≡ true
      by None at e = cc
      by (Some vs) at e =
          let end : narrowing_end table cs 0 table.key ≡ length table.key = let far = whole table cs table.key 0 vs at in omega (arith, far) in
          ap (λ end. list_all (λ c. is_before_place end (position (λ k. k == c.column) table.key)) cs) end ∙ each_before table cs fits

  pub narrow_where_one : (key : Option (Bor Key)) → option_copied key ≡ only_key table keys → is_some key ≡ true → all_narrow table keys.comparisons ≡ true
  narrow_where_one None is e = cc
  narrow_where_one (Some key) is e = narrow_with key.now (sym is)
