-- A row whose columns are set to values that can be stored can be stored.
use Rattle.std.proofs.Common.{◌≡◌, ℕ, ◌-◌, ◌≤◌, Bool, true, false, List, [], ◌∷◌, ◌++◌, Option, Some, None, length, refl, ap, sym, subst, ◌∙◌, All, slice_set, if◌then◌else◌, ◌==◌, zero, suc, arith}
use Rattle.std.specs.List.{list_any, slice_get, AllByRecursion}
use Rattle.std.proofs.lemmas.Option.{slice_get_within}
use Rattle.std.proofs.lemmas.Bool.Decides.{nat_tests}
use Rattle.std.proofs.lemmas.List.Elements.{All-from_recursion, recursion_from_All}
use Rattle.values.specs.declared.value.Value.{Value}
use Rattle.values.specs.declared.table.Column.{Column}
use Rattle.values.specs.declared.table.Table.{Table}
use Rattle.values.specs.declared.query.Set.{Set}
use Rattle.values.specs.Log.{Row}
use Rattle.values.specs.Tables.{column_at, is_fixed_column}
use Rattle.values.specs.Fit.{fits_value, set_fault, sets_fault, first_of}
use Rattle.values.specs.Writes.{set_all}
use Rattle.values.specs.RowEncoding.{IsStored, IsStoredRow}
use Rattle.staging.specs.Staged.{SetsOneOf}
use Rattle.values.proofs.RowFits.{value_stored}

set_stored : (row : Row) (i : ℕ) (v : Value) → IsStored v → AllByRecursion IsStored row → AllByRecursion IsStored (slice_set row i v)
set_stored [] i v s h = tt
set_stored (w ∷ row) zero v s h = (s, h.1)
set_stored (w ∷ row) (suc i) v s h = (h.0, set_stored row i v s h.1)

set_length : (row : Row) (i : ℕ) (v : Value) → length (slice_set row i v) ≡ length row
set_length [] i v = refl
set_length (w ∷ row) zero v = refl
set_length (w ∷ row) (suc i) v = ap suc (set_length row i v)

all_set : (sets : List Set) (row : Row) → AllByRecursion (λ s. IsStored s.value) sets → AllByRecursion IsStored row → AllByRecursion IsStored (set_all sets row)
all_set [] row h k = k
all_set (s ∷ sets) row h k = all_set sets (slice_set row (s.column - 1) s.value) h.1 (set_stored row (s.column - 1) s.value h.0 k)

pub all_length : (sets : List Set) (row : Row) → length (set_all sets row) ≡ length row
all_length [] row = refl
all_length (s ∷ sets) row = all_length sets (slice_set row (s.column - 1) s.value) ∙ set_length row (s.column - 1) s.value

pub set_row_stored : (sets : List Set) (row : Row) → All (λ s. IsStored s.value) sets → IsStoredRow row → IsStoredRow (set_all sets row)
set_row_stored sets row h k = record {
  some = subst (λ n. 1 ≤ n) (sym (all_length sets row)) k.some;
  few = subst (λ n. n ≤ 16) (sym (all_length sets row)) k.few;
  stored = All-from_recursion IsStored (set_all sets row) (all_set sets row (recursion_from_All (λ s. IsStored s.value) sets h) (recursion_from_All IsStored row k.stored));
}

-- what a set that fits sets can be stored
one_stored : (table : Table) (earlier : List Set) (s : Set) → set_fault table earlier s ≡ None → IsStored s.value
one_stored table earlier s e = by_column (column_at table s.column) e
  where
    by_value : (c : Column) (b : Bool) → fits_value false c s.value ≡ b → ◌≡◌ {A = Option ℕ} (if b then None else Some s.column) None → IsStored s.value
    by_value c true fits e = value_stored false c s.value fits
    by_value c false fits e = cc

    by_key : (c : Column) (b : Bool) → ◌≡◌ {A = Option ℕ} (if b then Some s.column else if fits_value false c s.value then None else Some s.column) None → IsStored s.value
    by_key c true e = cc
    by_key c false e = by_value c (fits_value false c s.value) refl e

    by_earlier : (c : Column) (b : Bool) → ◌≡◌ {A = Option ℕ} (if b then Some 0 else if is_fixed_column table s.column then Some s.column else if fits_value false c s.value then None else Some s.column) None → IsStored s.value
    by_earlier c true e = cc
    by_earlier c false e = by_key c (is_fixed_column table s.column) e

    by_column : (o : Option Column) → ◌≡◌ {A = Option ℕ} (elim o [
      | None ↦ Some 0
      | Some column ↦
          if list_any (λ e. e.column == s.column) earlier then Some 0
          else if is_fixed_column table s.column then Some s.column
          else if fits_value false column s.value then None
          else Some s.column
    ]) None → IsStored s.value
    by_column None e = cc
    by_column (Some c) e = by_earlier c (list_any (λ e. e.column == s.column) earlier) e

fitting_stored : (table : Table) (earlier sets : List Set) → sets_fault table earlier sets ≡ None → AllByRecursion (λ s. IsStored s.value) sets
fitting_stored table earlier [] e = tt
fitting_stored table earlier (s ∷ sets) e = by (set_fault table earlier s) refl e (fitting_stored table (earlier ++ s ∷ []) sets)
  where
    by : (o : Option ℕ) → set_fault table earlier s ≡ o → ◌≡◌ {A = Option ℕ} (first_of o (sets_fault table (earlier ++ s ∷ []) sets)) None
        → (sets_fault table (earlier ++ s ∷ []) sets ≡ None → AllByRecursion (λ s. IsStored s.value) sets) → AllByRecursion (λ s. IsStored s.value) (s ∷ sets)
    by (Some n) at e rest = cc
    by None at e rest = (one_stored table earlier s at, rest e)

pub sets_stored : (table : Table) (sets : List Set) → sets_fault table [] sets ≡ None → All (λ s. IsStored s.value) sets
sets_stored table sets e = All-from_recursion (λ s. IsStored s.value) sets (fitting_stored table [] sets e)

-- ---- a set that fits is of one of the table's columns

one_within : (table : Table) (earlier : List Set) (s : Set) → set_fault table earlier s ≡ None → SetsOneOf (length table.columns) s
one_within table earlier s e = by (s.column == 0) refl e
  where
    rest : Option Column → Option ℕ
    rest o = elim o [
      | None ↦ Some 0
      | Some column ↦
          if list_any (λ e. e.column == s.column) earlier then Some 0
          else if is_fixed_column table s.column then Some s.column
          else if fits_value false column s.value then None
          else Some s.column
    ]

    found : (o : Option Column) → slice_get table.columns (s.column - 1) ≡ o → (s.column == 0) ≡ false → rest o ≡ None → SetsOneOf (length table.columns) s
    found None at some e = cc
    found (Some c) at some e =
        let inside = slice_get_within table.columns (s.column - 1) c at in
        let from : 1 ≤ s.column = grind (arith, nat_tests) in
        record { from_1 = from; within = omega (arith, inside, from) }

    by : (b : Bool) → (s.column == 0) ≡ b → rest (if b then None else slice_get table.columns (s.column - 1)) ≡ None → SetsOneOf (length table.columns) s
    by true at e = cc
    by false at e = found (slice_get table.columns (s.column - 1)) refl at e

fitting_within : (table : Table) (earlier sets : List Set) → sets_fault table earlier sets ≡ None → AllByRecursion (SetsOneOf (length table.columns)) sets
fitting_within table earlier [] e = tt
fitting_within table earlier (s ∷ sets) e = by (set_fault table earlier s) refl e (fitting_within table (earlier ++ s ∷ []) sets)
  where
    by : (o : Option ℕ) → set_fault table earlier s ≡ o → ◌≡◌ {A = Option ℕ} (first_of o (sets_fault table (earlier ++ s ∷ []) sets)) None
        → (sets_fault table (earlier ++ s ∷ []) sets ≡ None → AllByRecursion (SetsOneOf (length table.columns)) sets) → AllByRecursion (SetsOneOf (length table.columns)) (s ∷ sets)
    by (Some n) at e rest = cc
    by None at e rest = (one_within table earlier s at, rest e)

pub sets_within : (table : Table) (sets : List Set) → sets_fault table [] sets ≡ None → All (SetsOneOf (length table.columns)) sets
sets_within table sets e = All-from_recursion (SetsOneOf (length table.columns)) sets (fitting_within table [] sets e)
