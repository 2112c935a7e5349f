-- The key of a row that fits its table is one of the table's.
use Rattle.std.proofs.Common.{◌≡◌, ℕ, ◌+◌, ◌-◌, ◌<◌, ◌≤◌, List, [], ◌∷◌, ◌==◌, Bool, true, false, Option, Some, None, length, map, refl, sym, subst, ap, ◌∙◌, arith, if◌then◌else◌, All, zero, suc, get_or}
use Rattle.std.specs.List.{slice_get}
use Rattle.std.specs.Option.{unwrap_or}
use Rattle.std.proofs.lemmas.List.{length-map}
use Rattle.std.proofs.lemmas.List.Elements.{All-cons, All-nil, All-head, All-tail}
use Rattle.std.proofs.lemmas.List.Folds.{list_any_at}
use Rattle.std.proofs.lemmas.Bool.Decides.{nat_tests}
use Rattle.values.specs.declared.value.Value.{Value}
use Rattle.values.specs.declared.value.Value.TheVariants.{Null}
use Rattle.values.specs.declared.table.Column.{Column}
use Rattle.values.specs.declared.table.Table.{Table}
use Rattle.values.specs.declared.key.Key.{Key}
use Rattle.values.specs.Log.{Row}
use Rattle.values.specs.Tables.{value_at, column_at, is_key_column}
use Rattle.values.specs.TableRules.{IsColumnOf, IsTable}
use Rattle.values.specs.Fit.{fits_value, first_fault, row_fault, part_fault, parts_fault, key_fault, first_of}
use Rattle.values.specs.KeyEncoding.{IsShortKey}
use Rattle.values.specs.RowEncoding.{IsHeld}
use Rattle.values.specs.KeyReading.{IsKeyOf}
use Rattle.values.specs.Writes.{key_of}
use Rattle.values.proofs.KeyLengths.{fitting_keys_are_short}

equal : (a b : ℕ) → (a == b) ≡ true → a ≡ b
equal a b e = grind (arith, nat_tests)

same : (a b : ℕ) → a ≡ b → (a == b) ≡ true
same a b e = grind (arith, nat_tests)

-- a row that fits has the table's width, and no column at fault
record FitsRow (table : Table) (row : Row) : Type 0 where
  same_width : length table.columns ≡ length row
  no_fault : first_fault table 1 table.columns row ≡ None

row_fits : (table : Table) (row : Row) → row_fault table row ≡ None → FitsRow table row
row_fits table row h = by_width (length table.columns == length row) refl h
  where
    by_width : (t : Bool) → (length table.columns == length row) ≡ t → ◌≡◌ {A = Option ℕ} (if t then first_fault table 1 table.columns row else Some 0) None → FitsRow table row
    by_width true e h = record { same_width = equal _ _ e; no_fault = h }
    by_width false e h = cc

-- each value of a row that fits does so
record FitsAt (table : Table) (n : ℕ) (cs : List Column) (vs : List Value) (i : ℕ) : Type 0 where
  column : Column
  found : slice_get cs i ≡ Some column
  fits : fits_value (is_key_column table n) column (unwrap_or (slice_get vs i) Null) ≡ true

fits_at : (table : Table) (n : ℕ) (cs : List Column) (vs : List Value) (i m : ℕ) → length cs ≡ length vs → i < length cs → m ≡ n + i → first_fault table n cs vs ≡ None → FitsAt table m cs vs i
fits_at table n [] vs i m e lt is h = absurd (omega arith)
fits_at table n (c ∷ cs) [] i m e lt is h = absurd (omega arith)
fits_at table n (c ∷ cs) (v ∷ vs) i m e lt is h = by_first (fits_value (is_key_column table n) c v) refl h (λ j k h. fits_at table (n + 1) cs vs j m (omega arith) k.0 k.1 h)
  where
    by_first : (t : Bool) → fits_value (is_key_column table n) c v ≡ t → ◌≡◌ {A = Option ℕ} (if t then first_fault table (n + 1) cs vs else Some n) None
        → ((j : ℕ) → (j < length cs) × (m ≡ (n + 1) + j) → first_fault table (n + 1) cs vs ≡ None → FitsAt table m cs vs j) → FitsAt table m (c ∷ cs) (v ∷ vs) i
    by_first true t h more = by_place i lt is
      where
        by_place : (i : ℕ) → i < length (c ∷ cs) → m ≡ n + i → FitsAt table m (c ∷ cs) (v ∷ vs) i
        by_place zero lt is =
            let here : n ≡ m = omega arith in record { column = c; found = refl; fits = subst (λ k. fits_value (is_key_column table k) c v ≡ true) here t }
        by_place (suc j) lt is = let there = more j (omega arith, omega arith) h in record { column = there.column; found = there.found; fits = there.fits }
    by_first false t h more = cc

-- each of the key's columns is one of them
key_columns : (table : Table) (ns : List ℕ) → All (λ n. is_key_column table n ≡ true) table.key
key_columns table ns i d lt = list_any_at (λ k. k == get_or table.key i d) table.key i d lt (same (get_or table.key i d) (get_or table.key i d) refl)

part_at : (table : Table) (row : Row) (n : ℕ) → FitsRow table row → IsColumnOf table n → is_key_column table n ≡ true → part_fault table n (value_at row n) ≡ None
part_at table row n fits own in_key =
    let there : FitsAt table n table.columns row (n - 1) = fits_at table 1 table.columns row (n - 1) n fits.same_width (omega (arith, own.from_1, own.within)) (omega (arith, own.from_1)) fits.no_fault in
    let column : column_at table n ≡ Some there.column = not_zero n (n == 0) refl own.from_1 there.found in
    ap (λ (o : Option Column). elim o [ None ↦ Some 0 | Some c ↦ if fits_value true c (value_at row n) then None else Some n ]) column
    ∙ ap (λ (b : Bool). if b then None else Some n) (ap (λ b. fits_value b there.column (value_at row n)) (sym in_key) ∙ there.fits)
  where
    not_zero : (n : ℕ) (z : Bool) {c : Column} → (n == 0) ≡ z → 1 ≤ n → slice_get table.columns (n - 1) ≡ Some c → (if z then None else slice_get table.columns (n - 1)) ≡ Some c
    not_zero n true e h is = let never : ⊥ = grind (arith, nat_tests) in absurd never
    not_zero n false e h is = is

parts_at : (table : Table) (row : Row) (ns : List ℕ) → FitsRow table row → All (IsColumnOf table) ns → All (λ n. is_key_column table n ≡ true) ns → parts_fault table ns (map (value_at row) ns) ≡ None
parts_at table row [] fits own in_key = refl
parts_at table row (n ∷ ns) fits own in_key =
    ap (λ (o : Option ℕ). first_of o (parts_fault table ns (map (value_at row) ns)))
    (part_at table row n fits (All-head (IsColumnOf table) n ns own) (All-head (λ n. is_key_column table n ≡ true) n ns in_key))
    ∙ parts_at table row ns fits (All-tail (IsColumnOf table) n ns own) (All-tail (λ n. is_key_column table n ≡ true) n ns in_key)

held_at : (row : List Value) (i : ℕ) → All IsHeld row → IsHeld (unwrap_or (slice_get row i) Null)
held_at [] i h = tt
held_at (v ∷ row) zero h = All-head IsHeld v row h
held_at (v ∷ row) (suc i) h = held_at row i (All-tail IsHeld v row h)

parts_held : (row : List Value) (ns : List ℕ) → All IsHeld row → All IsHeld (map (value_at row) ns)
parts_held row [] h = All-nil IsHeld
parts_held row (n ∷ ns) h = All-cons IsHeld (value_at row n) (map (value_at row) ns) (held_at row (n - 1) h) (parts_held row ns h)

pub fitting_key : (number : ℕ) (table : Table) (row : Row) → IsTable number table → row_fault table row ≡ None → key_fault table (map (value_at row) table.key) ≡ None
fitting_key number table row is fits =
    ap (λ (b : Bool). if b then parts_fault table table.key (map (value_at row) table.key) else Some 0) (same (length table.key) (length (map (value_at row) table.key)) (sym (length-map table.key (value_at row))))
    ∙ parts_at table row table.key (row_fits table row fits) is.own_key_columns (key_columns table table.key)

pub fitting_rows_have_keys : (number : ℕ) (table : Table) (row : Row) → IsTable number table → row_fault table row ≡ None → All IsHeld row → IsKeyOf table (key_of table row)
fitting_rows_have_keys number table row is fits held = record {
  own = refl;
  fits = fitting_key number table row is fits;
  held = parts_held row table.key held;
}

pub keys_are_short : (number : ℕ) (table : Table) (key : Key) → IsTable number table → IsKeyOf table key → IsShortKey key
keys_are_short number table key is own = fitting_keys_are_short table key is.few_key_columns own.fits
