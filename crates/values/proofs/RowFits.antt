-- A row that fits its table has bytes.
use Rattle.std.proofs.Common.{◌≡◌, ℕ, ◌+◌, ◌≤◌, List, [], ◌∷◌, ◌==◌, ◌&&◌, Bool, true, false, Option, Some, None, length, refl, ap, ◌∙◌, arith, nat_le, if◌then◌else◌, All}
use Rattle.std.proofs.lemmas.Bool.{and_parts}
use Rattle.std.specs.List.{list_any}
use Rattle.std.specs.Prelude.{not}
use Rattle.std.proofs.lemmas.Bool.Decides.{nat_tests}
use Rattle.std.proofs.lemmas.List.Elements.{All-cons, All-nil}
use Rattle.values.specs.declared.value.Value.{Value}
use Rattle.values.specs.declared.value.Value.TheVariants.{Int, Text, Bool as Truth, Null}
use Rattle.values.specs.declared.table.ColumnType.{ColumnType}
use Rattle.values.specs.declared.table.ColumnType.TheVariants.{Int as IsInt, Text as IsText, Varchar as IsVarchar, Boolean as IsBoolean}
use Rattle.values.specs.declared.table.Column.{Column}
use Rattle.values.specs.declared.table.Table.{Table}
use Rattle.values.specs.Log.{Row}
use Rattle.values.specs.Tables.{is_key_column}
use Rattle.values.specs.Fit.{is_line_break, fits_text, fits_type, fits_value, text_limit, character_count, first_fault, row_fault}
use Rattle.values.specs.RowEncoding.{IsStored, IsStoredRow}

wider : (m : ℕ) (t : List ℕ) → m ≤ 1000 → fits_text m t ≡ true → fits_text 1000 t ≡ true
wider m t h e = ap (λ a. a && not (list_any is_line_break t)) (longer (length t) ((and_parts (nat_le (length t) m) _ e).0)) ∙ (and_parts (nat_le (length t) m) _ e).1
  where
    longer : (n : ℕ) → nat_le n m ≡ true → nat_le n 1000 ≡ true
    longer n e = grind (arith, nat_tests)

typed : (m : ℕ) (of : ColumnType) (v : Value) → m ≤ 1000 → fits_type m of v ≡ true → IsStored v
typed m IsText (Text t) h e = wider m t h e
typed m (IsVarchar n) (Text t) h e = wider m t h ((and_parts (fits_text m t) (nat_le (character_count t) n) e).0)
typed m IsInt (Text t) h e = cc
typed m IsBoolean (Text t) h e = cc
typed m of (Int x) h e = refl
typed m of (Truth x) h e = refl
typed m of Null h e = refl

limit : (in_key : Bool) → text_limit in_key ≤ 1000
limit true = omega arith
limit false = omega arith

pub value_stored : (in_key : Bool) (c : Column) (v : Value) → fits_value in_key c v ≡ true → IsStored v
value_stored in_key c Null e = refl
value_stored in_key c (Int x) e = refl
value_stored in_key c (Truth x) e = refl
value_stored in_key c (Text t) e = typed (text_limit in_key) c.of (Text t) (limit in_key) e

all_stored : (table : Table) (n : ℕ) (cs : List Column) (vs : List Value) → length cs ≡ length vs → first_fault table n cs vs ≡ None → All IsStored vs
all_stored table n cs [] e h = All-nil IsStored
all_stored table n [] (v ∷ vs) e h = absurd (omega arith)
all_stored table n (c ∷ cs) (v ∷ vs) e h = by_first (fits_value (is_key_column table n) c v) refl h (λ k. all_stored table (n + 1) cs vs (omega arith) k)
  where
    by_first : (t : Bool) → fits_value (is_key_column table n) c v ≡ t → ◌≡◌ {A = Option ℕ} (if t then first_fault table (n + 1) cs vs else Some n) None
        → (first_fault table (n + 1) cs vs ≡ None → All IsStored vs) → All IsStored (v ∷ vs)
    by_first true e h more = All-cons IsStored v vs (value_stored (is_key_column table n) c v e) (more h)
    by_first false e h more = cc

equal : (a b : ℕ) → (a == b) ≡ true → a ≡ b
equal a b e = grind (arith, nat_tests)

pub fitting_rows_are_stored : (table : Table) (row : Row) → 1 ≤ length table.columns → length table.columns ≤ 16 → row_fault table row ≡ None → IsStoredRow row
fitting_rows_are_stored table row some few h = by_width (length table.columns == length row) refl h
  where
    by_width : (t : Bool) → (length table.columns == length row) ≡ t → ◌≡◌ {A = Option ℕ} (if t then first_fault table 1 table.columns row else Some 0) None → IsStoredRow row
    by_width true e h =
        let same = equal (length table.columns) (length row) e in
        record { some = omega arith; few = omega arith; stored = all_stored table 1 table.columns row same h }
    by_width false e h = cc
