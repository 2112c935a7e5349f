-- The rows of a file of CSV can be printed.
use Rattle.std.proofs.Common.{◌≡◌, ℕ, ◌≤◌, ◌-◌, ◌+◌, ◌^◌, zero, suc, Bool, true, false, List, [], ◌∷◌, ◌++◌, Option, Some, None, Ok, Err, ℤ, pos, neg_ℤ, refl, subst, arith}
use Rattle.std.specs.Prelude.{Result, IfOk, IfSome, codes, drop, length, ◌==◌, if◌then◌else◌, option_map}
use Rattle.std.specs.List.{AllByRecursion}
use Rattle.std.specs.Str.{is_utf8}
use Rattle.std.proofs.lemmas.Str.{IsUtf8-from_is_utf8}
use Rattle.values.specs.declared.refusal.Refusal.{Refusal}
use Rattle.values.specs.declared.refusal.Refusal.TheVariants.{BadRow}
use Rattle.values.specs.declared.table.Column.{Column}
use Rattle.values.specs.declared.table.ColumnType.{ColumnType}
use Rattle.values.specs.declared.table.ColumnType.TheVariants.{Int as IsInt, Text as IsText, Varchar as IsVarchar, Boolean as IsBoolean}
use Rattle.values.specs.declared.table.Table.{Table}
use Rattle.values.specs.declared.value.Value.{Value}
use Rattle.values.specs.declared.value.Value.TheVariants.{Int, Text, Bool as Truth, Null}
use Rattle.values.specs.Fit.{row_fault}
use Rattle.values.specs.Log.{Row}
use Rattle.values.specs.Names.{same_name}
use Rattle.statement.specs.Grammar.{Digits}
use Rattle.statement.specs.GrammarLaw.{ArePlain, IsPlain}
use Rattle.statement.specs.Literal.{above_nought, begins_with, below_nought, digits_here, number_here}
use Rattle.statement.specs.Meaning.{is_column_list, place_of}
use Rattle.statement.proofs.GrammarHolds.{Found}
use Rattle.statement.proofs.LiteralSound.{digits_here_sound}
use Rattle.interchange.specs.Field.{field_value, misfit_of, number_of, number_value, text_value, truth_value, whole}
use Rattle.interchange.specs.Load.{Record, column_list, row_of, rows_from, rows_of, value_in, values_from}
use Rattle.dump_reading.specs.ReadableHistories.{LoadedRowsAreReadable}
use Rattle.dump_reading.proofs.ReadableHistoriesRows.{pushed, rows_pushed}

-- ---- a field

abbrev IsPlainNumber : Option (ℤ × List ℕ) → Type 0
IsPlainNumber o = IfSome o (λ x. IsPlain (Int x.0))

above : (o : Option (ℕ × List ℕ)) → IfSome o (λ x. x.0 ≤ 2 ^ 63 - 1) → IsPlainNumber (option_map (λ x. (pos x.0, x.1)) o)
above None within = tt
above (Some x) within = omega (arith, within)

below : (o : Option (ℕ × List ℕ)) → IfSome o (λ x. x.0 ≤ 2 ^ 63) → IsPlainNumber (option_map (λ x. (neg_ℤ (pos x.0), x.1)) o)
below None within = tt
below (Some x) within = by x.0 within
  where
    by : (n : ℕ) → n ≤ 2 ^ 63 → IsPlain (Int (neg_ℤ (pos n)))
    by zero within = omega arith
    by (suc n) within = omega (arith, within)

digits_within : (most : ℕ) (bytes : List ℕ) → IfSome (digits_here most bytes) (λ x. x.0 ≤ most)
digits_within most bytes = by (digits_here most bytes) (digits_here_sound most bytes)
  where
    by : (o : Option (ℕ × List ℕ)) → Found o (λ n rest. Digits most n bytes rest) → IfSome o (λ x. x.0 ≤ most)
    by None found = tt
    by (Some x) found = (found.it).within

number_plain : (field : List ℕ) → IsPlainNumber (number_here field)
number_plain field = by (begins_with 45 field)
  where
    by : (t : Bool) → IsPlainNumber (if t then below_nought (drop 1 field) else above_nought field)
    by true = below (digits_here (2 ^ 63) (drop 1 field)) (digits_within (2 ^ 63) (drop 1 field))
    by false = above (digits_here (2 ^ 63 - 1) field) (digits_within (2 ^ 63 - 1) field)

whole_plain : (o : Option (ℤ × List ℕ)) → IsPlainNumber o → IfSome (whole o) (λ z. IsPlain (Int z))
whole_plain None plain = tt
whole_plain (Some x) plain = by (length x.1 == 0)
  where
    by : (t : Bool) → IfSome (if t then Some x.0 else None) (λ z. IsPlain (Int z))
    by true = plain
    by false = tt

number_value_plain : (field : List ℕ) → IsPlain (number_value field)
number_value_plain field = by (number_of field) (whole_plain (number_here field) (number_plain field))
  where
    by : (o : Option ℤ) → IfSome o (λ z. IsPlain (Int z)) → IsPlain (elim o as (λ _. Value) [ Some n ↦ Int n | None ↦ misfit_of IsInt ])
    by None plain = tt
    by (Some z) plain = plain

truth_value_plain : (field : List ℕ) → IsPlain (truth_value field)
truth_value_plain field = by (same_name field (codes "true")) (same_name field (codes "false"))
  where
    by : (a b : Bool) → IsPlain (if a then Truth true else if b then Truth false else misfit_of IsBoolean)
    by true b = tt
    by false true = tt
    by false false = omega arith

text_value_plain : (field : List ℕ) → IsPlain (text_value field)
text_value_plain field = by (is_utf8 field) refl
  where
    by : (t : Bool) → is_utf8 field ≡ t → IsPlain (if t then Text field else misfit_of IsText)
    by true is = IsUtf8-from_is_utf8 field is
    by false is = tt

or_null : (t : Bool) (v : Value) → IsPlain v → IsPlain (if t then Null else v)
or_null true v plain = tt
or_null false v plain = plain

field_plain : (of : ColumnType) (field : List ℕ) → IsPlain (field_value of field)
field_plain IsInt field = or_null (length field == 0) (number_value field) (number_value_plain field)
field_plain IsText field = text_value_plain field
field_plain (IsVarchar n) field = text_value_plain field
field_plain IsBoolean field = or_null (length field == 0) (truth_value field) (truth_value_plain field)

-- ---- rows

given_plain : (o : Option ℕ) (of : ColumnType) (text : ℕ → List ℕ) → IsPlain (elim o as (λ _. Value) [ None ↦ Null | Some i ↦ field_value of (text i) ])
given_plain None of text = tt
given_plain (Some i) of text = field_plain of (text i)

value_plain : (columns : List ℕ) (fields : Record) (number : ℕ) (column : Column) → IsPlain (value_in columns fields number column)
value_plain columns fields number column = given_plain (place_of columns number) column.of _

values_plain : (columns : List ℕ) (fields : Record) (front : Row) (number : ℕ) (cs : List Column) → ArePlain front → ArePlain (values_from columns fields front number cs)
values_plain columns fields front number [] before = before
values_plain columns fields front number (c ∷ cs) before =
    values_plain columns fields (front ++ value_in columns fields number c ∷ []) (number + 1) cs (pushed front (value_in columns fields number c) before (value_plain columns fields number c))

row_plain : (table : Table) (columns : List ℕ) (fields : Record) → IfOk (row_of table columns fields) ArePlain
row_plain table columns fields = by (length columns == length fields) (row_fault table row)
  where
    row : Row
    row = values_from columns fields [] 1 table.columns

    by : (t : Bool) (o : Option ℕ) → IfOk (if t then elim o as (λ _. Result Row Refusal) [ Some column ↦ Err (BadRow column) | None ↦ Ok row ] else Err (BadRow 0)) ArePlain
    by true None = values_plain columns fields [] 1 table.columns tt
    by true (Some column) = tt
    by false o = tt

rows_plain : (table : Table) (columns : List ℕ) (front : List Row) (records : List Record) → AllByRecursion ArePlain front → IfOk (rows_from table columns front records) (AllByRecursion ArePlain)
rows_plain table columns front [] before = before
rows_plain table columns front (fields ∷ records) before =
    by (row_of table columns fields) (row_plain table columns fields) (λ row one. rows_plain table columns (front ++ row ∷ []) records (rows_pushed front row before one))
  where
    by : (r : Result Row Refusal) → IfOk r ArePlain → ((row : Row) → ArePlain row → IfOk (rows_from table columns (front ++ row ∷ []) records) (AllByRecursion ArePlain))
        → IfOk (elim r as (λ _. Result (List Row) Refusal) [ Err refusal ↦ Err refusal | Ok row ↦ rows_from table columns (front ++ row ∷ []) records ]) (AllByRecursion ArePlain)
    by (Ok row) is go = go row is
    by (Err refusal) is go = tt

file_plain : (table : Table) (records : List Record) → IfOk (rows_of table records) (AllByRecursion ArePlain)
file_plain table [] = tt
file_plain table (header ∷ records) = by (is_column_list (column_list table header))
  where
    by : (t : Bool) → IfOk (if t then rows_from table (column_list table header) [] records else Err (BadRow 0)) (AllByRecursion ArePlain)
    by true = rows_plain table (column_list table header) [] records tt
    by false = tt

pub loaded_rows_are_readable : LoadedRowsAreReadable
loaded_rows_are_readable table bytes rows loads =
    subst (λ (r : Result (List Row) Refusal). IfOk r (AllByRecursion ArePlain)) loads.2 (file_plain table loads.0)
