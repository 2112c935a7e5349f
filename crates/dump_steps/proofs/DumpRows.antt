-- Rows that fit their table, also where it has got columns since.
use Rattle.std.proofs.Common.{◌≡◌, ℕ, ◌+◌, ◌-◌, ◌≤◌, ◌<◌, zero, suc, Bool, true, false, ◌||◌, ◌&&◌, List, [], ◌∷◌, ◌++◌, Option, Some, None, refl, sym, ap, ◌∙◌, arith, not, length, take, map, length-append, nat_lt, nat_le}
use Rattle.std.specs.Prelude.{◌==◌, if◌then◌else◌}
use Rattle.std.proofs.lemmas.Bool.{and_parts}
use Rattle.std.proofs.lemmas.Bool.Decides.{nat_tests}
use Rattle.std.proofs.lemmas.List.{length-take-le}
use Rattle.std.proofs.lemmas.Option.{slice_get_past}
use Rattle.std.specs.List.{slice_get}
use Rattle.std.specs.Option.{ForSome, unwrap_or}
use Rattle.values.specs.declared.value.Value.{Value}
use Rattle.values.specs.declared.value.Value.TheVariants.{Int, Text, Bool as Truth, Null}
use Rattle.values.specs.declared.key.Key.{Key}
use Rattle.values.specs.declared.table.Column.{Column}
use Rattle.values.specs.declared.table.ColumnType.{ColumnType}
use Rattle.values.specs.declared.table.ColumnType.TheVariants.{Int as IsInt, Text as IsText, Varchar as IsVarchar, Boolean as IsBoolean}
use Rattle.values.specs.declared.table.Table.{Table}
use Rattle.values.specs.Log.{Row}
use Rattle.values.specs.WiderTable.{IsWidenedTo}
use Rattle.values.specs.Fit.{fits_text, fits_value, first_fault, first_of, row_fault, can_compare, character_count, comparisons_fault, longest_key_text}
use Rattle.values.specs.Each.{Each}
use Rattle.values.specs.Period.{span_of, is_span}
use Rattle.values.specs.Tables.{column_at, is_key_column, value_at}
use Rattle.values.specs.Writes.{key_of}
use Rattle.dump_steps.specs.Dump.{comparisons_of}

-- the table as it was with so many columns
abbrev pub narrow : ℕ → Table → Table
narrow n table = record table { columns = take n table.columns }

-- the value of each column fits it, NULL past the row's end
abbrev pub ValuesFit : Table → Row → Type 0
ValuesFit table row = (n : ℕ) (c : Column) → column_at table n ≡ Some c → fits_value (is_key_column table n) c (value_at row n) ≡ true

-- a row of the table, at its key
pub record IsRowOf (table : Table) (e : Key × Row) : Type 0 where
  pub key_is : e.0 ≡ key_of table e.1
  pub within : length e.1 ≤ length table.columns
  pub fits : ValuesFit table e.1
  pub proper : ForSome table.period (λ p. is_span (span_of p e.1) ≡ true)

-- ---- columns by their numbers

pub record IsColumnAt (table : Table) (n : ℕ) (c : Column) : Type 0 where
  pub from_1 : 1 ≤ n
  pub found : slice_get table.columns (n - 1) ≡ Some c

pub column_is : (table : Table) (n : ℕ) (c : Column) → column_at table n ≡ Some c → IsColumnAt table n c
column_is table n c at = by (n == 0) refl at
  where
    by : (b : Bool) → (n == 0) ≡ b → ◌≡◌ {A = Option Column} (if b then None else slice_get table.columns (n - 1)) (Some c) → IsColumnAt table n c
    by true e at = cc
    by false e at = record { from_1 = grind (arith, nat_tests); found = at }

pub is_column : (table : Table) (n : ℕ) (c : Column) → 1 ≤ n → slice_get table.columns (n - 1) ≡ Some c → column_at table n ≡ Some c
is_column table n c from_1 found = ap (λ b. if b then None else slice_get table.columns (n - 1)) (let some : (n == 0) ≡ false = grind (arith, nat_tests) in some) ∙ found

pub got_taken : {A : Type 0} (k : ℕ) (xs : List A) (i : ℕ) (x : A) → slice_get (take k xs) i ≡ Some x → slice_get xs i ≡ Some x
got_taken zero xs i x at = cc
got_taken (suc k) [] i x at = cc
got_taken (suc k) (y ∷ xs) zero x at = at
got_taken (suc k) (y ∷ xs) (suc i) x at = got_taken k xs i x at

pub got_in_front : {A : Type 0} (k : ℕ) (xs : List A) (i : ℕ) → i < k → slice_get (take k xs) i ≡ slice_get xs i
got_in_front zero xs i lt = absurd (omega arith)
got_in_front (suc k) [] i lt = refl
got_in_front (suc k) (y ∷ xs) zero lt = refl
got_in_front (suc k) (y ∷ xs) (suc i) lt = got_in_front k xs i (omega arith)

-- ---- rows that fit have no fault, and the other way round

-- the columns from one on
abbrev FitFrom : Table → ℕ → List Column → Row → Type 0
FitFrom table n cs vs = (i : ℕ) (c : Column) → slice_get cs i ≡ Some c → fits_value (is_key_column table (n + i)) c (unwrap_or (slice_get vs i) Null) ≡ true

next : (n i : ℕ) → (n + 1) + i ≡ n + suc i
next n i = omega arith

same_place : (n : ℕ) → n ≡ n + 0
same_place n = omega arith

none_at_fault : (table : Table) (n : ℕ) (cs : List Column) (vs : Row) → length cs ≡ length vs → first_fault table n cs vs ≡ None → FitFrom table n cs vs
none_at_fault table n [] vs wide none i c at = cc
none_at_fault table n (x ∷ cs) [] wide none i c at = absurd (omega arith)
none_at_fault table n (x ∷ cs) (v ∷ vs) wide none i c at =
    by (fits_value (is_key_column table n) x v) refl none i at (λ none i at. none_at_fault table (n + 1) cs vs (omega arith) none i c at)
  where
    the_column : (c d : Column) → ◌≡◌ {A = Option Column} (Some c) (Some d) → c ≡ d
    the_column c d e = cc

    by : (b : Bool) → fits_value (is_key_column table n) x v ≡ b → ◌≡◌ {A = Option ℕ} (if b then first_fault table (n + 1) cs vs else Some n) None → (i : ℕ) → slice_get (x ∷ cs) i ≡ Some c
        → (first_fault table (n + 1) cs vs ≡ None → (i : ℕ) → slice_get cs i ≡ Some c → fits_value (is_key_column table ((n + 1) + i)) c (unwrap_or (slice_get vs i) Null) ≡ true)
        → fits_value (is_key_column table (n + i)) c (unwrap_or (slice_get (v ∷ vs) i) Null) ≡ true
    by true fit none zero at rest = (λ k. fits_value (is_key_column table (sym (same_place n) k)) (sym (the_column x c at) k) v) ∙ fit
    by true fit none (suc i) at rest = ap (λ m. fits_value (is_key_column table m) c (unwrap_or (slice_get vs i) Null)) (sym (next n i)) ∙ rest none i at
    by false fit none i at rest = cc

faultless : (table : Table) (n : ℕ) (cs : List Column) (vs : Row) → FitFrom table n cs vs → first_fault table n cs vs ≡ None
faultless table n [] vs fit = refl
faultless table n (c ∷ cs) [] fit = refl
faultless table n (c ∷ cs) (v ∷ vs) fit =
    ap (λ b. if b then first_fault table (n + 1) cs vs else Some n) (ap (λ m. fits_value (is_key_column table m) c v) (same_place n) ∙ fit 0 c refl)
    ∙ faultless table (n + 1) cs vs (λ i d at. ap (λ m. fits_value (is_key_column table m) d (unwrap_or (slice_get vs i) Null)) (next n i) ∙ fit (suc i) d at)

pub record FitsWhole (table : Table) (row : Row) : Type 0 where
  pub wide : length table.columns ≡ length row
  pub fits : ValuesFit table row

up : (n : ℕ) → 1 ≤ n → 1 + (n - 1) ≡ n
up n some = omega arith

back : (i : ℕ) → (1 + i) - 1 ≡ i
back i = omega arith

pub row_fits : (table : Table) (row : Row) → row_fault table row ≡ None → FitsWhole table row
row_fits table row none = by (length table.columns == length row) refl none
  where
    by : (b : Bool) → (length table.columns == length row) ≡ b → ◌≡◌ {A = Option ℕ} (if b then first_fault table 1 table.columns row else Some 0) None → FitsWhole table row
    by true same none =
        let wide : length table.columns ≡ length row = grind (arith, nat_tests) in
        record {
          wide = wide;
          fits = λ n c at.
              let is = column_is table n c at in
              ap (λ m. fits_value (is_key_column table m) c (value_at row n)) (sym (up n is.from_1)) ∙ none_at_fault table 1 table.columns row wide none (n - 1) c is.found;
        }
    by false same none = cc

-- by the columns that the table had
pub no_fault_then : (table : Table) (row : Row) → length row ≤ length table.columns → ValuesFit table row → row_fault (narrow (length row) table) row ≡ None
no_fault_then table row within fit =
    ap (λ b. if b then first_fault (narrow (length row) table) 1 (take (length row) table.columns) row else Some 0) (same (length (take (length row) table.columns)) (length-take-le (length row) table.columns within))
    ∙ faultless (narrow (length row) table) 1 (take (length row) table.columns) row
    (λ i c at.
    ap (λ j. fits_value (is_key_column table (1 + i)) c (unwrap_or (slice_get row j) Null)) (sym (back i))
    ∙ fit (1 + i) c (is_column table (1 + i) c (omega arith) (ap (slice_get table.columns) (back i) ∙ got_taken (length row) table.columns i c at)))
  where
    same : (n : ℕ) → n ≡ length row → (n == length row) ≡ true
    same n e = grind (arith, nat_tests)

-- ---- more columns

got_of_more : {A : Type 0} (xs ys : List A) (i : ℕ) (x : A) → slice_get (xs ++ ys) i ≡ Some x → i < length xs → slice_get xs i ≡ Some x
got_of_more [] ys i x at lt = absurd (omega arith)
got_of_more (a ∷ xs) ys zero x at lt = at
got_of_more (a ∷ xs) ys (suc i) x at lt = got_of_more xs ys i x at (omega arith)

-- a row is one of its table with more columns, each of which may be NULL and is none of the key's
pub row_of_wider : (t u : Table) (e : Key × Row) → IsWidenedTo t u → ((n : ℕ) (c : Column) → column_at u n ≡ Some c → length t.columns < n → (c.not_null ≡ false) × (is_key_column u n ≡ false)) → IsRowOf t e → IsRowOf u e
row_of_wider t u e grows new row = record {
  key_is = row.key_is ∙ (λ i. record { table = sym grows.number_is i; parts = map (value_at e.1) (sym grows.key_is i) });
  within = omega (arith, ap length grows.columns_are, length-append t.columns grows.more, row.within);
  fits = λ n c at. by n c at (nat_lt (n - 1) (length t.columns)) refl;
  proper = λ p at. row.proper p (sym grows.period_is ∙ at);
}
  where
    below : (a b : ℕ) → nat_lt a b ≡ true → a < b
    below a b e = grind (arith, nat_tests)

    not_below : (a b : ℕ) → nat_lt a b ≡ false → b ≤ a
    not_below a b e = grind (arith, nat_tests)

    by : (n : ℕ) (c : Column) → column_at u n ≡ Some c → (b : Bool) → nat_lt (n - 1) (length t.columns) ≡ b → fits_value (is_key_column u n) c (value_at e.1 n) ≡ true
    by n c at true lt =
        let is = column_is u n c at in
        ap (λ key. fits_value (is_key_column (record t { key = key }) n) c (value_at e.1 n)) grows.key_is
        ∙ row.fits n c (is_column t n c is.from_1 (got_of_more t.columns grows.more (n - 1) c (ap (λ (l : List Column). slice_get l (n - 1)) (sym grows.columns_are) ∙ is.found) (below (n - 1) (length t.columns) lt)))
    by n c at false ge =
        let is = column_is u n c at in
        let past : length t.columns ≤ n - 1 = not_below (n - 1) (length t.columns) ge in
        let none : value_at e.1 n ≡ Null = ap (λ (o : Option Value). unwrap_or o Null) (slice_get_past e.1 (n - 1) (omega (arith, past, row.within))) in
        let may = new n c at (omega (arith, past, is.from_1)) in
        (λ i. fits_value (may.1 i) c (none i)) ∙ ap (λ b. not (b || false)) may.0

-- ---- the comparisons of its key

-- columns of the key that the table had among its first ones
abbrev pub AreKeyColumns : Table → ℕ → List ℕ → Type 0
AreKeyColumns table k ns = Each (λ n. (1 ≤ n) × ((n ≤ k) × (is_key_column table n ≡ true))) ns

compared : (table : Table) (n : ℕ) (c : Column) (v : Value) → is_key_column table n ≡ true → fits_value (is_key_column table n) c v ≡ true → (is_key_column table n && can_compare c.of v) ≡ true
compared table n c v is fits = ap (λ b. b && can_compare c.of v) is ∙ by c.of v c.not_null (sym (ap (λ b. fits_value b c v) is) ∙ fits)
  where
    by : (of : ColumnType) (v : Value) (not_null : Bool) → fits_value true (record { name = c.name; of = of; not_null = not_null }) v ≡ true → can_compare of v ≡ true
    by of Null true fits = cc
    by of Null false fits = cc
    by IsInt (Int x) b fits = fits
    by IsInt (Text t) b fits = fits
    by IsInt (Truth x) b fits = fits
    by IsText (Int x) b fits = fits
    by IsText (Text t) b fits = fits
    by IsText (Truth x) b fits = fits
    by IsBoolean (Int x) b fits = fits
    by IsBoolean (Text t) b fits = fits
    by IsBoolean (Truth x) b fits = fits
    by (IsVarchar n) (Int x) b fits = cc
    by (IsVarchar n) (Text t) b fits = (and_parts (fits_text longest_key_text t) (nat_le (character_count t) n) fits).0
    by (IsVarchar n) (Truth x) b fits = cc

pub got : {A : Type 0} (xs : List A) (i : ℕ) → i < length xs → (x : A) × (slice_get xs i ≡ Some x)
got [] i lt = absurd (omega arith)
got (x ∷ xs) zero lt = (x, refl)
got (x ∷ xs) (suc i) lt = got xs i (omega arith)

pub comparisons_fit : (table : Table) (row : Row) (k : ℕ) (ns : List ℕ) → k ≤ length table.columns → ValuesFit table row → AreKeyColumns table k ns → comparisons_fault (narrow k table) (comparisons_of ns (map (value_at row) ns)) ≡ None
comparisons_fit table row k [] le fits are = refl
comparisons_fit table row k (n ∷ ns) le fits are =
    ap (λ (o : Option ℕ). let r : Option ℕ = first_of o (comparisons_fault (narrow k table) (comparisons_of ns (map (value_at row) ns))) in r)
    (ap (λ (o : Option Column). let r : Option ℕ = elim o [ None ↦ Some 0 | Some c ↦ if is_key_column table n && can_compare c.of (value_at row n) then None else Some n ] in r) here
    ∙ ap (λ b. let r : Option ℕ = if b then None else Some n in r) (compared table n found.0 (value_at row n) are.0.1.1 (fits n found.0 (is_column table n found.0 are.0.0 found.1))))
    ∙ comparisons_fit table row k ns le fits are.1
  where
    found : (c : Column) × (slice_get table.columns (n - 1) ≡ Some c)
    found = got table.columns (n - 1) (omega (arith, are.0.0, are.0.1.0, le))

    here : column_at (narrow k table) n ≡ Some found.0
    here = is_column (narrow k table) n found.0 are.0.0 (got_in_front k table.columns (n - 1) (omega (arith, are.0.0, are.0.1.0)) ∙ found.1)
