-- What statements make of a row of a table is a row of it.
use Rattle.std.proofs.Common.{◌≡◌, ◌≢◌, ℕ, ℤ, ◌-◌, ◌≤◌, ◌<◌, Bool, true, false, List, [], ◌∷◌, ◌++◌, Option, Some, None, refl, sym, ap, subst, ◌∙◌, arith, not, length, length-append, replicate}
use Rattle.std.specs.Prelude.{◌==◌, if◌then◌else◌, slice_set}
use Rattle.std.proofs.Math.ListN.{length-set}
use Rattle.std.proofs.lemmas.Bool.Decides.{nat_tests}
use Rattle.std.proofs.lemmas.List.{length-replicate}
use Rattle.std.proofs.lemmas.Option.{slice_get_within}
use Rattle.std.specs.List.{list_any}
use Rattle.std.specs.Option.{ForSome}
use Rattle.values.specs.declared.key.Key.{Key}
use Rattle.values.specs.declared.period.Period.{Period}
use Rattle.values.specs.declared.period.Span.{Span}
use Rattle.values.specs.declared.query.Set.{Set}
use Rattle.values.specs.declared.table.Column.{Column}
use Rattle.values.specs.declared.table.ColumnType.TheVariants.{Int as IsInt}
use Rattle.values.specs.declared.table.Table.{Table}
use Rattle.values.specs.declared.value.Value.{Value}
use Rattle.values.specs.declared.value.Value.TheVariants.{Int, Null}
use Rattle.values.specs.Each.{Each}
use Rattle.values.specs.Faults.{bad_row}
use Rattle.values.specs.Fit.{first_of, fits_value, row_fault, rows_fault, set_fault, sets_fault}
use Rattle.values.specs.Log.{Row}
use Rattle.values.specs.Period.{int_of, is_span, span_of, with_span}
use Rattle.values.specs.Portion.{with_start}
use Rattle.values.specs.TableRules.{HasPeriod}
use Rattle.values.specs.Tables.{column_at, full_row, is_fixed_column, is_key_column, value_at}
use Rattle.values.specs.Write.{has_bad_span, rows_refusal, span_refusal}
use Rattle.values.specs.Writes.{key_of, set_all}
use Rattle.steps.proofs.MisfitKeys.{no_fault}
use Rattle.periods.proofs.NoOverlapApart.{or_first, or_second}
use Rattle.periods.proofs.NoOverlapColumns.{same_values, span_with_span, value_set_other, value_set_same, width_with_span}
use Rattle.periods.proofs.NoOverlapFull.{key_full, span_full, value_full}
use Rattle.periods.proofs.NoOverlapPieces.{the_period}
use Rattle.periods.proofs.NoOverlapPortion.{with_start_is}
use Rattle.dump_steps.proofs.DumpRows.{AreKeyColumns, IsRowOf, ValuesFit, column_is, row_fits}
use Rattle.dump_steps.proofs.PiecesRows.{end_fixed, start_fixed}

-- a row of the table, with a value for each of its columns
pub record IsFullRow (t : Table) (k : Key) (row : Row) : Type 0 where
  pub row_is : IsRowOf t (k, row)
  pub wide : length row ≡ length t.columns

-- ---- NULL in the columns that it lacks

pub full_of : (t : Table) (k : Key) (row : Row) → IsRowOf t (k, row) → IsFullRow t k (full_row t row)
full_of t k row is = record {
  row_is = record {
    key_is = is.key_is ∙ sym (key_full t t row);
    within = omega (arith, wide);
    fits = λ n c at. ap (fits_value (is_key_column t n) c) (value_full t row n) ∙ is.fits n c at;
    proper = λ p at. ap is_span (span_full t p row) ∙ is.proper p at;
  };
  wide = wide;
}
  where
    wide : length (full_row t row) ≡ length t.columns
    wide = omega (arith, length-append row (replicate (length t.columns - length row) Null), length-replicate (length t.columns - length row) Null, is.within)

-- ---- one value more

pub value_fits : (t : Table) (row : Row) (n : ℕ) (v : Value) → 1 ≤ n → length row ≡ length t.columns → ((c : Column) → column_at t n ≡ Some c → fits_value (is_key_column t n) c v ≡ true) → ValuesFit t row → ValuesFit t (slice_set row (n - 1) v)
value_fits t row n v some wide fit fits m c at = by (m == n) refl
  where
    same_number : (a b : ℕ) → (a == b) ≡ true → a ≡ b
    same_number a b e = grind (arith, nat_tests)

    other_number : (a b : ℕ) → (a == b) ≡ false → a ≢ b
    other_number a b e = grind (arith, nat_tests)

    by : (b : Bool) → (m == n) ≡ b → fits_value (is_key_column t m) c (value_at (slice_set row (n - 1) v) m) ≡ true
    by true e =
        let is = column_is t m c at in
        let same : m ≡ n = same_number m n e in
        let inside : m - 1 < length t.columns = slice_get_within t.columns (m - 1) c is.found in
        (λ i. fits_value (is_key_column t (same i)) c (value_at (slice_set row (n - 1) v) (same i)))
        ∙ ap (fits_value (is_key_column t n) c) (value_set_same row n v some (omega arith))
        ∙ fit c (ap (column_at t) (sym same) ∙ at)
    by false e =
        ap (fits_value (is_key_column t m) c) (value_set_other row n m v some (let is = column_is t m c at in is.from_1) (other_number m n e)) ∙ fits m c at

-- ---- what an UPDATE sets

pub record IsSet (t : Table) (s : Set) : Type 0 where
  pub column : Column
  pub at : column_at t s.column ≡ Some column
  pub free : is_fixed_column t s.column ≡ false
  pub fits : fits_value false column s.value ≡ true

pub both_none : {A : Type 0} (a b : Option A) → first_of a b ≡ None → (a ≡ None) × (b ≡ None)
both_none None b e = (refl, e)
both_none (Some x) b e = cc

is_set : (t : Table) (earlier : List Set) (s : Set) → set_fault t earlier s ≡ None → IsSet t s
is_set t earlier s none = by (column_at t s.column) refl none
  where
    at_column : (c : Column) → column_at t s.column ≡ Some c → (a b d : Bool) → is_fixed_column t s.column ≡ b → fits_value false c s.value ≡ d
        → ◌≡◌ {A = Option ℕ} (if a then Some 0 else if b then Some s.column else if d then None else Some s.column) None → IsSet t s
    at_column c at true b d free fits none = cc
    at_column c at false true d free fits none = cc
    at_column c at false false true free fits none = record { column = c; at = at; free = free; fits = fits }
    at_column c at false false false free fits none = cc

    by : (o : Option Column) → column_at t s.column ≡ o
        → ◌≡◌ {A = Option ℕ} (elim o [
          | None ↦ Some 0
          | Some column ↦
              if list_any (λ e. e.column == s.column) earlier then Some 0
              else if is_fixed_column t s.column then Some s.column
              else if fits_value false column s.value then None
              else Some s.column
        ]) None → IsSet t s
    by None at none = cc
    by (Some c) at none = at_column c at (list_any (λ e. e.column == s.column) earlier) (is_fixed_column t s.column) (fits_value false c s.value) refl refl none

pub are_sets : (t : Table) (earlier sets : List Set) → sets_fault t earlier sets ≡ None → Each (IsSet t) sets
are_sets t earlier [] none = tt
are_sets t earlier (s ∷ sets) none =
    let parts = both_none (set_fault t earlier s) (sets_fault t (earlier ++ s ∷ []) sets) none in
    (is_set t earlier s parts.0, are_sets t (earlier ++ s ∷ []) sets parts.1)

clash : (b : Bool) → b ≡ true → b ≡ false → ⊥
clash true e f = cc
clash false e f = cc

module _ (t : Table) (columns : AreKeyColumns t (length t.columns) t.key) (has : ForSome t.period (HasPeriod t)) where
  one_set : (k : Key) (row : Row) (s : Set) → IsFullRow t k row → IsSet t s → IsFullRow t k (slice_set row (s.column - 1) s.value)
  one_set k row s full is = record {
    row_is = record {
      key_is = full.row_is.key_is ∙ (λ i. record { table = t.number; parts = same_values (value_at row) (value_at (slice_set row (s.column - 1) s.value)) t.key (kept t.key columns) i });
      within = subst (λ n. n ≤ length t.columns) (sym (length-set row (s.column - 1) s.value)) full.row_is.within;
      fits = value_fits t row s.column s.value some full.wide (λ c at. ap (λ b. fits_value b c s.value) (or_first (is_key_column t s.column) _ is.free) ∙ ap (λ c. fits_value false c s.value) (the_column c is.column (sym at ∙ is.at)) ∙ is.fits) full.row_is.fits;
      proper = λ p at. ap is_span (span p at) ∙ full.row_is.proper p at;
    };
    wide = length-set row (s.column - 1) s.value ∙ full.wide;
  }
    where
      the_column : (c d : Column) → ◌≡◌ {A = Option Column} (Some c) (Some d) → c ≡ d
      the_column c d e = cc

      some : 1 ≤ s.column
      some = let at = column_is t s.column is.column is.at in at.from_1

      other : (n : ℕ) → is_key_column t n ≡ true → n ≢ s.column
      other n key same = clash (is_key_column t n) key (ap (is_key_column t) same ∙ or_first (is_key_column t s.column) _ is.free)

      kept : (ns : List ℕ) → AreKeyColumns t (length t.columns) ns → Each (λ n. value_at row n ≡ value_at (slice_set row (s.column - 1) s.value) n) ns
      kept [] are = tt
      kept (n ∷ ns) are = (sym (value_set_other row s.column n s.value some are.0.0 (other n are.0.1.1)), kept ns are.1)

      fixed_other : (n : ℕ) → is_fixed_column t n ≡ true → n ≢ s.column
      fixed_other n fixed same = clash (is_fixed_column t n) fixed (ap (is_fixed_column t) same ∙ is.free)

      span : (p : Period) → t.period ≡ Some p → span_of p (slice_set row (s.column - 1) s.value) ≡ span_of p row
      span p at = λ i. record {
        from = int_of (value_set_other row s.column p.from s.value some (has p at).start.from_1 (fixed_other p.from (start_fixed t p (has p at))) i);
        to = int_of (value_set_other row s.column p.to s.value some (has p at).end.from_1 (fixed_other p.to (end_fixed t p at)) i);
      }

  pub all_set : (k : Key) (sets : List Set) (row : Row) → IsFullRow t k row → Each (IsSet t) sets → IsFullRow t k (set_all sets row)
  all_set k [] row full are = full
  all_set k (s ∷ sets) row full are = all_set k sets (slice_set row (s.column - 1) s.value) (one_set k row s full are.0) are.1

  -- ---- a piece of it, for a span

  whole_fits : (b : Bool) (c : Column) (z : ℤ) → c.of ≡ IsInt → fits_value b c (Int z) ≡ true
  whole_fits b c z whole = ap (λ of. fits_value b (record { name = c.name; of = of; not_null = c.not_null }) (Int z)) whole

  pub piece_of : (k : Key) (row : Row) (p : Period) (s : Span) → t.period ≡ Some p → is_span s ≡ true → IsFullRow t k row → IsFullRow t (with_start k s.from) (with_span p s row)
  piece_of k row p s at proper full = record {
    row_is = record {
      key_is = with_start_is t p s row k good start_in full.row_is.key_is;
      within = subst (λ n. n ≤ length t.columns) (sym (width_with_span p s row)) full.row_is.within;
      fits =
          value_fits t (slice_set row (p.from - 1) (Int s.from)) p.to (Int s.to) good.end.from_1 (length-set row (p.from - 1) (Int s.from) ∙ full.wide)
          (λ c is. whole_fits (is_key_column t p.to) c s.to (good.end_instants c is).whole)
          (value_fits t row p.from (Int s.from) good.start.from_1 full.wide (λ c is. whole_fits (is_key_column t p.from) c s.from (good.start_instants c is).whole) full.row_is.fits);
      proper = λ q is. ap (λ (q : Period). is_span (span_of q (with_span p s row))) (the_period q p (sym is ∙ at)) ∙ ap is_span (span_with_span t p s row good start_in end_in) ∙ proper;
    };
    wide = width_with_span p s row ∙ full.wide;
  }
    where
      good : HasPeriod t p
      good = has p at

      start_in : p.from ≤ length row
      start_in = subst (λ n. p.from ≤ n) (sym full.wide) good.start.within

      end_in : p.to ≤ length row
      end_in = subst (λ n. p.to ≤ n) (sym full.wide) good.end.within

-- ---- rows that are inserted

no_bad_span : (is_bad : Bool) → span_refusal is_bad ≡ None → is_bad ≡ false
no_bad_span true e = cc
no_bad_span false e = refl

negated : (b : Bool) → not b ≡ false → b ≡ true
negated true e = refl
negated false e = cc

pub full_rows : (t : Table) (rows : List Row) → rows_fault t rows ≡ None → ForSome t.period (λ p. list_any (λ row. not (is_span (span_of p row))) rows ≡ false) → Each (λ row. IsFullRow t (key_of t row) row) rows
full_rows t [] none spans = tt
full_rows t (row ∷ rows) none spans =
    let parts = both_none (row_fault t row) (rows_fault t rows) none in
    let fit = row_fits t row parts.0 in (
      record {
        row_is = record {
          key_is = refl;
          within = omega (arith, fit.wide);
          fits = fit.fits;
          proper = λ p at. negated (is_span (span_of p row)) (or_first (not (is_span (span_of p row))) _ (spans p at));
        };
        wide = sym fit.wide;
      },
      full_rows t rows parts.1 (λ p at. or_second (not (is_span (span_of p row))) _ (spans p at)),
    )

pub inserted_rows : (t : Table) (rows : List Row) → rows_refusal t rows ≡ None → Each (λ row. IsFullRow t (key_of t row) row) rows
inserted_rows t rows none =
    let parts = both_none (bad_row (rows_fault t rows)) (span_refusal (has_bad_span t.period rows)) none in
    full_rows t rows (no_fault (rows_fault t rows) parts.0)
    (λ p at. sym (ap (λ (q : Option Period). has_bad_span q rows) at) ∙ no_bad_span (has_bad_span t.period rows) parts.1)
