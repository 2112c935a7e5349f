-- What a write that fits its table has: rows with spans, columns that may be set, a span that is one.
use Rattle.std.proofs.Common.{◌≡◌, ◌≢◌, ℕ, ◌≤◌, ◌-◌, Bool, true, false, List, [], ◌∷◌, ◌++◌, Option, Some, None, refl, sym, ap, subst, ◌∙◌, arith, not, length}
use Rattle.std.specs.Prelude.{if◌then◌else◌, ◌==◌}
use Rattle.std.specs.List.{list_any, slice_get}
use Rattle.std.specs.Option.{ForSome}
use Rattle.std.proofs.lemmas.Bool.Decides.{nat_tests}
use Rattle.values.specs.declared.period.Period.{Period}
use Rattle.values.specs.declared.period.Span.{Span}
use Rattle.values.specs.declared.table.Column.{Column}
use Rattle.values.specs.declared.table.Table.{Table}
use Rattle.values.specs.declared.query.Keys.{Keys}
use Rattle.values.specs.declared.query.Set.{Set}
use Rattle.values.specs.declared.refusal.Refusal.{Refusal}
use Rattle.values.specs.declared.refusal.Refusal.TheVariants.{BadRow}
use Rattle.values.specs.Log.{Row}
use Rattle.values.specs.Each.{Each}
use Rattle.values.specs.Faults.{bad_row}
use Rattle.values.specs.Fit.{fits_value, first_fault, row_fault, rows_fault, set_fault, sets_fault, comparisons_fault, update_fault, first_of}
use Rattle.values.specs.Tables.{column_at, is_fixed_column, ends_period, but_last}
use Rattle.values.specs.TableRules.{HasPeriod}
use Rattle.values.specs.Period.{span_of, is_span}
use Rattle.values.specs.Write.{has_bad_span, span_refusal, rows_refusal, portion_refusal}
use Rattle.steps.proofs.MisfitKeys.{no_fault}
use Rattle.periods.specs.NoOverlap.{IsSettable, SetsKeep}
use Rattle.periods.proofs.NoOverlapApart.{or_first, or_second}
use Rattle.periods.proofs.NoOverlapStatements.{IsWideFor}

none_first : {A : Type 0} (a b : Option A) → first_of a b ≡ None → (a ≡ None) × (b ≡ None)
none_first None b e = (refl, e)
none_first (Some x) b e = cc

no_bad_span : (is_bad : Bool) → span_refusal is_bad ≡ None → is_bad ≡ false
no_bad_span true e = cc
no_bad_span false e = refl

negated : (b : Bool) → not b ≡ false → b ≡ true
negated true e = refl
negated false e = cc

-- ---- rows

row_width : (table : Table) (row : Row) → row_fault table row ≡ None → length table.columns ≡ length row
row_width table row e = by (length table.columns == length row) refl e
  where
    by : (b : Bool) → (length table.columns == length row) ≡ b → ◌≡◌ {A = Option ℕ} (if b then first_fault table 1 table.columns row else Some 0) None → length table.columns ≡ length row
    by true same e = grind (arith, nat_tests)
    by false same e = cc

both_none : (a b : Option ℕ) → ◌≡◌ {A = Option ℕ} (first_of a b) None → (a ≡ None) × (b ≡ None)
both_none None b e = (refl, e)
both_none (Some n) b e = cc

rows_wide : (table : Table) (p : Period) (rows : List Row) → HasPeriod table p → rows_fault table rows ≡ None → list_any (λ row. not (is_span (span_of p row))) rows ≡ false → Each (IsWideFor p) rows
rows_wide table p [] has fits spans = tt
rows_wide table p (row ∷ rows) has fits spans =
    let parts = both_none (row_fault table row) (rows_fault table rows) fits in
    let same : length table.columns ≡ length row = row_width table row parts.0 in (
      record {
        start_within = subst (λ n. p.from ≤ n) same has.start.within;
        end_within = subst (λ n. p.to ≤ n) same has.end.within;
        proper = negated (is_span (span_of p row)) (or_first (not (is_span (span_of p row))) _ spans);
      },
      rows_wide table p rows has parts.1 (or_second (not (is_span (span_of p row))) _ spans),
    )

pub rows_fit : (table : Table) (rows : List Row) → ForSome table.period (HasPeriod table) → rows_refusal table rows ≡ None → ForSome table.period (λ p. Each (IsWideFor p) rows)
rows_fit table rows has fits = λ p is.
    let parts = none_first (bad_row (rows_fault table rows)) (span_refusal (has_bad_span table.period rows)) fits in
    rows_wide table p rows (has p is) (no_fault (rows_fault table rows) parts.0)
    (sym (ap (λ (q : Option Period). has_bad_span q rows) is) ∙ no_bad_span (has_bad_span table.period rows) parts.1)

-- ---- new values

each_last : {A : Type 0} (P : A → Type 0) (xs : List A) (x : A) → Each P (xs ++ x ∷ []) → P x
each_last P [] x e = e.0
each_last P (y ∷ xs) x e = each_last P xs x e.1

none_is : (ks : List ℕ) (n : ℕ) → list_any (λ k. k == n) ks ≡ false → Each (λ k. n ≢ k) ks
none_is [] n e = tt
none_is (k ∷ ks) n e = (other k (or_first (k == n) _ e), none_is ks n (or_second (k == n) _ e))
  where
    other : (k : ℕ) → (k == n) ≡ false → n ≢ k
    other k e = grind (arith, nat_tests)

from_1 : (table : Table) (n : ℕ) (c : Column) → column_at table n ≡ Some c → 1 ≤ n
from_1 table n c at = by (n == 0) refl at
  where
    by : (b : Bool) → (n == 0) ≡ b → ◌≡◌ {A = Option Column} (if b then None else slice_get table.columns (n - 1)) (Some c) → 1 ≤ n
    by true e at = cc
    by false e at = grind (arith, nat_tests)

not_end : (m n : ℕ) → (m == n) ≡ false → n ≢ m
not_end m n e = grind (arith, nat_tests)

free : (a b : Bool) (n : ℕ) (rest : Option ℕ) → ◌≡◌ {A = Option ℕ} (if a then Some 0 else if b then Some n else rest) None → b ≡ false
free true b n rest e = cc
free false true n rest e = cc
free false false n rest e = refl

module _ (table : Table) (p : Period) (is : table.period ≡ Some p) (has : HasPeriod table p) where
  settable : (s : Set) (c : Column) → column_at table s.column ≡ Some c → is_fixed_column table s.column ≡ false → IsSettable table p s
  settable s c at other =
      let keys : Each (λ column. s.column ≢ column) table.key = none_is table.key s.column (or_first (list_any (λ k. k == s.column) table.key) _ other) in
      let end : ends_period table.period s.column ≡ false = or_second (list_any (λ k. k == s.column) table.key) _ other in
      record {
        outside = record {
          from_1 = from_1 table s.column c at;
          no_start = each_last (λ column. s.column ≢ column) (but_last table.key) p.from (subst (Each (λ column. s.column ≢ column)) has.start_last keys);
          no_end = not_end p.to s.column (sym (ap (λ (q : Option Period). ends_period q s.column) is) ∙ end);
        };
        no_key = keys;
      }

  set_fits : (earlier : List Set) (s : Set) → set_fault table earlier s ≡ None → IsSettable table p s
  set_fits earlier s e = by (column_at table s.column) refl e
    where
      by : (o : Option Column) → column_at table s.column ≡ o
          → ◌≡◌ {A = Option ℕ} (elim o [
            | None ↦ Some 0
            | Some column ↦
                if list_any (λ e. e.column == s.column) earlier then Some 0
                else if is_fixed_column table s.column then Some s.column
                else if fits_value false column s.value then None
                else Some s.column
          ]) None → IsSettable table p s
      by None at e = cc
      by (Some c) at e = settable s c at (free (list_any (λ e. e.column == s.column) earlier) (is_fixed_column table s.column) s.column (if fits_value false c s.value then None else Some s.column) e)

  pub sets_keep : (earlier sets : List Set) → sets_fault table earlier sets ≡ None → Each (IsSettable table p) sets
  sets_keep earlier [] e = tt
  sets_keep earlier (s ∷ sets) e =
      let parts = both_none (set_fault table earlier s) (sets_fault table (earlier ++ s ∷ []) sets) e in
      (set_fits earlier s parts.0, sets_keep (earlier ++ s ∷ []) sets parts.1)

pub sets_fit : (table : Table) (keys : Keys) (sets : List Set) → ForSome table.period (HasPeriod table) → update_fault table keys sets ≡ None → ForSome table.period (λ p. Each (IsSettable table p) sets)
sets_fit table keys sets has fits = λ p is. sets_keep table p is (has p is) [] sets (none_first (sets_fault table [] sets) (comparisons_fault table keys.comparisons) fits).0

-- ---- portions

pub portion_fits : (table : Table) (p : Period) (cut : Span) (fault : Option ℕ) → table.period ≡ Some p → portion_refusal table cut fault ≡ None → (fault ≡ None) × (is_span cut ≡ true)
portion_fits table p cut fault is fits =
    let parts = none_first (bad_row fault) (span_refusal (not (is_span cut)))
    (sym (ap (λ (q : Option Period). let r : Option Refusal = elim q [ None ↦ Some (BadRow 0) | Some p ↦ first_of (bad_row fault) (span_refusal (not (is_span cut))) ] in r) is) ∙ fits) in
    (no_fault fault parts.0, negated (is_span cut) (no_bad_span (not (is_span cut)) parts.1))

pub updated_portion_fits : (table : Table) (keys : Keys) (cut : Span) (sets : List Set) → ForSome table.period (HasPeriod table) → portion_refusal table cut (update_fault table keys sets) ≡ None
    → ForSome table.period (λ p. (is_span cut ≡ true) × SetsKeep table p (Some sets))
updated_portion_fits table keys cut sets has fits = λ p is.
    let parts = portion_fits table p cut (update_fault table keys sets) is fits in
    (parts.1, sets_fit table keys sets has parts.0 p is)

pub deleted_portion_fits : (table : Table) (keys : Keys) (cut : Span) → portion_refusal table cut (comparisons_fault table keys.comparisons) ≡ None
    → ForSome table.period (λ p. (is_span cut ≡ true) × SetsKeep table p None)
deleted_portion_fits table keys cut fits = λ p is. ((portion_fits table p cut (comparisons_fault table keys.comparisons) is fits).1, tt)
