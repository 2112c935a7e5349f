-- A row with stand-ins for its texts: it fits, and has the key and the span of the row.
use Rattle.std.proofs.Common.{◌≡◌, ℕ, ◌+◌, ◌-◌, ◌≤◌, zero, suc, Bool, true, false, ◌||◌, List, [], ◌∷◌, ◌++◌, Option, Some, None, refl, sym, ap, ◌∙◌, arith, not, length, nat_le}
use Rattle.std.specs.Prelude.{◌==◌, if◌then◌else◌}
use Rattle.std.proofs.lemmas.Bool.Decides.{nat_tests}
use Rattle.std.specs.List.{slice_get, list_any}
use Rattle.std.specs.Option.{option_map, unwrap_or}
use Rattle.values.specs.declared.period.Period.{Period}
use Rattle.values.specs.declared.value.Value.{Value}
use Rattle.values.specs.declared.value.Value.TheVariants.{Int, Text, Bool as Truth, Null}
use Rattle.values.specs.declared.table.Column.{Column}
use Rattle.values.specs.declared.table.ColumnType.{ColumnType}
use Rattle.values.specs.declared.table.ColumnType.TheVariants.{Int as IsInt, Text as IsText, Varchar as IsVarchar, Boolean as IsBoolean}
use Rattle.values.specs.declared.table.Table.{Table}
use Rattle.values.specs.Log.{Row}
use Rattle.values.specs.Each.{Each}
use Rattle.values.specs.Fit.{fits_value}
use Rattle.values.specs.Period.{int_of, span_of}
use Rattle.values.specs.TableRules.{HasPeriod}
use Rattle.values.specs.Tables.{column_at, is_fixed_column, is_key_column, ends_period, value_at, but_last}
use Rattle.values.specs.Writes.{key_of}
use Rattle.periods.proofs.NoOverlapColumns.{same_values}
use Rattle.dump_steps.specs.Pieces.{cut_short, is_set_apart, stand_in}
use Rattle.dump_steps.proofs.DumpRows.{ValuesFit, column_is}

module _ (table : Table) where
  abbrev pub cut_value : ℕ → Value → Value
  cut_value n v = if is_set_apart table n v then stand_in (column_at table n) else v

  pub length-cut : (column : ℕ) (row : Row) → length (cut_short table column row) ≡ length row
  length-cut column [] = refl
  length-cut column (v ∷ row) = ap suc (length-cut (column + 1) row)

  -- ---- columns that no statement sets

  never_apart : (n : ℕ) (v : Value) → is_fixed_column table n ≡ true → is_set_apart table n v ≡ false
  never_apart n (Text text) fixed = ap not fixed
  never_apart n (Int x) fixed = refl
  never_apart n (Truth x) fixed = refl
  never_apart n Null fixed = refl

  next : (column i : ℕ) → (column + 1) + i ≡ column + suc i
  next column i = omega arith

  same_place : (n : ℕ) → n + 0 ≡ n
  same_place n = omega arith

  kept_behind : (column : ℕ) (row : Row) (i : ℕ) → is_fixed_column table (column + i) ≡ true → slice_get (cut_short table column row) i ≡ slice_get row i
  kept_behind column [] i fixed = refl
  kept_behind column (v ∷ row) zero fixed =
      ap (λ b. Some (if b then stand_in (column_at table column) else v)) (never_apart column v (ap (is_fixed_column table) (sym (same_place column)) ∙ fixed))
  kept_behind column (v ∷ row) (suc i) fixed = kept_behind (column + 1) row i (ap (is_fixed_column table) (next column i) ∙ fixed)

  -- behind values that are as they are
  kept : (front row : Row) (i : ℕ) → is_fixed_column table (1 + i) ≡ true → slice_get (front ++ cut_short table (1 + length front) row) i ≡ slice_get (front ++ row) i
  kept front row i fixed = by [] front i fixed
    where
      by : (before front : Row) (i : ℕ) → is_fixed_column table ((1 + length before) + i) ≡ true → slice_get (front ++ cut_short table ((1 + length before) + length front) row) i ≡ slice_get (front ++ row) i
      by before [] i fixed =
          ap (λ n. slice_get (cut_short table n row) i) (same_place (1 + length before)) ∙ kept_behind (1 + length before) row i fixed
      by before (v ∷ front) zero fixed = refl
      by before (v ∷ front) (suc i) fixed =
          ap (λ n. slice_get (front ++ cut_short table n row) i) (sym (next (1 + length before) (length front)) ∙ ap (λ n. n + length front) (one_more (length before)))
          ∙ by (v ∷ before) front i (ap (λ n. is_fixed_column table (n + i)) (sym (one_more (length before))) ∙ ap (is_fixed_column table) (next (1 + length before) i) ∙ fixed)
        where
          one_more : (n : ℕ) → (1 + n) + 1 ≡ 1 + suc n
          one_more n = omega arith

  up : (n : ℕ) → 1 ≤ n → 1 + (n - 1) ≡ n
  up n some = omega arith

  pub value_kept : (front row : Row) (n : ℕ) → 1 ≤ n → is_fixed_column table n ≡ true → value_at (front ++ cut_short table (1 + length front) row) n ≡ value_at (front ++ row) n
  value_kept front row n some fixed = ap (λ (o : Option Value). unwrap_or o Null) (kept front row (n - 1) (ap (is_fixed_column table) (up n some) ∙ fixed))

  -- ---- the key and the span

  abbrev pub AreKeyNumbers : List ℕ → Type 0
  AreKeyNumbers ns = Each (λ n. (1 ≤ n) × (is_key_column table n ≡ true)) ns

  key_fixed : (n : ℕ) → is_key_column table n ≡ true → is_fixed_column table n ≡ true
  key_fixed n is = ap (λ b. b || ends_period table.period n) is

  values_kept : (front row : Row) (ns : List ℕ) → AreKeyNumbers ns → Each (λ n. value_at (front ++ cut_short table (1 + length front) row) n ≡ value_at (front ++ row) n) ns
  values_kept front row [] are = tt
  values_kept front row (n ∷ ns) are = (value_kept front row n are.0.0 (key_fixed n are.0.1), values_kept front row ns are.1)

  pub key_kept : (front row : Row) → AreKeyNumbers table.key → key_of table (front ++ cut_short table (1 + length front) row) ≡ key_of table (front ++ row)
  key_kept front row are =
      λ i. record { table = table.number; parts = same_values (value_at (front ++ cut_short table (1 + length front) row)) (value_at (front ++ row)) table.key (values_kept front row table.key are) i }

  last_in : (ns : List ℕ) (n : ℕ) → list_any (λ k. k == n) (ns ++ n ∷ []) ≡ true
  last_in [] n = ap (λ b. b || false) (let same : (n == n) ≡ true = grind (arith, nat_tests) in same)
  last_in (k ∷ ns) n = by (k == n) (list_any (λ k. k == n) (ns ++ n ∷ [])) (last_in ns n)
    where
      by : (a b : Bool) → b ≡ true → (a || b) ≡ true
      by true b e = refl
      by false b e = e

  pub start_fixed : (p : Period) → HasPeriod table p → is_fixed_column table p.from ≡ true
  start_fixed p has = key_fixed p.from (ap (list_any (λ k. k == p.from)) has.start_last ∙ last_in (but_last table.key) p.from)

  pub end_fixed : (p : Period) → table.period ≡ Some p → is_fixed_column table p.to ≡ true
  end_fixed p is = (λ i. is_key_column table p.to || ends_period (is i) p.to) ∙ by (is_key_column table p.to) (let same : (p.to == p.to) ≡ true = grind (arith, nat_tests) in same)
    where
      by : (a : Bool) {b : Bool} → b ≡ true → (a || b) ≡ true
      by true e = refl
      by false e = e

  pub span_kept : (p : Period) (row : Row) → table.period ≡ Some p → HasPeriod table p → span_of p (cut_short table 1 row) ≡ span_of p row
  span_kept p row is has =
      λ i. record {
        from = int_of (value_kept [] row p.from has.start.from_1 (start_fixed p has) i);
        to = int_of (value_kept [] row p.to has.end.from_1 (end_fixed p is) i);
      }

  -- ---- the values

  got_cut : (column : ℕ) (row : Row) (i : ℕ) → slice_get (cut_short table column row) i ≡ option_map (cut_value (column + i)) (slice_get row i)
  got_cut column [] i = refl
  got_cut column (v ∷ row) zero = ap (λ n. Some (cut_value n v)) (sym (same_place column))
  got_cut column (v ∷ row) (suc i) = got_cut (column + 1) row i ∙ ap (λ n. option_map (cut_value n) (slice_get row i)) (next column i)

  stands : (c : Column) (text : List ℕ) → fits_value false c (Text text) ≡ true → fits_value false c (stand_in (Some c)) ≡ true
  stands c text fits = by c.of c.not_null fits
    where
      by : (of : ColumnType) (not_null : Bool) → fits_value false (record { name = c.name; of = of; not_null = not_null }) (Text text) ≡ true
          → fits_value false (record { name = c.name; of = of; not_null = not_null }) (if not_null then Text [] else Null) ≡ true
      by of false fits = refl
      by IsInt true fits = cc
      by IsText true fits = refl
      by (IsVarchar m) true fits = let least : nat_le 0 m ≡ true = grind (arith, nat_tests) in least
      by IsBoolean true fits = cc

  cut_fits : (n : ℕ) (c : Column) (v : Value) → column_at table n ≡ Some c → fits_value (is_key_column table n) c v ≡ true → fits_value (is_key_column table n) c (cut_value n v) ≡ true
  cut_fits n c (Int x) at fits = fits
  cut_fits n c (Truth x) at fits = fits
  cut_fits n c Null at fits = fits
  cut_fits n c (Text text) at fits = by (is_key_column table n) (ends_period table.period n) fits
    where
      by : (key end : Bool) → fits_value key c (Text text) ≡ true → fits_value key c (if not (key || end) then stand_in (column_at table n) else Text text) ≡ true
      by true end fits = fits
      by false true fits = fits
      by false false fits = ap (λ o. fits_value false c (stand_in o)) at ∙ stands c text fits

  pub cut_values_fit : (row : Row) → ValuesFit table row → ValuesFit table (cut_short table 1 row)
  cut_values_fit row fits n c at =
      let is = column_is table n c at in
      ap (λ o. fits_value (is_key_column table n) c (unwrap_or o Null)) (got_cut 1 row (n - 1) ∙ ap (λ m. option_map (cut_value m) (slice_get row (n - 1))) (up n is.from_1))
      ∙ by (slice_get row (n - 1)) (fits n c at)
    where
      by : (o : Option Value) → fits_value (is_key_column table n) c (unwrap_or o Null) ≡ true → fits_value (is_key_column table n) c (unwrap_or (option_map (cut_value n) o) Null) ≡ true
      by None fit = fit
      by (Some v) fit = cut_fits n c v at fit

  -- ---- the texts that are set

  negated : (b : Bool) → not b ≡ true → b ≡ false
  negated true e = cc
  negated false e = refl

  pub set_apart : (n : ℕ) (v : Value) → is_set_apart table n v ≡ true → is_fixed_column table n ≡ false
  set_apart n (Text text) e = negated (is_fixed_column table n) e
  set_apart n (Int x) e = cc
  set_apart n (Truth x) e = cc
  set_apart n Null e = cc

  or_first : (a b : Bool) → (a || b) ≡ false → a ≡ false
  or_first true b e = e
  or_first false b e = refl

  pub free_fits : (n : ℕ) (c : Column) (v : Value) → is_fixed_column table n ≡ false → fits_value (is_key_column table n) c v ≡ true → fits_value false c v ≡ true
  free_fits n c v free fits = ap (λ b. fits_value b c v) (sym (or_first (is_key_column table n) (ends_period table.period n) free)) ∙ fits
