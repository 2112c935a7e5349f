-- Each write of a dump has a line that is read as it.
use Rattle.std.proofs.Common.{◌≡◌, ℕ, ◌+◌, ◌-◌, ◌<◌, ◌≤◌, suc, min, Bool, true, false, List, [], ◌∷◌, ◌++◌, Option, Some, None, refl, sym, ap, subst, ◌∙◌, arith, append-nil, length, length-take, lit≤}
use Rattle.std.specs.Prelude.{◌==◌, ◌&&◌, ◌||◌, not, if◌then◌else◌}
use Rattle.std.specs.List.{AllByRecursion, slice_get}
use Rattle.std.proofs.lemmas.Bool.{and_parts, ltb-false}
use Rattle.std.proofs.lemmas.Bool.Decides.{nat_tests}
use Rattle.std.proofs.lemmas.Str.{IsUtf8-nil}
use Rattle.values.specs.declared.key.Key.{Key}
use Rattle.values.specs.declared.period.Period.{Period}
use Rattle.values.specs.declared.query.Comparison.{Comparison}
use Rattle.values.specs.declared.query.Keys.{Keys}
use Rattle.values.specs.declared.query.Operator.TheVariants.{Equal}
use Rattle.values.specs.declared.query.Set.{Set}
use Rattle.values.specs.declared.refusal.Refusal.{Refusal}
use Rattle.values.specs.declared.refusal.Refusal.TheVariants.{NoTable}
use Rattle.values.specs.declared.table.Column.{Column}
use Rattle.values.specs.declared.table.ColumnType.{ColumnType}
use Rattle.values.specs.declared.table.ColumnType.TheVariants.{Int as IsInt}
use Rattle.values.specs.declared.table.Table.{Table}
use Rattle.values.specs.declared.value.Value.{Value}
use Rattle.values.specs.declared.value.Value.TheVariants.{Int, Text, Bool as Truth, Null}
use Rattle.values.specs.Faults.{bad_row}
use Rattle.values.specs.Fit.{can_compare, comparison_fault, comparisons_fault, first_fault, first_of, fits_type, fits_value, row_fault, rows_fault, set_fault, sets_fault, update_fault}
use Rattle.values.specs.Log.{Row}
use Rattle.values.specs.Tables.{Schema, column_at, ends_period, is_fixed_column, is_key_column, table_at}
use Rattle.values.specs.TableRules.{IsTable}
use Rattle.values.specs.Write.{has_bad_span, rows_refusal, span_refusal}
use Rattle.steps.specs.declared.step.Step.{Step}
use Rattle.steps.specs.declared.step.Step.TheVariants.{AddColumn, Begin, Commit, Delete, DeletePortion, Insert, Migrate, Rollback, Select, SplitKey, SplitTime, Update, UpdatePortion}
use Rattle.steps.specs.Misfit.{keys_refusal, misfit, misfit_of}
use Rattle.steps.proofs.MisfitKeys.{no_fault}
use Rattle.lines.specs.Partial.{longest_line}
use Rattle.statement.specs.Condition.{column_of, table_of}
use Rattle.statement.specs.GrammarLaw.{ArePlain, IsPlain}
use Rattle.statement.specs.Print.{line, value_text}
use Rattle.dump_steps.specs.Dump.{comparisons_of, keys_of, row_steps}
use Rattle.dump_steps.specs.Pieces.{cut_short, is_set_apart, settings, stand_in}
use Rattle.dumping.specs.DumpText.{column_name, delete_text, each_line, in_table, insert_text, is_long, step_text, update_text}
use Rattle.dump_reading.specs.Readable.{IsReadableName}
use Rattle.dump_reading.proofs.ReadableTables.{IsReadableTable, at_place, column_found, column_readable, cut, cut_apart, cut_column, got_in_front, named_by}
use Rattle.dump_reading.proofs.ReplayedPieces.{IsFoundColumn, IsReadablePair}
use Rattle.dump_reading.proofs.ReplayedLines.{delete_says, insert_says, update_says}
use Rattle.dump_reading.proofs.ReplayedLengths.{AreWithin, IsLineOf, IsShort, IsShortPair, Within, compared_short, delete_within, insert_within, more, name_within, short_insert_within, typed_short, update_within, value_within}

-- ---- what fits

none_of_both : {A : Type 0} (o p : Option A) → ◌≡◌ {A = Option A} (first_of o p) None → (o ≡ None) × (p ≡ None)
none_of_both None p is = (refl, is)
none_of_both (Some x) p is = cc

-- what fits the tables fits the table at its number
pub refusal_at : (now : Schema) (number : ℕ) (t : Table) (refusal : Table → Option Refusal) → table_at now number ≡ Some t → misfit_of now 1 number refusal ≡ None → refusal t ≡ None
refusal_at now number t refusal at fits =
    sym (ap (λ (o : Option Table). let r : Option Refusal = elim o [ None ↦ Some NoTable | Some t ↦ refusal t ] in r) at) ∙ fits

-- the column is there, and the value can be compared with it
record FitsColumn (table : Table) (c : Comparison) : Type 0 where
  column : Column
  at : column_at table c.column ≡ Some column
  compares : can_compare column.of c.value ≡ true

comparison_fits : (table : Table) (c : Comparison) → comparison_fault table c ≡ None → FitsColumn table c
comparison_fits table c is = by (column_at table c.column) refl is
  where
    both : (column : Column) (t : Bool) → (is_key_column table c.column && can_compare column.of c.value) ≡ t → ◌≡◌ {A = Option ℕ} (if t then None else Some c.column) None → can_compare column.of c.value ≡ true
    both column true all is = (and_parts (is_key_column table c.column) (can_compare column.of c.value) all).1
    both column false all is = cc

    by : (o : Option Column) → column_at table c.column ≡ o
        → ◌≡◌ {A = Option ℕ} (elim o [ None ↦ Some 0 | Some column ↦ if is_key_column table c.column && can_compare column.of c.value then None else Some c.column ]) None → FitsColumn table c
    by None at is = cc
    by (Some column) at is = record { column = column; at = at; compares = both column (is_key_column table c.column && can_compare column.of c.value) refl is }

-- the column is there, and the value fits it
record FitsSet (table : Table) (s : Set) : Type 0 where
  column : Column
  at : column_at table s.column ≡ Some column
  fits : fits_value false column s.value ≡ true

set_fits : (table : Table) (s : Set) → set_fault table [] s ≡ None → FitsSet table s
set_fits table s is = by (column_at table s.column) refl is
  where
    both : (column : Column) (t u : Bool) → fits_value false column s.value ≡ u → ◌≡◌ {A = Option ℕ} (if t then Some s.column else if u then None else Some s.column) None → fits_value false column s.value ≡ true
    both column true u at is = cc
    both column false true at is = at
    both column false false at is = cc

    by : (o : Option Column) → column_at table s.column ≡ o
        → ◌≡◌ {A = Option ℕ} (elim o [ None ↦ Some 0 | Some column ↦ if is_fixed_column table s.column then Some s.column else if fits_value false column s.value then None else Some s.column ]) None → FitsSet table s
    by None at is = cc
    by (Some column) at is = record { column = column; at = at; fits = both column (is_fixed_column table s.column) (fits_value false column s.value) refl is }

same_length : (m n : ℕ) → (m == n) ≡ true → m ≡ n
same_length m n is = grind (arith, nat_tests)

row_fits : (table : Table) (row : Row) → row_fault table row ≡ None → (length table.columns ≡ length row) × (first_fault table 1 table.columns row ≡ None)
row_fits table row is = by (length table.columns == length row) refl is
  where
    by : (t : Bool) → (length table.columns == length row) ≡ t → ◌≡◌ {A = Option ℕ} (if t then first_fault table 1 table.columns row else Some 0) None → (length table.columns ≡ length row) × (first_fault table 1 table.columns row ≡ None)
    by true same is = (same_length (length table.columns) (length row) same, is)
    by false same is = cc

one_row_fits : (table : Table) (row : Row) → rows_refusal table (row ∷ []) ≡ None → row_fault table row ≡ None
one_row_fits table row is =
    let columns = (none_of_both (bad_row (rows_fault table (row ∷ []))) (span_refusal (has_bad_span table.period (row ∷ []))) is).0 in
    (none_of_both (row_fault table row) None (no_fault (rows_fault table (row ∷ [])) columns)).0

-- ---- values are short

fitting_short : (in_key : Bool) (c : Column) (v : Value) → fits_value in_key c v ≡ true → IsShort 1000 v
fitting_short in_key c Null fits = tt
fitting_short in_key c (Int n) fits = tt
fitting_short in_key c (Truth t) fits = tt
fitting_short true c (Text t) fits = more 200 1000 t (lit≤ tt) (typed_short 200 c.of (Text t) fits)
fitting_short false c (Text t) fits = typed_short 1000 c.of (Text t) fits

-- the first of columns and values fit
one_fits : (table : Table) (n : ℕ) (c : Column) (cs : List Column) (v : Value) (vs : List Value) → first_fault table n (c ∷ cs) (v ∷ vs) ≡ None
    → (fits_value (is_key_column table n) c v ≡ true) × (first_fault table (n + 1) cs vs ≡ None)
one_fits table n c cs v vs is = by (fits_value (is_key_column table n) c v) is
  where
    by : (t : Bool) → ◌≡◌ {A = Option ℕ} (if t then first_fault table (n + 1) cs vs else Some n) None → (t ≡ true) × (first_fault table (n + 1) cs vs ≡ None)
    by true is = (refl, is)
    by false is = cc

row_within : (table : Table) (n : ℕ) (cs : List Column) (vs : List Value) → length cs ≡ length vs → first_fault table n cs vs ≡ None → ArePlain vs → AreWithin 2002 vs
row_within table n cs [] same fits plain = tt
row_within table n [] (v ∷ vs) same fits plain = absurd (omega (arith, same))
row_within table n (c ∷ cs) (v ∷ vs) same fits plain =
    let one = one_fits table n c cs v vs fits in
    (value_within 1000 v (lit≤ tt) plain.0 (fitting_short (is_key_column table n) c v one.0), row_within table (n + 1) cs vs (omega (arith, same)) one.1 plain.1)

-- ---- a row with stand-ins

module _ (table : Table) where
  stand_in_plain : (o : Option Column) → IsPlain (stand_in o)
  stand_in_plain None = tt
  stand_in_plain (Some column) = by column.not_null
    where
      by : (t : Bool) → IsPlain (if t then Text [] else Null)
      by true = IsUtf8-nil
      by false = tt

  stand_in_within : (o : Option Column) → Within 402 (value_text (stand_in o))
  stand_in_within None = record { short = lit≤ tt; unbroken = refl }
  stand_in_within (Some column) = by column.not_null
    where
      by : (t : Bool) → Within 402 (value_text (if t then Text [] else Null))
      by true = record { short = lit≤ tt; unbroken = refl }
      by false = record { short = lit≤ tt; unbroken = refl }

  abbrev stood : ℕ → Value → Bool → Value
  stood n v apart = if apart then stand_in (column_at table n) else v

  stood_plain : (n : ℕ) (v : Value) (t : Bool) → IsPlain v → IsPlain (stood n v t)
  stood_plain n v true plain = stand_in_plain (column_at table n)
  stood_plain n v false plain = plain

  pub short_plain : (n : ℕ) (row : Row) → ArePlain row → ArePlain (cut_short table n row)
  short_plain n [] plain = tt
  short_plain n (v ∷ row) plain = (stood_plain n v (is_set_apart table n v) plain.0, short_plain (n + 1) row plain.1)

  pub length-cut_short : (n : ℕ) (row : Row) → length (cut_short table n row) ≡ length row
  length-cut_short n [] = refl
  length-cut_short n (v ∷ row) = ap suc (length-cut_short (n + 1) row)

  -- the end of the table's period is a whole number
  ends_whole : (n : ℕ) (c : Column) → IsTable table.number table → ends_period table.period n ≡ true → column_at table n ≡ Some c → c.of ≡ IsInt
  ends_whole n c good ends at = by table.period refl ends
    where
      same_number : (a : ℕ) → (a == n) ≡ true → n ≡ a
      same_number a is = grind (arith, nat_tests)

      by : (o : Option Period) → table.period ≡ o → ends_period o n ≡ true → c.of ≡ IsInt
      by None is ends = cc
      by (Some p) is ends = (((good.own_period p is).end_instants) c (subst (λ m. column_at table m ≡ Some c) (same_number p.to ends) at)).whole

  stood_within : (n : ℕ) (c : Column) (v : Value) → IsTable table.number table → column_at table n ≡ Some c → IsPlain v
      → fits_value (is_key_column table n) c (stood n v (is_set_apart table n v)) ≡ true → Within 402 (value_text (stood n v (is_set_apart table n v)))
  stood_within n c (Int z) good at plain fits = value_within 200 (Int z) (lit≤ tt) plain tt
  stood_within n c (Truth t) good at plain fits = value_within 200 (Truth t) (lit≤ tt) plain tt
  stood_within n c Null good at plain fits = value_within 200 Null (lit≤ tt) plain tt
  stood_within n c (Text x) good at plain fits = by (is_key_column table n) (ends_period table.period n) refl fits
    where
      no_text : (of : ColumnType) (most : ℕ) → of ≡ IsInt → fits_type most of (Text x) ≡ true → ⊥
      no_text of most whole fits = let never : fits_type most IsInt (Text x) ≡ true = subst (λ o. fits_type most o (Text x) ≡ true) whole fits in cc

      by : (key ends : Bool) → ends_period table.period n ≡ ends → fits_value key c (stood n (Text x) (not (key || ends))) ≡ true → Within 402 (value_text (stood n (Text x) (not (key || ends))))
      by true ends is fits = value_within 200 (Text x) (lit≤ tt) plain (typed_short 200 c.of (Text x) fits)
      by false true is fits = absurd (no_text c.of 1000 (ends_whole n c good is at) fits)
      by false false is fits = stand_in_within (column_at table n)

  short_within : (k n : ℕ) (cs : List Column) (row : Row) → IsTable table.number table → ((i : ℕ) (c : Column) → slice_get cs i ≡ Some c → column_at table (n + i) ≡ Some c)
      → length cs ≡ length row → first_fault (cut k table) n cs (cut_short table n row) ≡ None → ArePlain row → AreWithin 402 (cut_short table n row)
  short_within k n cs [] good place same fits plain = tt
  short_within k n [] (v ∷ row) good place same fits plain = absurd (omega (arith, same))
  short_within k n (c ∷ cs) (v ∷ row) good place same fits plain =
      let one = one_fits (cut k table) n c cs (stood n v (is_set_apart table n v)) (cut_short table (n + 1) row) fits in
      let here : n + 0 ≡ n = omega arith in (
        stood_within n c v good (subst (λ m. column_at table m ≡ Some c) here (place 0 c refl)) plain.0 one.0,
        short_within k (n + 1) cs row good (λ i d at. let e : n + suc i ≡ (n + 1) + i = omega arith in subst (λ m. column_at table m ≡ Some d) e (place (suc i) d at))
            (omega (arith, same)) one.1 plain.1,
      )

-- ---- steps whose lines are read

-- it neither begins nor ends a transaction, and adds no column
abbrev pub IsWrite : Step → Type 0
IsWrite (Insert i number rows) = Unit {0}
IsWrite (Update i keys sets) = Unit {0}
IsWrite (Delete i keys) = Unit {0}
IsWrite (UpdatePortion i keys cut sets) = ⊥
IsWrite (DeletePortion i keys cut) = ⊥
IsWrite (Begin i) = ⊥
IsWrite (Select i form keys) = ⊥
IsWrite (Commit i reading) = ⊥
IsWrite (Rollback i) = ⊥
IsWrite (AddColumn i number name of) = ⊥
IsWrite (SplitKey key) = ⊥
IsWrite (SplitTime key instant) = ⊥
IsWrite Migrate = ⊥

-- by the tables now the line is read as the write, where that fits
pub record IsReadableWrite (last now : Schema) (step : Step) : Type 0 where
  pub writes : IsWrite step
  pub reads : misfit now step ≡ None → (reading : ℕ) → IsLineOf now reading step (step_text last step)

abbrev pub AreReadableWrites : (last now : Schema) → List Step → Type 0
AreReadableWrites last now steps = AllByRecursion (IsReadableWrite last now) steps

pub writes_joined : (last now : Schema) (a b : List Step) → AreReadableWrites last now a → AreReadableWrites last now b → AreReadableWrites last now (a ++ b)
writes_joined last now [] b f g = g
writes_joined last now (step ∷ a) b f g = (f.0, writes_joined last now a b f.1 g)

-- the table is there with the first of its columns, and is found by its name
pub record IsKnown (now : Schema) (table : Table) : Type 0 where
  pub width : ℕ
  pub some : 1 ≤ width
  pub at : table_at now table.number ≡ Some (cut width table)
  pub named : table_of now table.name ≡ table.number

-- comparisons with plain values
abbrev pub IsPlainPair : Comparison → Type 0
IsPlainPair c = (c.operator ≡ Equal) × IsPlain c.value

module _ (last now : Schema) (table : Table) (at_last : table_at last table.number ≡ Some table) (readable : IsReadableTable table.number table) (known : IsKnown now table) where
  abbrev here : Table
  here = cut known.width table

  fits_here : (refusal : Table → Option Refusal) → misfit_of now 1 table.number refusal ≡ None → refusal here ≡ None
  fits_here refusal fits = refusal_at now table.number here refusal known.at fits

  column_known : (n : ℕ) (c : Column) → column_at here n ≡ Some c → IsFoundColumn now table.number (column_name table n) n
  column_known n c at =
      let there : column_at table n ≡ Some c = cut_column known.width table n c at in
      let name : column_name table n ≡ c.name = named_by table n c there in
      record {
        good = subst IsReadableName (sym name) (column_readable table n c readable.names.0 there);
        found = ap (column_of now table.number) name ∙ column_found now table.number here n c known.at (cut_apart known.width table readable.names.1) at;
      }

  pair_known : (c : Comparison) → FitsColumn here c → IsPlainPair c → IsReadablePair now table c × IsShortPair table readable.own c
  pair_known c fits plain =
      let column = column_known c.column fits.column fits.at in (
        record { column = column; equal = plain.0; plain = plain.1 },
        record { named = name_within (column_name table c.column) column.good; valued = value_within 200 c.value (lit≤ tt) plain.1 (compared_short (fits.column).of c.value fits.compares) },
      )

  pairs_known : (cs : List Comparison) → comparisons_fault here cs ≡ None → AllByRecursion IsPlainPair cs → AllByRecursion (IsReadablePair now table) cs × AllByRecursion (IsShortPair table readable.own) cs
  pairs_known [] fits plain = (tt, tt)
  pairs_known (c ∷ cs) fits plain =
      let parts = none_of_both (comparison_fault here c) (comparisons_fault here cs) fits in
      let one = pair_known c (comparison_fits here c parts.0) plain.0 in
      let others = pairs_known cs parts.1 plain.1 in
      ((one.0, others.0), (one.1, others.1))

  -- the step's lines are those of its table
  of_table : (text : Table → List ℕ) → in_table last table.number text ≡ text table
  of_table text = ap (λ (o : Option Table). elim o as (λ _. List ℕ) [ None ↦ [] | Some t ↦ text t ]) at_last

  -- ---- DELETE and UPDATE by a key

  module _ (keys : Keys) (of : keys.table ≡ table.number) (few : length keys.comparisons ≤ 4) (plain : AllByRecursion IsPlainPair keys.comparisons) where
    pub delete_reads : misfit now (Delete 1 keys) ≡ None → (reading : ℕ) → IsLineOf now reading (Delete 1 keys) (step_text last (Delete 1 keys))
    delete_reads fits reading =
        let faultless = no_fault (comparisons_fault here keys.comparisons) (fits_here (keys_refusal keys) (subst (λ n. misfit_of now 1 n (keys_refusal keys) ≡ None) of fits)) in
        let pairs = pairs_known keys.comparisons faultless plain in
        record {
          body = delete_text table keys;
          text_is = ap (λ n. in_table last n (λ t. line (delete_text t keys))) of ∙ of_table (λ t. line (delete_text t keys));
          within = delete_within table readable.own keys few pairs.1;
          says = delete_says now table readable.own known.named reading keys of pairs.0 fits;
        }

    pub update_reads : (s : Set) → IsPlain s.value → misfit now (Update 1 keys (s ∷ [])) ≡ None → (reading : ℕ) → IsLineOf now reading (Update 1 keys (s ∷ [])) (step_text last (Update 1 keys (s ∷ [])))
    update_reads s value fits reading =
        let refusal : Table → Option Refusal = λ t. bad_row (update_fault t keys (s ∷ [])) in
        let faultless = no_fault (update_fault here keys (s ∷ [])) (fits_here refusal (subst (λ n. misfit_of now 1 n refusal ≡ None) of fits)) in
        let parts = none_of_both (sets_fault here [] (s ∷ [])) (comparisons_fault here keys.comparisons) faultless in
        let pairs = pairs_known keys.comparisons parts.1 plain in
        let set = set_fits here s (none_of_both (set_fault here [] s) None parts.0).0 in
        let column = column_known s.column set.column set.at in
        let text : Table → List ℕ = λ t. each_line (update_text t keys) (s ∷ []) in
        record {
          body = update_text table keys s;
          text_is = ap (λ n. in_table last n text) of ∙ of_table text ∙ append-nil (line (update_text table keys s));
          within = update_within table readable.own keys s few pairs.1 (name_within (column_name table s.column) column.good)
              (value_within 1000 s.value (lit≤ tt) value (fitting_short false set.column s.value set.fits));
          says = update_says now table readable.own known.named reading keys s of pairs.0 column value fits;
        }

  -- ---- INSERT of a row

  insert_reads : (row : Row) → ArePlain row → (row_fault here row ≡ None → Within longest_line (insert_text table row))
      → misfit now (Insert 1 table.number (row ∷ [])) ≡ None → (reading : ℕ) → IsLineOf now reading (Insert 1 table.number (row ∷ [])) (step_text last (Insert 1 table.number (row ∷ [])))
  insert_reads row plain within fits reading =
      let faultless = one_row_fits here row (fits_here (λ t. rows_refusal t (row ∷ [])) fits) in
      let wide = (row_fits here row faultless).0 in
      let some : 0 < length row = has_values (length row) (length table.columns) known.width (sym wide ∙ length-take known.width table.columns) known.some readable.good.some_columns in
      let text : Table → List ℕ = λ t. each_line (insert_text t) (row ∷ []) in
      record {
        body = insert_text table row;
        text_is = of_table text ∙ append-nil (line (insert_text table row));
        within = within faultless;
        says = insert_says now table readable.own known.named reading here row some plain known.at faultless fits;
      }
    where
      has_values : (n m k : ℕ) → n ≡ min k m → 1 ≤ k → 1 ≤ m → 0 < n
      has_values n m k is some has = omega (arith, is, some, has)

  few_values : (row : Row) → row_fault here row ≡ None → length row ≤ 16
  few_values row fits = at_most (length row) (length table.columns) known.width (sym (row_fits here row fits).0 ∙ length-take known.width table.columns) readable.good.few_columns
    where
      at_most : (n m k : ℕ) → n ≡ min k m → m ≤ 16 → n ≤ 16
      at_most n m k is few = omega (arith, is, few)

  -- a row whose line is short enough
  pub whole_reads : (row : Row) → ArePlain row → is_long table row ≡ false
      → misfit now (Insert 1 table.number (row ∷ [])) ≡ None → (reading : ℕ) → IsLineOf now reading (Insert 1 table.number (row ∷ [])) (step_text last (Insert 1 table.number (row ∷ [])))
  whole_reads row plain short =
      insert_reads row plain (λ fits. short_insert_within table readable.own 2002 row
      (row_within here 1 here.columns row (row_fits here row fits).0 (row_fits here row fits).1 plain)
      (ltb-false longest_line (length (insert_text table row)) short))

  -- a row with stand-ins
  pub short_reads : (row : Row) → ArePlain row
      → misfit now (Insert 1 table.number (cut_short table 1 row ∷ [])) ≡ None → (reading : ℕ)
      → IsLineOf now reading (Insert 1 table.number (cut_short table 1 row ∷ [])) (step_text last (Insert 1 table.number (cut_short table 1 row ∷ [])))
  short_reads row plain =
      insert_reads (cut_short table 1 row) (short_plain table 1 row plain) (λ fits. insert_within table readable.own (cut_short table 1 row) (few_values (cut_short table 1 row) fits)
      (short_within table known.width 1 here.columns row readable.good place
      ((row_fits here (cut_short table 1 row) fits).0 ∙ length-cut_short table 1 row)
      (row_fits here (cut_short table 1 row) fits).1 plain))
    where
      place : (i : ℕ) (c : Column) → slice_get here.columns i ≡ Some c → column_at table (1 + i) ≡ Some c
      place i c at =
          let back : (1 + i) - 1 ≡ i = omega arith in
          at_place table.columns (1 + i) c (let some : ((1 + i) == 0) ≡ false = grind (arith, nat_tests) in some)
          (ap (slice_get table.columns) back ∙ got_in_front known.width i table.columns c at)

  -- ---- the writes of a key's row

  module _ (key : Key) (key_plain : ArePlain key.parts) where
    compared_plain : (columns : List ℕ) (values : List Value) → ArePlain values → AllByRecursion IsPlainPair (comparisons_of columns values)
    compared_plain [] values plain = tt
    compared_plain (c ∷ columns) [] plain = tt
    compared_plain (c ∷ columns) (v ∷ values) plain = ((refl, plain.0), compared_plain columns values plain.1)

    few_compared : (columns : List ℕ) (values : List Value) → length (comparisons_of columns values) ≤ length columns
    few_compared [] values = omega arith
    few_compared (c ∷ columns) [] = omega arith
    few_compared (c ∷ columns) (v ∷ values) = let rest = few_compared columns values in omega (arith, rest)

    abbrev keys : Keys
    keys = keys_of table key

    few : length keys.comparisons ≤ 4
    few = let all = few_compared table.key key.parts in let own = readable.good.few_key_columns in omega (arith, all, own)

    plain_pairs : AllByRecursion IsPlainPair keys.comparisons
    plain_pairs = compared_plain table.key key.parts key_plain

    pub deleted : IsReadableWrite last now (Delete 1 keys)
    deleted = record { writes = tt; reads = delete_reads keys refl few plain_pairs }

    set_apart : (n : ℕ) (v : Value) (t : Bool) → IsPlain v → AreReadableWrites last now (if t then Update 1 keys (record { column = n; value = v } ∷ []) ∷ [] else [])
    set_apart n v true plain = (record { writes = tt; reads = update_reads keys refl few plain_pairs (record { column = n; value = v }) plain }, tt)
    set_apart n v false plain = tt

    all_set : (n : ℕ) (row : Row) → ArePlain row → AreReadableWrites last now (settings table keys n row)
    all_set n [] plain = tt
    all_set n (v ∷ row) plain =
        writes_joined last now (if is_set_apart table n v then Update 1 keys (record { column = n; value = v } ∷ []) ∷ [] else []) (settings table keys (n + 1) row)
        (set_apart n v (is_set_apart table n v) plain.0) (all_set (n + 1) row plain.1)

    pub inserted : (row : Row) → ArePlain row → AreReadableWrites last now (row_steps last is_long table key row)
    inserted row plain = by (is_long table row) refl
      where
        by : (t : Bool) → is_long table row ≡ t
            → AreReadableWrites last now (if t then Insert 1 table.number (cut_short table 1 row ∷ []) ∷ settings table keys 1 row else Insert 1 table.number (row ∷ []) ∷ [])
        by true is = (record { writes = tt; reads = short_reads row plain }, all_set 1 row plain)
        by false is = (record { writes = tt; reads = whole_reads row plain is }, tt)
