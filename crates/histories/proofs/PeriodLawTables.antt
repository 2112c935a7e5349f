-- The tables stay good ones, and a row's key is the same by the first tables and by the tables now.
use Rattle.std.proofs.Common.{◌≡◌, ℕ, ◌+◌, ◌-◌, ◌<◌, zero, suc, Bool, true, false, List, [], ◌∷◌, Option, Some, None, IfSome, refl, sym, ap, subst, ◌∙◌, arith, append-nil, length, map}
use Rattle.std.specs.Prelude.{if◌then◌else◌, ◌==◌, ◌||◌, nat_lt, not, option_and_then}
use Rattle.std.specs.List.{slice_get}
use Rattle.std.proofs.lemmas.Bool.Decides.{nat_tests}
use Rattle.values.specs.declared.period.Period.{Period}
use Rattle.values.specs.declared.key.Key.{Key}
use Rattle.values.specs.declared.table.ColumnType.{ColumnType}
use Rattle.values.specs.declared.table.Table.{Table}
use Rattle.values.specs.declared.refusal.Refusal.{Refusal}
use Rattle.values.specs.declared.refusal.Refusal.TheVariants.{NoSession, NoTable}
use Rattle.values.specs.Log.{State, Row}
use Rattle.values.specs.Faults.{bad_row}
use Rattle.values.specs.Columns.{is_name_of, is_good_type, new_column, addition_fault}
use Rattle.values.specs.WiderTable.{IsWidenedTo}
use Rattle.values.specs.Tables.{Schema, table_at, value_at, widest}
use Rattle.values.specs.TableRules.{IsTable, AreTables}
use Rattle.values.specs.Writes.{key_of}
use Rattle.values.specs.Period.{Periods, periods_of}
use Rattle.values.proofs.ColumnsTables.{added_are_tables}
use Rattle.steps.specs.declared.step.Step.TheVariants.{AddColumn}
use Rattle.steps.specs.Idle.{is_idle}
use Rattle.steps.specs.Misfit.{max_session, misfit, misfit_of}
use Rattle.steps.proofs.MisfitKeys.{no_fault}
use Rattle.periods.specs.NoOverlap.{IsKeyed, IsKeyedIn, AreKeyed}
use Rattle.periods.proofs.NoOverlapColumns.{each_to}
use Rattle.periods.proofs.NoOverlapPieces.{the_table}
use Rattle.periods.proofs.NoOverlapStatements.{IsSound, IsOneOf}
use Rattle.histories.specs.History.{History, has_open, schema_after}
use Rattle.histories.proofs.HistoryOwn.{schema_step}
use Rattle.histories.proofs.HistoryTables.{tables_only_grow, periods_stay}

-- ---- good tables

-- the reason of what fits, at the table that is there
pub table_fits : (now : Schema) (i number : ℕ) (refusal : Table → Option Refusal) → misfit_of now i number refusal ≡ None → (table : Table) → table_at now number ≡ Some table → refusal table ≡ None
table_fits now i number refusal fits table at = by (nat_lt max_session i) fits
  where
    by : (b : Bool) → ◌≡◌ {A = Option Refusal} (if b then Some NoSession else elim (table_at now number) [ None ↦ Some NoTable | Some table ↦ refusal table ]) None → refusal table ≡ None
    by true e = cc
    by false e = sym (ap (λ (o : Option Table). let r : Option Refusal = elim o [ None ↦ Some NoTable | Some table ↦ refusal table ] in r) at) ∙ e

has_room : (name : List ℕ) (of : ColumnType) (table : Table) → addition_fault name of table ≡ None → length table.columns < widest
has_room name of table e = by (is_name_of table name) (nat_lt (length table.columns) widest) (is_good_type of) refl e
  where
    by : (a b c : Bool) → nat_lt (length table.columns) widest ≡ b → ◌≡◌ {A = Option ℕ} (if a || (not b || not c) then Some 0 else None) None → length table.columns < widest
    by true b c is e = cc
    by false false c is e = cc
    by false true c is e = grind (arith, nat_tests)

room : (now : Schema) (i number : ℕ) (name : List ℕ) (of : ColumnType) → misfit now (AddColumn i number name of) ≡ None → IfSome (table_at now number) (λ t. length t.columns < widest)
room now i number name of fits = by (table_at now number) refl
  where
    by : (o : Option Table) → table_at now number ≡ o → IfSome o (λ t. length t.columns < widest)
    by None at = tt
    by (Some t) at = has_room name of t (no_fault (addition_fault name of t) (table_fits now i number (λ table. bad_row (addition_fault name of table)) fits t at))

-- the tables that come of good ones are such
pub tables_are : (first : Schema) (h : History) → AreTables 1 first.tables → AreTables 1 (schema_after first h).tables
tables_are first [] good = good
tables_are first (step ∷ h) good =
    let before = tables_are first h good in
    schema_step (λ s. AreTables 1 s.tables) (schema_after first h) (is_idle (has_open h)) step before
    (λ i number name of fits idle. added_are_tables (schema_after first h) number (new_column name of) (room (schema_after first h) i number name of fits) before)

at_place : (ts : List Table) (n i : ℕ) (t : Table) → AreTables n ts → slice_get ts i ≡ Some t → IsTable (n + i) t
at_place [] n i t good at = cc
at_place (x ∷ ts) n zero t good at = let same : x ≡ t = cc in subst (λ m. IsTable m t) (omega arith) (subst (IsTable n) same good.0)
at_place (x ∷ ts) n (suc i) t good at = let e : (n + 1) + i ≡ n + suc i = omega arith in subst (λ m. IsTable m t) e (at_place ts (n + 1) i t good.1 at)

is_table : (now : Schema) (number : ℕ) (t : Table) → AreTables 1 now.tables → table_at now number ≡ Some t → IsTable number t
is_table now number t good at = by (number == 0) refl at
  where
    one_up : (number == 0) ≡ false → 1 + (number - 1) ≡ number
    one_up e = grind (arith, nat_tests)

    by : (b : Bool) → (number == 0) ≡ b → ◌≡◌ {A = Option Table} (if b then None else slice_get now.tables (number - 1)) (Some t) → IsTable number t
    by true e at = cc
    by false e at = subst (λ m. IsTable m t) (one_up e) (at_place now.tables 1 (number - 1) t good at)

-- a table of a number
pub record IsAt (now : Schema) (number : ℕ) (t : Table) : Type 0 where
  pub numbered : t.number ≡ number
  pub is : IsOneOf (table_at now) (periods_of now) t

pub is_at : (now : Schema) (number : ℕ) (t : Table) → AreTables 1 now.tables → table_at now number ≡ Some t → IsAt now number t
is_at now number t good at = record {
  numbered = table.numbered;
  is = record {
    found = found;
    period_is = ap (option_and_then (λ t. t.period)) found;
    has = table.own_period;
  };
}
  where
    table : IsTable number t
    table = is_table now number t good at

    found : table_at now t.number ≡ Some t
    found = ap (table_at now) table.numbered ∙ at

-- ---- rows by the first tables, and by the tables now

keyed_alike : (t u : Table) (p : Period) (e : Key × Row) → t.number ≡ u.number → t.key ≡ u.key → IsKeyed t p e → IsKeyed u p e
keyed_alike t u p e number key is = record {
  key_is = is.key_is ∙ same;
  start_within = is.start_within;
  end_within = is.end_within;
  proper = is.proper;
}
  where
    same : key_of t e.1 ≡ key_of u e.1
    same = λ i. record { table = number i; parts = map (value_at e.1) (key i) }

module _ (first : Schema) (h : History) where
  abbrev now : Schema
  now = schema_after first h

  grown : (number : ℕ) (t : Table) → table_at first number ≡ Some t → (wider : Table) × ((table_at now number ≡ Some wider) × IsWidenedTo t wider)
  grown number t at =
      subst (λ (g : History). (wider : Table) × ((table_at (schema_after first g) number ≡ Some wider) × IsWidenedTo t wider)) (append-nil h)
      (tables_only_grow first [] h number t at)

  with_period : (o : Option Table) (p : Period) → option_and_then (λ t. t.period) o ≡ Some p → (t : Table) × (o ≡ Some t)
  with_period None p e = cc
  with_period (Some t) p e = (t, refl)

  keyed_now : (m : State) → AreKeyed (table_at first) (periods_of first) m → AreKeyed (table_at now) (periods_of first) m
  keyed_now m keyed =
      each_to (IsKeyedIn (table_at first) (periods_of first)) (IsKeyedIn (table_at now) (periods_of first))
      (λ e is wider p found at.
      let t = with_period (table_at first e.0.table) p at in
      let later = grown e.0.table t.0 t.1 in
      let same : later.0 ≡ wider = the_table later.0 wider (sym later.1.0 ∙ found) in
      keyed_alike t.0 wider p e (sym later.1.1.number_is ∙ ap (λ (t : Table). t.number) same) (sym later.1.1.key_is ∙ ap (λ (t : Table). t.key) same) (is t.0 p t.1 at))
      m keyed

  keyed_first : (m : State) → AreKeyed (table_at now) (periods_of first) m → AreKeyed (table_at first) (periods_of first) m
  keyed_first m keyed =
      each_to (IsKeyedIn (table_at now) (periods_of first)) (IsKeyedIn (table_at first) (periods_of first))
      (λ e is t p found at.
      let later = grown e.0.table t found in
      keyed_alike later.0 t p e later.1.1.number_is later.1.1.key_is (is later.0 p later.1.0 at))
      m keyed

  pub sound_now : (m : State) → IsSound (table_at first) (periods_of first) m → IsSound (table_at now) (periods_of now) m
  sound_now m sound =
      subst (λ (periods : Periods). IsSound (table_at now) periods m) (sym (periods_stay first h))
      (record { apart = sound.apart; keyed = keyed_now m sound.keyed })

  pub sound_first : (m : State) → IsSound (table_at now) (periods_of now) m → IsSound (table_at first) (periods_of first) m
  sound_first m sound =
      let here = subst (λ (periods : Periods). IsSound (table_at now) periods m) (periods_stay first h) sound in
      record { apart = here.apart; keyed = keyed_first m here.keyed }
