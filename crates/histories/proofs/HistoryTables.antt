-- A table stays at its number, and only gets columns.
use Rattle.std.proofs.Common.{◌≡◌, ℕ, zero, suc, ◌-◌, Bool, true, false, List, [], ◌∷◌, ◌++◌, Option, Some, None, refl, sym, ap, subst, ◌∙◌, append-nil, append_assoc}
use Rattle.std.specs.Prelude.{◌==◌, ◌&&◌, if◌then◌else◌, slice_set, is_none, option_and_then}
use Rattle.std.specs.List.{slice_get}
use Rattle.values.specs.declared.period.Period.{Period}
use Rattle.values.specs.declared.table.Column.{Column}
use Rattle.values.specs.declared.table.Table.{Table}
use Rattle.values.specs.Tables.{Schema, table_at}
use Rattle.values.specs.Period.{periods_of}
use Rattle.values.specs.Columns.{new_column, with_column, add_column}
use Rattle.values.specs.WiderTable.{IsWidenedTo}
use Rattle.values.proofs.ColumnsTables.{added_by}
use Rattle.steps.specs.declared.step.Step.{Step}
use Rattle.steps.specs.declared.step.Step.TheVariants.{Begin, Insert, Update, Delete, UpdatePortion, DeletePortion, Select, Commit, Rollback, AddColumn, SplitKey, SplitTime, Migrate}
use Rattle.steps.specs.Idle.{is_idle}
use Rattle.steps.specs.Misfit.{misfit}
use Rattle.histories.specs.History.{History, has_open, schema_by, schema_after}
use Rattle.histories.specs.Law.{TablesOnlyGrow}

-- ---- wider tables

as_it_was : (t : Table) → IsWidenedTo t t
as_it_was t = record { number_is = refl; key_is = refl; period_is = refl; more = []; columns_are = sym (append-nil t.columns) }

with_one : (c : Column) (t : Table) → IsWidenedTo t (with_column c t)
with_one c t = record { number_is = refl; key_is = refl; period_is = refl; more = c ∷ []; columns_are = refl }

by_and_by : (t u v : Table) → IsWidenedTo t u → IsWidenedTo u v → IsWidenedTo t v
by_and_by t u v f g = record {
  number_is = g.number_is ∙ f.number_is;
  key_is = g.key_is ∙ f.key_is;
  period_is = g.period_is ∙ f.period_is;
  more = f.more ++ g.more;
  columns_are = g.columns_are ∙ ap (λ columns. columns ++ g.more) f.columns_are ∙ append_assoc t.columns f.more g.more;
}

-- ---- a step

abbrev Grows : Option Table → Table → Type 0
Grows o t = (wider : Table) × ((o ≡ Some wider) × IsWidenedTo t wider)

stays : (o : Option Table) (t : Table) → o ≡ Some t → Grows o t
stays o t at = (t, (at, as_it_was t))

in_place : (ts : List Table) (i j : ℕ) (c : Column) (t x : Table) → slice_get ts i ≡ Some t → slice_get ts j ≡ Some x → Grows (slice_get (slice_set ts i (with_column c t)) j) x
in_place [] i j c t x at is = cc
in_place (a ∷ ts) zero zero c t x at is =
    let same : t ≡ x = cc in (with_column c t, (refl, subst (λ y. IsWidenedTo y (with_column c t)) same (with_one c t)))
in_place (a ∷ ts) zero (suc j) c t x at is = stays (slice_get ts j) x is
in_place (a ∷ ts) (suc i) zero c t x at is = stays (Some a) x is
in_place (a ∷ ts) (suc i) (suc j) c t x at is = in_place ts i j c t x at is

at_place : (b : Bool) (ts : List Table) (i : ℕ) (x : Table) → ◌≡◌ {A = Option Table} (if b then None else slice_get ts i) (Some x) → (b ≡ false) × (slice_get ts i ≡ Some x)
at_place true ts i x is = cc
at_place false ts i x is = (refl, is)

added : (now : Schema) (number : ℕ) (c : Column) (k : ℕ) (x : Table) → table_at now k ≡ Some x → Grows (table_at (add_column number c now) k) x
added now number c k x at = by (table_at now number) refl
  where
    by : (o : Option Table) → table_at now number ≡ o → Grows (table_at (added_by now number c o) k) x
    by None is = stays (table_at now k) x at
    by (Some t) is =
        let there = at_place (k == 0) now.tables (k - 1) x at in
        subst (λ b. Grows (if b then None else slice_get (slice_set now.tables (number - 1) (with_column c t)) (k - 1)) x) (sym there.0)
        (in_place now.tables (number - 1) (k - 1) c t x (at_place (number == 0) now.tables (number - 1) t is).1 there.1)

where_it_fits : (b : Bool) (now : Schema) (number : ℕ) (c : Column) (k : ℕ) (x : Table) → table_at now k ≡ Some x → Grows (table_at (if b then add_column number c now else now) k) x
where_it_fits true now number c k x at = added now number c k x at
where_it_fits false now number c k x at = stays (table_at now k) x at

by_step : (now : Schema) (idle : Bool) (step : Step) (k : ℕ) (x : Table) → table_at now k ≡ Some x → Grows (table_at (schema_by now idle step) k) x
by_step now idle (AddColumn i number name of) k x at = where_it_fits (is_none (misfit now (AddColumn i number name of)) && idle) now number (new_column name of) k x at
by_step now idle (Begin i) k x at = stays (table_at now k) x at
by_step now idle (Insert i number rows) k x at = stays (table_at now k) x at
by_step now idle (Update i keys sets) k x at = stays (table_at now k) x at
by_step now idle (Delete i keys) k x at = stays (table_at now k) x at
by_step now idle (UpdatePortion i keys cut sets) k x at = stays (table_at now k) x at
by_step now idle (DeletePortion i keys cut) k x at = stays (table_at now k) x at
by_step now idle (Select i form keys) k x at = stays (table_at now k) x at
by_step now idle (Commit i reading) k x at = stays (table_at now k) x at
by_step now idle (Rollback i) k x at = stays (table_at now k) x at
by_step now idle (SplitKey key) k x at = stays (table_at now k) x at
by_step now idle (SplitTime key instant) k x at = stays (table_at now k) x at
by_step now idle Migrate k x at = stays (table_at now k) x at

-- ---- steps

pub tables_only_grow : (first : Schema) → TablesOnlyGrow first
tables_only_grow first h [] number table at = stays (table_at (schema_after first h) number) table at
tables_only_grow first h (step ∷ later) number table at =
    let before = tables_only_grow first h later number table at in
    let after = by_step (schema_after first (later ++ h)) (is_idle (has_open (later ++ h))) step number before.0 before.1.0 in
    (after.0, (after.1.0, by_and_by table before.0 after.0 before.1.1 after.1.1))

-- ---- periods

abbrev period_at : List Table → ℕ → Option Period
period_at ts i = option_and_then (λ t. t.period) (slice_get ts i)

period_in_place : (ts : List Table) (i j : ℕ) (c : Column) (t : Table) → slice_get ts i ≡ Some t → period_at (slice_set ts i (with_column c t)) j ≡ period_at ts j
period_in_place [] i j c t at = cc
period_in_place (a ∷ ts) zero zero c t at = let same : t ≡ a = cc in ap (λ (x : Table). x.period) same
period_in_place (a ∷ ts) zero (suc j) c t at = refl
period_in_place (a ∷ ts) (suc i) zero c t at = refl
period_in_place (a ∷ ts) (suc i) (suc j) c t at = period_in_place ts i j c t at

period_added : (now : Schema) (number : ℕ) (c : Column) (k : ℕ) → periods_of (add_column number c now) k ≡ periods_of now k
period_added now number c k = by (table_at now number) refl
  where
    here : (b : Bool) (t : Table) → slice_get now.tables (number - 1) ≡ Some t → option_and_then (λ t. t.period) (if b then None else slice_get (slice_set now.tables (number - 1) (with_column c t)) (k - 1)) ≡ option_and_then (λ t. t.period) (if b then None else slice_get now.tables (k - 1))
    here true t at = refl
    here false t at = period_in_place now.tables (number - 1) (k - 1) c t at

    by : (o : Option Table) → table_at now number ≡ o → periods_of (added_by now number c o) k ≡ periods_of now k
    by None is = refl
    by (Some t) is = here (k == 0) t (at_place (number == 0) now.tables (number - 1) t is).1

periods_by : (b : Bool) (now : Schema) (number : ℕ) (c : Column) → periods_of (if b then add_column number c now else now) ≡ periods_of now
periods_by true now number c = λ i k. period_added now number c k i
periods_by false now number c = refl

periods_step : (now : Schema) (idle : Bool) (step : Step) → periods_of (schema_by now idle step) ≡ periods_of now
periods_step now idle (AddColumn i number name of) = periods_by (is_none (misfit now (AddColumn i number name of)) && idle) now number (new_column name of)
periods_step now idle (Begin i) = refl
periods_step now idle (Insert i number rows) = refl
periods_step now idle (Update i keys sets) = refl
periods_step now idle (Delete i keys) = refl
periods_step now idle (UpdatePortion i keys cut sets) = refl
periods_step now idle (DeletePortion i keys cut) = refl
periods_step now idle (Select i form keys) = refl
periods_step now idle (Commit i reading) = refl
periods_step now idle (Rollback i) = refl
periods_step now idle (SplitKey key) = refl
periods_step now idle (SplitTime key instant) = refl
periods_step now idle Migrate = refl

-- the tables keep their periods
pub periods_stay : (first : Schema) (h : History) → periods_of (schema_after first h) ≡ periods_of first
periods_stay first [] = refl
periods_stay first (step ∷ h) = periods_step (schema_after first h) (is_idle (has_open h)) step ∙ periods_stay first h
