-- Steps that change nothing of what is open or committed.
use Rattle.std.proofs.Common.{◌≡◌, ℕ, ◌≤◌, ◌<◌, Bool, true, false, List, [], ◌∷◌, ◌++◌, Option, Some, None, refl, sym, ap, ◌∙◌, arith}
use Rattle.std.specs.Prelude.{if◌then◌else◌, ◌&&◌, ◌==◌, nat_lt, nat_le, is_none, is_some, not}
use Rattle.std.proofs.lemmas.Bool.Decides.{nat_tests}
use Rattle.values.specs.Tables.{Schema}
use Rattle.values.specs.declared.table.Table.{Table}
use Rattle.values.specs.declared.refusal.Refusal.{Refusal}
use Rattle.values.specs.declared.refusal.Refusal.TheVariants.{NoSession, NoTable}
use Rattle.values.specs.Log.{Log, last, changes}
use Rattle.values.specs.Tables.{table_at}
use Rattle.values.specs.Writes.{Own}
use Rattle.values.specs.Period.{periods_of}
use Rattle.values.specs.Commits.{after}
use Rattle.steps.specs.declared.step.Step.{Step}
use Rattle.steps.specs.declared.step.Step.TheVariants.{Begin, Insert, Update, Delete, UpdatePortion, DeletePortion, Select, Commit, Rollback, AddColumn, SplitKey, SplitTime, Migrate}
use Rattle.steps.specs.declared.step.Reply.TheVariants.{Refused}
use Rattle.steps.specs.Misfit.{max_session, misfit, misfit_of, no_session}
use Rattle.histories.specs.History.{History, schema_after, schema_by, has_open, log, log_at_begin, own, own_of, ends, begins, net_change_of}
use Rattle.steps.specs.Idle.{is_idle}
use Rattle.steps.specs.Write.{write, is_write_of}
use Rattle.steps.specs.Reply.{written_reply, write_reply, is_refused}
use Rattle.values.specs.Columns.{new_column, add_column}
use Rattle.histories.specs.World.{World}
use Rattle.histories.specs.Stands.{Stands, open_in, open_from}

-- the system stands for the history with the step, where log and sessions stay
pub idle_stands : (first : Schema) (w : World) (h : History) (step : Step) → Stands first w h → schema_after first (step ∷ h) ≡ schema_after first h → log first (step ∷ h) ≡ log first h → ((j : ℕ) → j ≤ max_session → open_in first (step ∷ h) j ≡ open_in first h j) → Stands first w (step ∷ h)
idle_stands first w h step stands is_schema is_log same = record {
  schema_is = stands.schema_is ∙ sym is_schema;
  wide = stands.wide;
  changes_are = stands.changes_are ∙ sym (ap changes is_log);
  latest_is = stands.latest_is ∙ sym (ap last is_log);
  sessions_are = λ j small. stands.sessions_are j small ∙ sym (same j small);
}

-- ---- sessions that there are not

begins_none : (i : ℕ) (step : Step) → max_session < i → begins i step ≡ false
begins_none i (Begin j) h = by (i == j)
  where
    large : nat_le i max_session ≡ false
    large = grind (arith, nat_tests)

    by : (b : Bool) → (b && nat_le i max_session) ≡ false
    by true = large
    by false = refl
begins_none i (Insert j number rows) h = refl
begins_none i (Update j keys sets) h = refl
begins_none i (Delete j keys) h = refl
begins_none i (UpdatePortion j keys cut sets) h = refl
begins_none i (DeletePortion j keys cut) h = refl
begins_none i (Select j form keys) h = refl
begins_none i (Commit j reading) h = refl
begins_none i (Rollback j) h = refl
begins_none i (AddColumn j number name of) h = refl
begins_none i (SplitKey key) h = refl
begins_none i (SplitTime key instant) h = refl
begins_none i Migrate h = refl

-- none of them opens
pub none_open : (schema : Schema) (h : History) (i : ℕ) → max_session < i → log_at_begin schema h i ≡ None
none_open schema [] i large = refl
none_open schema (step ∷ h) i large = (λ k. if ends i step then None else if begins_none i step large k && is_none (log_at_begin schema h i) then Some (log schema h) else none_open schema h i large k) ∙ closed (ends i step)
  where
    closed : (b : Bool) → ◌≡◌ {A = Option Log} (if b then None else None) None
    closed true = refl
    closed false = refl

-- ---- steps that do not fit

pub refused_write : (schema : Schema) (step : Step) (refusal : Refusal) (o : Own) → misfit schema step ≡ Some refusal → is_refused (write_reply schema step o) ≡ true
refused_write schema step refusal o is =
    λ k. is_refused (elim (is k) [ Some refusal ↦ Refused refusal | None ↦ written_reply step (write schema step o).0 ])

dropped : (b c : Bool) (xs ys : List Step) → (if b && c && not true then xs else ys) ≡ ys
dropped true true xs ys = refl
dropped true false xs ys = refl
dropped false true xs ys = refl
dropped false false xs ys = refl

-- a step that does not fit leaves the tables
pub refused_schema : (now : Schema) (idle : Bool) (step : Step) (refusal : Refusal) → misfit now step ≡ Some refusal → schema_by now idle step ≡ now
refused_schema now idle (AddColumn i number name of) refusal is = λ k. if is_none (is k) && idle then add_column number (new_column name of) now else now
refused_schema now idle (Begin i) refusal is = refl
refused_schema now idle (Insert i number rows) refusal is = refl
refused_schema now idle (Update i keys sets) refusal is = refl
refused_schema now idle (Delete i keys) refusal is = refl
refused_schema now idle (UpdatePortion i keys cut sets) refusal is = refl
refused_schema now idle (DeletePortion i keys cut) refusal is = refl
refused_schema now idle (Select i form keys) refusal is = refl
refused_schema now idle (Commit i reading) refusal is = refl
refused_schema now idle (Rollback i) refusal is = refl
refused_schema now idle (SplitKey key) refusal is = refl
refused_schema now idle (SplitTime key instant) refusal is = refl
refused_schema now idle Migrate refusal is = refl

kept_session : (first : Schema) (h : History) (step : Step) (j : ℕ) (refusal : Refusal) → misfit (schema_after first h) step ≡ Some refusal → ends j step ≡ false → begins j step ≡ false → log first (step ∷ h) ≡ log first h
    → open_in first (step ∷ h) j ≡ open_in first h j
kept_session first h step j refusal is no_end no_begin same_log =
    (λ k. open_from (refused_schema (schema_after first h) (is_idle (has_open h)) step refusal is k) (same_log k) (if no_end k then None else if no_begin k && is_none (log_at_begin first h j) then Some (log first h) else log_at_begin first h j)
    (if no_end k then [] else if is_write_of j step && is_some (log_at_begin first h j) && not (refused_write (schema_after first h) step refusal (own_of (schema_after first h) (log first h) (log_at_begin first h j) (own first h j)) is k) then own first h j ++ step ∷ [] else own first h j))
    ∙ ap (open_from (schema_after first h) (log first h) (log_at_begin first h j)) (dropped (is_write_of j step) (is_some (log_at_begin first h j)) (own first h j ++ step ∷ []) (own first h j))

large : (b : Bool) (refusal : Refusal) (i : ℕ) → nat_lt max_session i ≡ b → ◌≡◌ {A = Option Refusal} (if b then Some NoSession else None) (Some refusal) → max_session < i
large true refusal i at is = grind (arith, nat_tests)
large false refusal i at is = cc

other : (i j : ℕ) → max_session < i → j ≤ max_session → (j == i) ≡ false
other i j large small = grind (arith, nat_tests)

pub misfit_stands : (first : Schema) (w : World) (h : History) (step : Step) (refusal : Refusal) → misfit (schema_after first h) step ≡ Some refusal → Stands first w h → Stands first w (step ∷ h)
misfit_stands first w h (Begin i) refusal is stands = idle_stands first w h (Begin i) stands refl refl (λ j small. kept_session first h (Begin i) j refusal is refl (begun j (other i j (large (nat_lt max_session i) refusal i refl is) small)) refl)
  where
    begun : (j : ℕ) → (j == i) ≡ false → ((j == i) && nat_le j max_session) ≡ false
    begun j e = ap (λ b. b && nat_le j max_session) e
misfit_stands first w h (Insert i number rows) refusal is stands = idle_stands first w h (Insert i number rows) stands refl refl (λ j small. kept_session first h (Insert i number rows) j refusal is refl refl refl)
misfit_stands first w h (Update i keys sets) refusal is stands = idle_stands first w h (Update i keys sets) stands refl refl (λ j small. kept_session first h (Update i keys sets) j refusal is refl refl refl)
misfit_stands first w h (Delete i keys) refusal is stands = idle_stands first w h (Delete i keys) stands refl refl (λ j small. kept_session first h (Delete i keys) j refusal is refl refl refl)
misfit_stands first w h (UpdatePortion i keys cut sets) refusal is stands = idle_stands first w h (UpdatePortion i keys cut sets) stands refl refl (λ j small. kept_session first h (UpdatePortion i keys cut sets) j refusal is refl refl refl)
misfit_stands first w h (DeletePortion i keys cut) refusal is stands = idle_stands first w h (DeletePortion i keys cut) stands refl refl (λ j small. kept_session first h (DeletePortion i keys cut) j refusal is refl refl refl)
misfit_stands first w h (Select i form keys) refusal is stands = idle_stands first w h (Select i form keys) stands refl refl (λ j small. kept_session first h (Select i form keys) j refusal is refl refl refl)
misfit_stands first w h (Commit i reading) refusal is stands = idle_stands first w h (Commit i reading) stands refl same_log (λ j small. kept_session first h (Commit i reading) j refusal is (other i j (large (nat_lt max_session i) refusal i refl is) small) refl same_log)
  where
    same_log : log first (Commit i reading ∷ h) ≡ log first h
    same_log = ap (λ (o : Option Log). let l : Log = elim o [ None ↦ log first h | Some before ↦ after (periods_of (schema_after first h)) (log first h) (last before) (net_change_of (schema_after first h) (log first h) (log_at_begin first h i) (own first h i)) reading ] in l) (none_open first h i (large (nat_lt max_session i) refusal i refl is))
misfit_stands first w h (Rollback i) refusal is stands = idle_stands first w h (Rollback i) stands refl refl (λ j small. kept_session first h (Rollback i) j refusal is (other i j (large (nat_lt max_session i) refusal i refl is) small) refl refl)
misfit_stands first w h (AddColumn i number name of) refusal is stands = idle_stands first w h (AddColumn i number name of) stands (refused_schema (schema_after first h) (is_idle (has_open h)) (AddColumn i number name of) refusal is) refl (λ j small. kept_session first h (AddColumn i number name of) j refusal is refl refl refl)
misfit_stands first w h (SplitKey key) refusal is stands = idle_stands first w h (SplitKey key) stands refl refl (λ j small. refl)
misfit_stands first w h (SplitTime key instant) refusal is stands = idle_stands first w h (SplitTime key instant) stands refl refl (λ j small. refl)
misfit_stands first w h Migrate refusal is stands = idle_stands first w h Migrate stands refl refl (λ j small. refl)

-- ---- what a step that fits has

pub fits_session : (i : ℕ) → no_session i ≡ None → i ≤ max_session
fits_session i is = by (nat_lt max_session i) refl is
  where
    by : (b : Bool) → nat_lt max_session i ≡ b → ◌≡◌ {A = Option Refusal} (if b then Some NoSession else None) None → i ≤ max_session
    by true at is = cc
    by false at is = grind (arith, nat_tests)

pub fits_table : (schema : Schema) (i number : ℕ) (refusal : Table → Option Refusal) → misfit_of schema i number refusal ≡ None → (i ≤ max_session) × ((t : Table) × (table_at schema number ≡ Some t))
fits_table schema i number refusal is = by (nat_lt max_session i) (table_at schema number) refl refl is
  where
    by : (b : Bool) (t : Option Table) → nat_lt max_session i ≡ b → table_at schema number ≡ t → ◌≡◌ {A = Option Refusal} (if b then Some NoSession else elim t [ None ↦ Some NoTable | Some table ↦ refusal table ]) None
        → (i ≤ max_session) × ((t : Table) × (table_at schema number ≡ Some t))
    by true t at there is = cc
    by false None at there is = cc
    by false (Some t) at there is = (grind (arith, nat_tests), (t, there))
