-- The writes of an open transaction, one after another.
use Rattle.std.proofs.Common.{◌≡◌, ℕ, ◌-◌, ◌≤◌, Bool, true, false, List, [], ◌∷◌, Option, Some, None, refl, sym, ap, ◌∙◌, arith, length, nat_lt}
use Rattle.std.specs.Prelude.{Err, not, if◌then◌else◌}
use Rattle.std.specs.List.{slice_get}
use Rattle.values.specs.declared.period.Period.{Period}
use Rattle.values.specs.declared.period.Span.{Span}
use Rattle.values.specs.declared.query.Keys.{Keys}
use Rattle.values.specs.declared.query.Set.{Set}
use Rattle.values.specs.declared.refusal.Refusal.{Refusal}
use Rattle.values.specs.declared.refusal.Refusal.TheVariants.{BadRow, NoSession, NoTable}
use Rattle.values.specs.declared.table.Table.{Table}
use Rattle.values.specs.Each.{Each}
use Rattle.values.specs.Faults.{bad_row}
use Rattle.values.specs.Fit.{comparisons_fault, first_of, sets_fault, update_fault}
use Rattle.values.specs.Period.{is_span}
use Rattle.values.specs.Portion.{portion_in}
use Rattle.values.specs.Tables.{Schema, is_key_column, table_at}
use Rattle.values.specs.Write.{portion_refusal, rows_refusal, span_refusal}
use Rattle.values.specs.Writes.{Own, Written, delete_from, insert_into, update_in}
use Rattle.periods.proofs.NoOverlapColumns.{each_to}
use Rattle.steps.specs.declared.step.Step.{Step}
use Rattle.steps.specs.declared.step.Step.TheVariants.{Begin, Insert, Update, Delete, UpdatePortion, DeletePortion, Select, Commit, Rollback, AddColumn, SplitKey, SplitTime, Migrate}
use Rattle.steps.specs.Misfit.{keys_refusal, max_session, misfit_of}
use Rattle.steps.specs.Write.{write, write_table}
use Rattle.steps.proofs.MisfitKeys.{no_fault}
use Rattle.histories.specs.History.{rewrite_all}
use Rattle.histories.proofs.HistoryOwn.{Fits}
use Rattle.dump_steps.specs.Widths.{Widths}
use Rattle.dump_steps.proofs.DumpOwn.{IsTableNow, Kept, delete_kept, insert_kept, portion_kept, update_kept}
use Rattle.dump_steps.proofs.DumpRowsSet.{both_none}
use Rattle.dump_steps.proofs.WidthsAdded.{IsLaidOut}
use Rattle.dump_steps.proofs.WidthsTables.{place, table_is}

abbrev pub AllLaidOut : Widths → List Table → Type 0
AllLaidOut first ts = (i : ℕ) (t : Table) → slice_get ts i ≡ Some t → IsLaidOut first i t

module _ (now : Schema) (first : Widths) (laid_out : AllLaidOut first now.tables) where
  -- a table by its number
  record IsAt (number : ℕ) (t : Table) : Type 0 where
    numbered : t.number ≡ number
    is : IsTableNow now t

  is_at : (number : ℕ) (t : Table) → table_at now number ≡ Some t → IsAt number t
  is_at number t found =
      let at = table_is now number t found in
      let is = laid_out (number - 1) t at.found in
      let numbered : t.number ≡ number = omega (arith, is.numbered, at.from_1) in
      record {
        numbered = numbered;
        is = record {
          found = ap (table_at now) numbered ∙ found;
          columns =
              each_to (λ n. (1 ≤ n) × ((n ≤ place first (number - 1)) × (is_key_column t n ≡ true))) (λ n. (1 ≤ n) × ((n ≤ length t.columns) × (is_key_column t n ≡ true)))
              (λ n its. let le : n ≤ place first (number - 1) = its.1.0 in (its.0, (omega (arith, le, is.wider), its.1.1))) t.key is.columns;
          has = is.has;
        };
      }

  at_table : (i number : ℕ) (refusal : Table → Option Refusal) (does : Table → Own → Written) (o : Own) → misfit_of now i number refusal ≡ None
      → ((t : Table) → IsAt number t → refusal t ≡ None → Kept now (does t o).1) → Kept now o → Kept now (write_table now number does o).1
  at_table i number refusal does o fits done kept = by (nat_lt max_session i) (table_at now number) refl fits
    where
      by : (b : Bool) (o' : Option Table) → table_at now number ≡ o' → ◌≡◌ {A = Option Refusal} (if b then Some NoSession else elim o' [ None ↦ Some NoTable | Some t ↦ refusal t ]) None
          → Kept now (elim o' as (λ _. Written) [ None ↦ (Err NoTable, o) | Some t ↦ does t o ]).1
      by b None at fits = kept
      by true (Some t) at fits = cc
      by false (Some t) at fits = done t (is_at number t at) fits

  sets_fit : (t : Table) (keys : Keys) (sets : List Set) → update_fault t keys sets ≡ None → sets_fault t [] sets ≡ None
  sets_fit t keys sets fits = (both_none (sets_fault t [] sets) (comparisons_fault t keys.comparisons) fits).0

  -- a portion that fits has no column at fault
  portion_fits : (t : Table) (cut : Span) (fault : Option ℕ) → portion_refusal t cut fault ≡ None → fault ≡ None
  portion_fits t cut fault fits = by t.period fits
    where
      by : (q : Option Period) → ◌≡◌ {A = Option Refusal} (elim q [ None ↦ Some (BadRow 0) | Some p ↦ first_of (bad_row fault) (span_refusal (not (is_span cut))) ]) None → fault ≡ None
      by None fits = cc
      by (Some p) fits = no_fault fault (both_none (bad_row fault) (span_refusal (not (is_span cut))) fits).0

  write_kept : (step : Step) (o : Own) → Fits now step → Kept now o → Kept now (write now step o).1
  write_kept (Insert i number rows) o fits kept =
      at_table i number (λ t. rows_refusal t rows) (λ t. insert_into t rows) o fits (λ t at fit. insert_kept now t at.is rows o fit kept) kept
  write_kept (Update i keys sets) o fits kept =
      at_table i keys.table (λ t. bad_row (update_fault t keys sets)) (λ t. update_in t keys sets) o fits
      (λ t at fit. update_kept now t at.is keys (sym at.numbered) sets o (sets_fit t keys sets (no_fault (update_fault t keys sets) fit)) kept) kept
  write_kept (Delete i keys) o fits kept =
      at_table i keys.table (keys_refusal keys) (λ t. delete_from t keys) o fits (λ t at fit. delete_kept now t at.is keys (sym at.numbered) o kept) kept
  write_kept (UpdatePortion i keys cut sets) o fits kept =
      at_table i keys.table (λ t. portion_refusal t cut (update_fault t keys sets)) (λ t. portion_in t keys cut (Some sets)) o fits
      (λ t at fit. portion_kept now t at.is keys (sym at.numbered) cut (Some sets) o (sets_fit t keys sets (portion_fits t cut (update_fault t keys sets) fit)) kept) kept
  write_kept (DeletePortion i keys cut) o fits kept =
      at_table i keys.table (λ t. portion_refusal t cut (comparisons_fault t keys.comparisons)) (λ t. portion_in t keys cut None) o fits
      (λ t at fit. portion_kept now t at.is keys (sym at.numbered) cut None o tt kept) kept
  write_kept (Begin i) o fits kept = kept
  write_kept (Select i form keys) o fits kept = kept
  write_kept (Commit i reading) o fits kept = kept
  write_kept (Rollback i) o fits kept = kept
  write_kept (AddColumn i number name of) o fits kept = kept
  write_kept (SplitKey key) o fits kept = kept
  write_kept (SplitTime key instant) o fits kept = kept
  write_kept Migrate o fits kept = kept

  pub writes_kept : (own : List Step) (o : Own) → Each (Fits now) own → Kept now o → Kept now (rewrite_all now own o)
  writes_kept [] o fits kept = kept
  writes_kept (step ∷ own) o fits kept = writes_kept own (write now step o).1 fits.1 (write_kept step o fits.0 kept)
