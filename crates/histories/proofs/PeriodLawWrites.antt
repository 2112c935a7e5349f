-- Writes that fit leave rows of which no two of one entity overlap, where they found such; and keys that they did not write as they were.
use Rattle.std.proofs.Common.{◌≡◌, ℕ, List, [], ◌∷◌, Option, Some, None, refl, sym, Err}
use Rattle.values.specs.declared.table.Table.{Table}
use Rattle.values.specs.declared.refusal.Refusal.{Refusal}
use Rattle.values.specs.declared.refusal.Refusal.TheVariants.{NoTable}
use Rattle.values.specs.Each.{Each}
use Rattle.values.specs.Faults.{bad_row}
use Rattle.values.specs.Fit.{comparisons_fault, update_fault}
use Rattle.values.specs.Tables.{Schema, table_at}
use Rattle.values.specs.TableRules.{AreTables}
use Rattle.values.specs.Period.{periods_of}
use Rattle.values.specs.Write.{rows_refusal, portion_refusal}
use Rattle.values.specs.Writes.{Own, Written, insert_into, update_in, delete_from}
use Rattle.values.specs.Portion.{portion_in}
use Rattle.steps.specs.declared.step.Step.{Step}
use Rattle.steps.specs.declared.step.Step.TheVariants.{Begin, Insert, Update, Delete, UpdatePortion, DeletePortion, Select, Commit, Rollback, AddColumn, SplitKey, SplitTime, Migrate}
use Rattle.steps.specs.Misfit.{misfit_of, keys_refusal}
use Rattle.steps.specs.Write.{write, write_table}
use Rattle.steps.proofs.MisfitKeys.{no_fault}
use Rattle.periods.proofs.NoOverlapStatements.{IsSound, insert_sound, update_sound, delete_sound, portion_sound}
use Rattle.periods.proofs.NoOverlapWritten.{IsAfter, same_after, after_both, insert_after, update_after, delete_after, portion_after}
use Rattle.histories.specs.History.{rewrite_all}
use Rattle.histories.proofs.HistoryOwn.{Fits}
use Rattle.histories.proofs.PeriodLawFits.{rows_fit, sets_fit, updated_portion_fits, deleted_portion_fits}
use Rattle.histories.proofs.PeriodLawTables.{IsAt, is_at, table_fits}

-- ---- no two overlap

module _ (now : Schema) (good : AreTables 1 now.tables) where
  abbrev Sound : Own → Type 0
  Sound o = IsSound (table_at now) (periods_of now) o.rows

  -- a write of a table, where it fits
  at_table : (i number : ℕ) (refusal : Table → Option Refusal) (does : Table → Own → Written) (o : Own) → misfit_of now i number refusal ≡ None
      → ((table : Table) → IsAt now number table → refusal table ≡ None → Sound (does table o).1) → Sound o → Sound (write_table now number does o).1
  at_table i number refusal does o fits done sound = by (table_at now number) refl
    where
      by : (t : Option Table) → table_at now number ≡ t → Sound (elim t as (λ _. Written) [ None ↦ (Err NoTable, o) | Some table ↦ does table o ]).1
      by None at = sound
      by (Some table) at = done table (is_at now number table good at) (table_fits now i number refusal fits table at)

  write_sound : (step : Step) (o : Own) → Fits now step → Sound o → Sound (write now step o).1
  write_sound (Insert i number rows) o fits sound =
      at_table i number (λ table. rows_refusal table rows) (λ table. insert_into table rows) o fits
      (λ table at fit. insert_sound (table_at now) (periods_of now) table at.is rows o (rows_fit table rows at.is.has fit) sound) sound
  write_sound (Update i keys sets) o fits sound =
      at_table i keys.table (λ table. bad_row (update_fault table keys sets)) (λ table. update_in table keys sets) o fits
      (λ table at fit. update_sound (table_at now) (periods_of now) table at.is keys (sym at.numbered) sets o (sets_fit table keys sets at.is.has (no_fault (update_fault table keys sets) fit)) sound) sound
  write_sound (Delete i keys) o fits sound =
      at_table i keys.table (keys_refusal keys) (λ table. delete_from table keys) o fits
      (λ table at fit. delete_sound (table_at now) (periods_of now) table at.is keys (sym at.numbered) o sound) sound
  write_sound (UpdatePortion i keys cut sets) o fits sound =
      at_table i keys.table (λ table. portion_refusal table cut (update_fault table keys sets)) (λ table. portion_in table keys cut (Some sets)) o fits
      (λ table at fit. portion_sound (table_at now) (periods_of now) table at.is keys (sym at.numbered) cut (Some sets) o (updated_portion_fits table keys cut sets at.is.has fit) sound) sound
  write_sound (DeletePortion i keys cut) o fits sound =
      at_table i keys.table (λ table. portion_refusal table cut (comparisons_fault table keys.comparisons)) (λ table. portion_in table keys cut None) o fits
      (λ table at fit. portion_sound (table_at now) (periods_of now) table at.is keys (sym at.numbered) cut None o (deleted_portion_fits table keys cut fit) sound) sound
  write_sound (Begin i) o fits sound = sound
  write_sound (Select i form keys) o fits sound = sound
  write_sound (Commit i reading) o fits sound = sound
  write_sound (Rollback i) o fits sound = sound
  write_sound (AddColumn i number name of) o fits sound = sound
  write_sound (SplitKey key) o fits sound = sound
  write_sound (SplitTime key instant) o fits sound = sound
  write_sound Migrate o fits sound = sound

  pub writes_sound : (own : List Step) (o : Own) → Each (Fits now) own → Sound o → Sound (rewrite_all now own o)
  writes_sound [] o fits sound = sound
  writes_sound (step ∷ own) o fits sound = writes_sound own (write now step o).1 fits.1 (write_sound step o fits.0 sound)

-- ---- other keys

table_after : (t : Option Table) (does : Table → Own → Written) (o : Own) → ((table : Table) → IsAfter o (does table o).1) → IsAfter o (elim t as (λ _. Written) [ None ↦ (Err NoTable, o) | Some table ↦ does table o ]).1
table_after None does o after = same_after o
table_after (Some table) does o after = after table

write_after : (now : Schema) (step : Step) (o : Own) → IsAfter o (write now step o).1
write_after now (Insert i number rows) o = table_after (table_at now number) (λ table. insert_into table rows) o (λ table. insert_after table rows o)
write_after now (Update i keys sets) o = table_after (table_at now keys.table) (λ table. update_in table keys sets) o (λ table. update_after table keys sets o)
write_after now (Delete i keys) o = table_after (table_at now keys.table) (λ table. delete_from table keys) o (λ table. delete_after table keys o)
write_after now (UpdatePortion i keys cut sets) o = table_after (table_at now keys.table) (λ table. portion_in table keys cut (Some sets)) o (λ table. portion_after table keys cut (Some sets) o)
write_after now (DeletePortion i keys cut) o = table_after (table_at now keys.table) (λ table. portion_in table keys cut None) o (λ table. portion_after table keys cut None o)
write_after now (Begin i) o = same_after o
write_after now (Select i form keys) o = same_after o
write_after now (Commit i reading) o = same_after o
write_after now (Rollback i) o = same_after o
write_after now (AddColumn i number name of) o = same_after o
write_after now (SplitKey key) o = same_after o
write_after now (SplitTime key instant) o = same_after o
write_after now Migrate o = same_after o

pub writes_after : (now : Schema) (own : List Step) (o : Own) → IsAfter o (rewrite_all now own o)
writes_after now [] o = same_after o
writes_after now (step ∷ own) o = after_both o (write now step o).1 (rewrite_all now own (write now step o).1) (write_after now step o) (writes_after now own (write now step o).1)
