-- An INSERT that is refused over no rows is the first refusal of a load's steps.
use Rattle.std.proofs.Common.{◌≡◌, ℕ, List, [], ◌∷◌, Option, Some, None, Result, Ok, Err, refl, ap, ◌∙◌, inl, inr}
use Rattle.std.specs.Prelude.{◌⊎◌}
use Rattle.values.specs.declared.period.Period.{Period}
use Rattle.values.specs.declared.table.Table.{Table}
use Rattle.values.specs.declared.refusal.Refusal.{Refusal}
use Rattle.values.specs.declared.refusal.Refusal.TheVariants.{Memory, NoTable}
use Rattle.values.specs.Log.{Row}
use Rattle.values.specs.Tables.{Schema, table_at}
use Rattle.values.specs.Write.{has_bad_span, rows_refusal, span_refusal}
use Rattle.values.specs.Writes.{Written, insert_into}
use Rattle.steps.specs.declared.step.Step.TheVariants.{Begin, Insert, Commit}
use Rattle.steps.specs.declared.step.Reply.TheVariants.{Done, Refused}
use Rattle.steps.specs.Misfit.{misfit}
use Rattle.steps.specs.Reply.{written_reply}
use Rattle.steps.specs.Write.{write}
use Rattle.histories.specs.History.{reply, reply_in}
use Rattle.interchange.specs.Load.{answered, rows_of, nothing}
use Rattle.interchange.specs.Stream.{IsLoadOf}
use Rattle.interchange.proofs.StreamRows.{loads_of, refused_rows}
use Rattle.scripts.specs.First.{first_refusal, refusal_in}
use Rattle.command_line.specs.declared.fault.Fault.TheVariants.{Load}
use Rattle.command_line.specs.Load.{IsUnread, steps_of}

-- why the INSERT does not fit the schema
misfits : (schema : Schema) (table : Table) (rows : List Row) → table_at schema table.number ≡ Some table → misfit schema (Insert 0 table.number rows) ≡ rows_refusal table rows
misfits schema table rows at = ap (λ found. elim found [ None ↦ Some NoTable | Some table ↦ rows_refusal table rows ]) at

written : (schema : Schema) (table : Table) (rows : List Row) (refusal : Refusal) → table_at schema table.number ≡ Some table → (insert_into table rows nothing).0 ≡ Err refusal
    → (write schema (Insert 0 table.number rows) nothing).0 ≡ Err refusal
written schema table rows refusal at refused = ap (λ found. (by found).0) at ∙ refused
  where
    by : Option Table → Written
    by found = elim found [ None ↦ (Err NoTable, nothing) | Some table ↦ insert_into table rows nothing ]

-- the reply to the INSERT after the BEGIN
replied : (schema : Schema) (table : Table) (rows : List Row) (refusal : Refusal) → table_at schema table.number ≡ Some table → answered table rows ≡ Err refusal
    → reply schema (Begin 0 ∷ []) (Insert 0 table.number rows) ≡ Refused refusal
replied schema table rows refusal at refused = by (rows_refusal table rows) refl refused
  where
    by : (found : Option Refusal) → rows_refusal table rows ≡ found → ◌≡◌ {A = Result ℕ Refusal} (elim found [ Some why ↦ Err why | None ↦ (insert_into table rows nothing).0 ]) (Err refusal)
        → reply schema (Begin 0 ∷ []) (Insert 0 table.number rows) ≡ Refused refusal
    by (Some why) is refused =
        ap (λ found. elim found [ Some refusal ↦ Refused refusal | None ↦ reply_in schema (Begin 0 ∷ []) (Insert 0 table.number rows) ]) (misfits schema table rows at ∙ is)
        ∙ ap (λ (answer : Result ℕ Refusal). elim answer [ Err why ↦ Refused why | Ok count ↦ Done ]) refused
    by None is refused =
        let good = misfits schema table rows at ∙ is in
        ap (λ found. elim found [ Some refusal ↦ Refused refusal | None ↦ reply_in schema (Begin 0 ∷ []) (Insert 0 table.number rows) ]) good
        ∙ ap (λ found. elim found [ Some refusal ↦ Refused refusal | None ↦ written_reply (Insert 0 table.number rows) (write schema (Insert 0 table.number rows) nothing).0 ]) good
        ∙ ap (written_reply (Insert 0 table.number rows)) (written schema table rows refusal at refused)

-- no rows are refused
none_refused : (table : Table) (refusal : Refusal) → answered table [] ≡ Err refusal → ⊥
none_refused table refusal refused = by table.period refused
  where
    by : (period : Option Period) → ◌≡◌ {A = Result ℕ Refusal} (elim (span_refusal (has_bad_span period [])) [ Some why ↦ Err why | None ↦ Ok 0 ]) (Err refusal) → ⊥
    by None refused = cc refused
    by (Some p) refused = cc refused

pub first_refused : (schema : Schema) (table : Table) (rows : List Row) (refusal : Refusal) → table_at schema table.number ≡ Some table → answered table rows ≡ Err refusal
    → first_refusal schema [] (steps_of table.number rows) ≡ Some refusal
first_refused schema table [] refusal at refused = absurd (none_refused table refusal refused)
first_refused schema table (row ∷ rows) refusal at refused =
    ap (λ r. elim (refusal_in r) [ Some refusal ↦ Some refusal | None ↦ first_refusal schema (Insert 0 table.number (row ∷ rows) ∷ Begin 0 ∷ []) (Commit 0 0 ∷ []) ])
    (replied schema table (row ∷ rows) refusal at refused)

-- why the rows of a file that is open are not had
pub unread_of : (table : Table) (known : Option (List ℕ)) (refusal : Refusal) → (refusal ≡ Memory) ⊎ IsLoadOf table known (Err refusal) → IsUnread (Load refusal) table
unread_of table known refusal (inl out) = inl out
unread_of table known refusal (inr load) = by (refused_rows table (rows_of table load.records) refusal load.rows_are)
  where
    by : (rows_of table load.records ≡ Err refusal) ⊎ ((rows : List Row) × (rows_of table load.records ≡ Ok rows) × (answered table rows ≡ Err refusal)) → IsUnread (Load refusal) table
    by (inl none) = inr (inl (load.bytes, loads_of table load.bytes (Err refusal) load.records load.are_records none))
    by (inr (rows, are, refused)) = inr (inr record {
      bytes = load.bytes;
      rows = rows;
      loads = loads_of table load.bytes (Ok rows) load.records load.are_records are;
      refused = refused;
    })
