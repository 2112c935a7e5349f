-- A statement that writes: its table, why it does not fit it, and what it answers and leaves.
use Rattle.std.specs.Prelude.{ℕ, Option, Some, None, Result, Ok, Err}
use Rattle.values.specs.declared.table.Table.{Table}
use Rattle.values.specs.declared.refusal.Refusal.{Refusal}
use Rattle.values.specs.declared.refusal.Refusal.TheVariants.{BadRow}
use Rattle.values.specs.declared.write.Write.{Write}
use Rattle.values.specs.declared.write.Write.TheVariants.{Insert, Update, Delete, UpdatePortion, DeletePortion}
use Rattle.values.specs.Faults.{bad_row}
use Rattle.values.specs.Fit.{update_fault, comparisons_fault}
use Rattle.values.specs.Writes.{Own, Written, insert_into, update_in, delete_from}
use Rattle.values.specs.Portion.{portion_in}
use Rattle.values.specs.Write.{rows_refusal, portion_refusal}

-- the number of the table that is written
abbrev pub table_of : Write → ℕ
table_of (Insert table rows) = table
table_of (Update keys sets) = keys.now.table
table_of (Delete keys) = keys.now.table
table_of (UpdatePortion keys cut sets) = keys.now.table
table_of (DeletePortion keys cut) = keys.now.table

-- why what is written does not fit its table
abbrev pub write_refusal : Table → Write → Option Refusal
write_refusal table (Insert number rows) = rows_refusal table rows.now
write_refusal table (Update keys sets) = bad_row (update_fault table keys.now sets.now)
write_refusal table (Delete keys) = bad_row (comparisons_fault table keys.now.comparisons)
write_refusal table (UpdatePortion keys cut sets) =
    portion_refusal table cut (update_fault table keys.now sets.now)
write_refusal table (DeletePortion keys cut) =
    portion_refusal table cut (comparisons_fault table keys.now.comparisons)

-- what a write of a table answers, and what it leaves of a transaction's own rows and keys
abbrev pub write_to : Table → Write → Own → Written
write_to table (Insert number rows) o = insert_into table rows.now o
write_to table (Update keys sets) o = update_in table keys.now sets.now o
write_to table (Delete keys) o = delete_from table keys.now o
write_to table (UpdatePortion keys cut sets) o = portion_in table keys.now cut (Some sets.now) o
write_to table (DeletePortion keys cut) o = portion_in table keys.now cut None o

-- a check that refuses what there is to refuse
abbrev pub unless_refused : Option Refusal → Result (Unit {0}) Refusal
unless_refused None = Ok tt
unless_refused (Some refusal) = Err refusal

-- a check by the column at fault
abbrev pub no_fault : Option ℕ → Result (Unit {0}) Refusal
no_fault None = Ok tt
no_fault (Some column) = Err (BadRow column)
