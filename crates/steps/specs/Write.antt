-- What a session writes, as a step, and what a write leaves.
use Rattle.std.specs.Prelude.{ℕ, Option, Some, None, Bool, false, Ok, Err, ◌==◌}
use Rattle.values.specs.declared.table.Table.{Table}
use Rattle.values.specs.declared.refusal.Refusal.TheVariants.{NoTable}
use Rattle.values.specs.Tables.{Schema, table_at}
use Rattle.values.specs.Writes.{Own, Written, insert_into, update_in, delete_from}
use Rattle.values.specs.Portion.{portion_in}
use Rattle.steps.specs.declared.step.Step.{Step}
use Rattle.steps.specs.declared.step.Step.TheVariants.{Insert, Update, Delete, UpdatePortion, DeletePortion}

-- the session that writes
abbrev pub writer : Step → Option ℕ
writer (Insert i number rows) = Some i
writer (Update i keys sets) = Some i
writer (Delete i keys) = Some i
writer (UpdatePortion i keys cut sets) = Some i
writer (DeletePortion i keys cut) = Some i
writer step = None

abbrev pub is_write_of : ℕ → Step → Bool
is_write_of i step = elim (writer step) [ Some j ↦ i == j | None ↦ false ]

-- a write of a table
abbrev pub write_table : Schema → ℕ → (Table → Own → Written) → Own → Written
write_table schema number write o = elim (table_at schema number) [
  | None ↦ (Err NoTable, o)
  | Some table ↦ write table o
]

-- what a write answers, and what it leaves of its transaction's own rows and keys
abbrev pub write : Schema → Step → Own → Written
write schema (Insert i number rows) o =
    write_table schema number (λ table. insert_into table rows) o
write schema (Update i keys sets) o =
    write_table schema keys.table (λ table. update_in table keys sets) o
write schema (Delete i keys) o =
    write_table schema keys.table (λ table. delete_from table keys) o
write schema (UpdatePortion i keys cut sets) o =
    write_table schema keys.table (λ table. portion_in table keys cut (Some sets)) o
write schema (DeletePortion i keys cut) o =
    write_table schema keys.table (λ table. portion_in table keys cut None) o
write schema step o = (Ok 0, o)
