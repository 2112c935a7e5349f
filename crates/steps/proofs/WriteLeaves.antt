-- A write that is refused leaves its transaction as it was, and is never refused for memory.
use Rattle.std.proofs.Common.{◌≡◌, ℕ, Bool, true, false, List, Option, Some, None, length, refl}
use Rattle.std.specs.Option.{option_map}
use Rattle.std.specs.Prelude.{if◌then◌else◌, nat_lt, map, Result, Ok, Err}
use Rattle.values.specs.declared.table.Table.{Table}
use Rattle.values.specs.declared.key.Key.{Key}
use Rattle.values.specs.declared.query.Keys.{Keys}
use Rattle.values.specs.declared.query.Set.{Set}
use Rattle.values.specs.declared.period.Period.{Period}
use Rattle.values.specs.declared.period.Span.{Span}
use Rattle.values.specs.declared.refusal.Refusal.{Refusal}
use Rattle.values.specs.declared.refusal.Refusal.TheVariants.{NoTable, DuplicateKey, Overlap, TooManyWrites}
use Rattle.values.specs.Tables.{Schema, table_at}
use Rattle.values.specs.Log.{State, Row}
use Rattle.values.specs.Fit.{first_of}
use Rattle.values.specs.Writes.{Own, Written, most_written, write_keys, insert_into, overlapping, update_in, delete_from, key_of, duplicate, insert_rows, update_rows, delete_rows, matching_keys, add_keys}
use Rattle.values.specs.Portion.{portion_in, change_portion, portion_keys, taken}
use Rattle.steps.specs.declared.step.Step.{Step}
use Rattle.steps.specs.declared.step.Step.TheVariants.{Begin, Insert, Update, Delete, UpdatePortion, DeletePortion, Select, Commit, Rollback, AddColumn, SplitKey, SplitTime, Migrate}
use Rattle.steps.specs.Write.{write}
use Rattle.steps.specs.declared.step.Reply.TheVariants.{Refused}
use Rattle.steps.specs.Reply.{is_out_of_memory}

abbrev pub is_err : Result ℕ Refusal → Bool
is_err (Ok count) = false
is_err (Err refusal) = true

abbrev pub names_memory : {A : Type 0} → Result A Refusal → Bool
names_memory (Ok x) = false
names_memory (Err refusal) = is_out_of_memory (Refused refusal)

pub record IsWritten (o : Own) (done : Written) : Type 0 where
  pub leaves : is_err done.0 ≡ true → done.1 ≡ o
  pub answered : names_memory done.0 ≡ false

writing_is : (keys : List Key) (count : ℕ) (rows : State) (o : Own) → IsWritten o (write_keys keys count rows o)
writing_is keys count rows o = by (nat_lt most_written (length (add_keys keys o.written)))
  where
    by : (full : Bool) → IsWritten o (if full then (Err TooManyWrites, o) else (Ok count, record { rows = rows; written = add_keys keys o.written }))
    by true = record { leaves = λ e. refl; answered = refl }
    by false = record { leaves = λ e. cc; answered = refl }

insert_is : (rows : List Row) (o : Own) (table : Table) → IsWritten o (insert_into table rows o)
insert_is rows o table = by (duplicate table rows o.rows) (overlapping table rows o.rows)
  where
    by : (d v : Option Key) → IsWritten o (elim (first_of (option_map DuplicateKey d) (option_map Overlap v)) [ Some refusal ↦ (Err refusal, o) | None ↦ write_keys (map (key_of table) rows) (length rows) (insert_rows table rows o.rows) o ])
    by None None = writing_is (map (key_of table) rows) (length rows) (insert_rows table rows o.rows) o
    by None (Some key) = record { leaves = λ e. refl; answered = refl }
    by (Some key) v = record { leaves = λ e. refl; answered = refl }

update_is : (keys : Keys) (sets : List Set) (o : Own) (table : Table) → IsWritten o (update_in table keys sets o)
update_is keys sets o table = writing_is (matching_keys table keys o.rows) (length (matching_keys table keys o.rows)) (update_rows table keys sets o.rows) o

delete_is : (keys : Keys) (o : Own) (table : Table) → IsWritten o (delete_from table keys o)
delete_is keys o table = writing_is (matching_keys table keys o.rows) (length (matching_keys table keys o.rows)) (delete_rows table keys o.rows) o

portion_is : (keys : Keys) (cut : Span) (sets : Option (List Set)) (o : Own) (table : Table) → IsWritten o (portion_in table keys cut sets o)
portion_is keys cut sets o table = by table.period
  where
    by : (p : Option Period) → IsWritten o (elim p [ None ↦ (Ok 0, o) | Some p ↦ write_keys (portion_keys table p keys cut sets o.rows) (length (taken table p keys cut o.rows)) (change_portion table p keys cut sets o.rows) o ])
    by None = record { leaves = λ e. refl; answered = refl }
    by (Some p) = writing_is (portion_keys table p keys cut sets o.rows) (length (taken table p keys cut o.rows)) (change_portion table p keys cut sets o.rows) o

table_is : (t : Option Table) (does : Table → Own → Written) (o : Own) → ((table : Table) → IsWritten o (does table o)) → IsWritten o (elim t [ None ↦ (Err NoTable, o) | Some table ↦ does table o ])
table_is None does o is = record { leaves = λ e. refl; answered = refl }
table_is (Some table) does o is = is table

pub write_is : (schema : Schema) (step : Step) (o : Own) → IsWritten o (write schema step o)
write_is schema (Insert i number rows) o = table_is (table_at schema number) (λ table. insert_into table rows) o (insert_is rows o)
write_is schema (Update i keys sets) o = table_is (table_at schema keys.table) (λ table. update_in table keys sets) o (update_is keys sets o)
write_is schema (Delete i keys) o = table_is (table_at schema keys.table) (λ table. delete_from table keys) o (delete_is keys o)
write_is schema (UpdatePortion i keys cut sets) o = table_is (table_at schema keys.table) (λ table. portion_in table keys cut (Some sets)) o (portion_is keys cut (Some sets) o)
write_is schema (DeletePortion i keys cut) o = table_is (table_at schema keys.table) (λ table. portion_in table keys cut None) o (portion_is keys cut None o)
write_is schema (Begin i) o = record { leaves = λ e. refl; answered = refl }
write_is schema (Select i form keys) o = record { leaves = λ e. refl; answered = refl }
write_is schema (Commit i reading) o = record { leaves = λ e. refl; answered = refl }
write_is schema (Rollback i) o = record { leaves = λ e. refl; answered = refl }
write_is schema (AddColumn i number name of) o = record { leaves = λ e. refl; answered = refl }
write_is schema (SplitKey key) o = record { leaves = λ e. refl; answered = refl }
write_is schema (SplitTime key instant) o = record { leaves = λ e. refl; answered = refl }
write_is schema Migrate o = record { leaves = λ e. refl; answered = refl }
