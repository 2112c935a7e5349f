-- What is written of a change is what its steps say.
use Rattle.std.proofs.Common.{◌≡◌, ℕ, Bool, true, false, [], ◌∷◌, Option, None, Some, refl, sym, ap, ◌∙◌, cond, length}
use Rattle.std.specs.Prelude.{is_some}
use Rattle.values.specs.declared.key.Key.{Key}
use Rattle.values.specs.declared.table.Table.{Table}
use Rattle.values.specs.Events.{IsKeyIn, IsKeyOfAny}
use Rattle.values.specs.KeyEncoding.{bytes_of_key}
use Rattle.values.specs.KeyReading.{key_from}
use Rattle.values.specs.Log.{Row, State, row_at}
use Rattle.values.specs.Tables.{Schema, table_at}
use Rattle.values.proofs.KeyReads.{key_back}
use Rattle.steps.specs.declared.step.Step.TheVariants.{Delete}
use Rattle.dump_steps.specs.Dump.{delete, in_table, insert, keys_of, row_steps}
use Rattle.dump_steps.specs.Widths.{Widths, additions, width_at, wider, widening}
use Rattle.dumping.specs.Change.{delete_key, delete_text, insert_row, widen, widen_text, with_width}
use Rattle.dumping.specs.Column.{columns_text}
use Rattle.dumping.specs.DumpText.{is_long, steps_text}
use Rattle.dumping.specs.Row.{row_text}
use Rattle.dumping.proofs.ColumnSteps.{addition_steps}
use Rattle.dumping.proofs.RowSteps.{delete_step, row_steps_are}

module _ (tables : Schema) where
  -- a key's table, by the key and by its own number
  record HasTable (key : Key) : Type 0 where
    table : Table
    by_key : table_at tables key.table ≡ Some table
    own : key.table ≡ table.number
    read : key_from table (bytes_of_key key) ≡ Some key

  table_of : (key : Key) → IsKeyIn tables key → HasTable key
  table_of key h = by (table_at tables key.table) refl h
    where
      by : (o : Option Table) → table_at tables key.table ≡ o → IsKeyOfAny o key → HasTable key
      by None e h = absurd h
      by (Some table) e h = record { table = table; by_key = e; own = h.own; read = key_back table key h }

  by_number : (key : Key) (t : HasTable key) → table_at tables t.table.number ≡ Some t.table
  by_number key t = ap (table_at tables) (sym t.own) ∙ t.by_key

  key_deleted : (key : Key) (t : HasTable key) → delete_text tables (bytes_of_key key) ≡ steps_text tables (in_table tables is_long key (λ table. Delete 1 (keys_of table key) ∷ []))
  key_deleted key t =
      ap (λ (o : Option Table). elim o [ None ↦ [] | Some table ↦ delete_key table (key_from table (bytes_of_key key)) ]) t.by_key
      ∙ ap (delete_key t.table) t.read ∙ sym (delete_step tables t.table (by_number key t) key)
      ∙ ap (λ (o : Option Table). steps_text tables (elim o [ None ↦ [] | Some table ↦ Delete 1 (keys_of table key) ∷ [] ])) (sym t.by_key)

  -- a key is deleted where it had a row
  pub deleted : (m : State) (key : Key) (b : Bool) → IsKeyIn tables key → b ≡ is_some (row_at m key) → cond b (delete_text tables (bytes_of_key key)) [] ≡ steps_text tables (delete tables is_long m key)
  deleted m key b h is = ap (λ (b : Bool). cond b (delete_text tables (bytes_of_key key)) []) is ∙ by (is_some (row_at m key))
    where
      by : (b : Bool) → cond b (delete_text tables (bytes_of_key key)) [] ≡ steps_text tables (cond b (in_table tables is_long key (λ table. Delete 1 (keys_of table key) ∷ [])) [])
      by true = key_deleted key (table_of key h)
      by false = refl

  row_inserted : (key : Key) (row : Row) (t : HasTable key) → insert_row tables (bytes_of_key key) (Some row) ≡ steps_text tables (insert tables is_long key (Some row))
  row_inserted key row t =
      ap (λ (o : Option Table). elim o [ None ↦ [] | Some table ↦ row_text table (bytes_of_key key) row ]) t.by_key
      ∙ sym (row_steps_are tables t.table (by_number key t) key (bytes_of_key key) row t.read)
      ∙ ap (λ (o : Option Table). steps_text tables (elim o [ None ↦ [] | Some table ↦ row_steps tables is_long table key row ])) (sym t.by_key)

  pub inserted : (key : Key) (row : Option Row) → IsKeyIn tables key → insert_row tables (bytes_of_key key) row ≡ steps_text tables (insert tables is_long key row)
  inserted key None h = refl
  inserted key (Some row) h = row_inserted key row (table_of key h)

  columns_added : (w : Widths) (key : Key) (row : Row) (t : HasTable key) → widen_text tables w (bytes_of_key key) (Some row) ≡ steps_text tables (widening tables w key (Some row))
  columns_added w key row t =
      ap (λ (o : Option Table). elim o [ None ↦ [] | Some table ↦ columns_text table (width_at w table.number) (length row) ]) t.by_key
      ∙ ap (λ (n : ℕ). columns_text t.table (width_at w n) (length row)) (sym t.own)
      ∙ sym (addition_steps tables t.table (by_number key t) (width_at w key.table) (length row))
      ∙ ap (λ (o : Option Table). steps_text tables (elim o [ None ↦ [] | Some table ↦ additions table (width_at w key.table) (length row) ])) (sym t.by_key)

  pub added : (w : Widths) (key : Key) (row : Option Row) → IsKeyIn tables key → widen_text tables w (bytes_of_key key) row ≡ steps_text tables (widening tables w key row)
  added w key None h = refl
  added w key (Some row) h = columns_added w key row (table_of key h)

  width_taken : (w : Widths) (key : Key) (row : Row) (t : HasTable key) → widen tables w (bytes_of_key key) (Some row) ≡ wider w key (Some row)
  width_taken w key row t =
      ap (λ (o : Option Table). elim o [ None ↦ w | Some table ↦ with_width w table.number (length row) ]) t.by_key
      ∙ ap (λ (n : ℕ). with_width w n (length row)) (sym t.own)

  pub widths_taken : (w : Widths) (key : Key) (row : Option Row) → IsKeyIn tables key → widen tables w (bytes_of_key key) row ≡ wider w key row
  widths_taken w key None h = refl
  widths_taken w key (Some row) h = width_taken w key row (table_of key h)
