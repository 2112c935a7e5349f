-- The lines of a row are those of the steps.
use Rattle.std.proofs.Common.{◌≡◌, ℕ, ◌+◌, Bool, true, false, List, [], ◌∷◌, ◌++◌, Option, Some, refl, sym, ap, ◌∙◌, append_assoc, append-nil, cond}
use Rattle.std.proofs.lemmas.Grind.{flat_map-append}
use Rattle.values.specs.declared.key.Key.{Key}
use Rattle.values.specs.declared.table.Table.{Table}
use Rattle.values.specs.declared.value.Value.{Value}
use Rattle.values.specs.KeyReading.{key_from}
use Rattle.values.specs.Log.{Row}
use Rattle.values.specs.Tables.{Schema, table_at}
use Rattle.steps.specs.declared.step.Step.TheVariants.{Insert, Update, Delete}
use Rattle.statement.specs.Print.{line}
use Rattle.dump_steps.specs.Dump.{keys_of, row_steps}
use Rattle.dump_steps.specs.Pieces.{cut_short, is_set_apart, settings}
use Rattle.dumping.specs.Deletion.{delete_line}
use Rattle.dumping.specs.DumpText.{delete_text, each_line, insert_text, is_long, step_text, steps_text, update_text}
use Rattle.dumping.specs.Row.{insert_line, pieces_text, row_text, settings_text, update_line}
use Rattle.dumping.proofs.ColumnSteps.{found}
use Rattle.dumping.proofs.RowLines.{short_line, whole_line}

module _ (tables : Schema) (table : Table) (here : table_at tables table.number ≡ Some table) where
  -- ---- deletions

  pub delete_step : (key : Key) → steps_text tables (Delete 1 (keys_of table key) ∷ []) ≡ delete_line table key
  delete_step key =
      append-nil (step_text tables (Delete 1 (keys_of table key)))
      ∙ found (λ t. line (delete_text t (keys_of table key))) table (table_at tables table.number) here
      ∙ simp append_assoc

  -- ---- updates

  update_line_is : (key : Key) (column : ℕ) (v : Value) → line (update_text table (keys_of table key) (record { column = column; value = v })) ≡ update_line table key column v
  update_line_is key column v = simp append_assoc

  update_step : (key : Key) (column : ℕ) (v : Value) → steps_text tables (Update 1 (keys_of table key) (record { column = column; value = v } ∷ []) ∷ []) ≡ update_line table key column v
  update_step key column v =
      append-nil (step_text tables (Update 1 (keys_of table key) (record { column = column; value = v } ∷ [])))
      ∙ found (λ t. each_line (update_text t (keys_of table key)) (record { column = column; value = v } ∷ [])) table (table_at tables table.number) here
      ∙ append-nil (line (update_text table (keys_of table key) (record { column = column; value = v })))
      ∙ update_line_is key column v

  setting_steps : (key : Key) (column : ℕ) (v : Value) (b : Bool) → steps_text tables (cond b (Update 1 (keys_of table key) (record { column = column; value = v } ∷ []) ∷ []) []) ≡ cond b (update_line table key column v) []
  setting_steps key column v true = update_step key column v
  setting_steps key column v false = refl

  pub settings_steps : (key : Key) (column : ℕ) (row : Row) → steps_text tables (settings table (keys_of table key) column row) ≡ settings_text table key column row
  settings_steps key column [] = refl
  settings_steps key column (v ∷ row) =
      flat_map-append (step_text tables) (cond (is_set_apart table column v) (Update 1 (keys_of table key) (record { column = column; value = v } ∷ []) ∷ []) []) (settings table (keys_of table key) (column + 1) row)
      ∙ (λ i. setting_steps key column v (is_set_apart table column v) i ++ settings_steps key (column + 1) row i)

  -- ---- insertions

  insert_step : (row : Row) → step_text tables (Insert 1 table.number (row ∷ [])) ≡ line (insert_text table row)
  insert_step row =
      found (λ t. each_line (insert_text t) (row ∷ [])) table (table_at tables table.number) here
      ∙ append-nil (line (insert_text table row))

  row_by : (key : Key) (row : Row) (b : Bool)
      → steps_text tables (cond b (Insert 1 table.number (cut_short table 1 row ∷ []) ∷ settings table (keys_of table key) 1 row) (Insert 1 table.number (row ∷ []) ∷ []))
      ≡ cond b (pieces_text table (Some key) row) (insert_line false table row)
  row_by key row true = λ i. (insert_step (cut_short table 1 row) ∙ short_line table row) i ++ settings_steps key 1 row i
  row_by key row false = append-nil (step_text tables (Insert 1 table.number (row ∷ []))) ∙ insert_step row ∙ whole_line table row

  pub row_steps_are : (key : Key) (bytes : List ℕ) (row : Row) → key_from table bytes ≡ Some key → steps_text tables (row_steps tables is_long table key row) ≡ row_text table bytes row
  row_steps_are key bytes row read =
      row_by key row (is_long table row)
      ∙ ap (λ (o : Option Key). cond (is_long table row) (pieces_text table o row) (insert_line false table row)) (sym read)
