-- The text of a dump is taken as its steps: columns, transactions, and all of them.
use Rattle.std.proofs.Common.{◌≡◌, ℕ, ◌+◌, ◌-◌, ◌<◌, ◌≤◌, ◌^◌, suc, max, Bool, true, false, List, [], ◌∷◌, ◌++◌, Option, Some, None, refl, sym, ap, subst, ◌∙◌, arith, append-nil, append_assoc, take, drop, length, map, not, set-set}
use Rattle.std.specs.Prelude.{◌==◌, ◌&&◌, ◌||◌, if◌then◌else◌, is_none, is_some, nat_le, nat_lt, slice_set, codes, decimal}
use Rattle.std.specs.List.{AllByRecursion, flat_map, slice_get}
use Rattle.std.proofs.lemmas.Bool.Decides.{nat_tests}
use Rattle.std.proofs.lemmas.Grind.{flat_map-append}
use Rattle.values.specs.declared.key.Key.{Key}
use Rattle.values.specs.declared.key.Transaction.{Transaction}
use Rattle.values.specs.declared.refusal.Refusal.{Refusal}
use Rattle.values.specs.declared.table.Column.{Column}
use Rattle.values.specs.declared.table.ColumnType.{ColumnType}
use Rattle.values.specs.declared.table.Table.{Table}
use Rattle.values.specs.Columns.{add_column, addition_fault, is_good_type, is_name_of, new_column, with_column}
use Rattle.values.specs.Faults.{bad_row}
use Rattle.values.specs.Log.{Log, Net, Row, State, last as last_instant, row_at, state}
use Rattle.values.specs.TableRules.{AreTables}
use Rattle.values.specs.Tables.{Schema, table_at, widest}
use Rattle.values.proofs.ColumnsTables.{added_by}
use Rattle.steps.specs.declared.step.Reply.{Reply}
use Rattle.steps.specs.declared.step.Reply.TheVariants.{Refused}
use Rattle.steps.specs.declared.step.Step.{Step}
use Rattle.steps.specs.declared.step.Step.TheVariants.{AddColumn, Begin, Commit, Delete, DeletePortion, Insert, Migrate, Rollback, Select, SplitKey, SplitTime, Update, UpdatePortion}
use Rattle.steps.specs.Idle.{is_idle}
use Rattle.steps.specs.Misfit.{max_session, misfit}
use Rattle.steps.specs.Reply.{is_refused}
use Rattle.steps.proofs.MisfitKeys.{no_fault}
use Rattle.histories.specs.History.{History, has_open, log, replies, reply, reply_in, schema_after, schema_by}
use Rattle.histories.specs.Led.{led}
use Rattle.histories.proofs.Memory.{idle_alike}
use Rattle.statement.specs.Condition.{table_of}
use Rattle.statement.specs.Line.{line_says}
use Rattle.statement.specs.Print.{line, numbered}
use Rattle.lines.specs.Lines.{lines_of}
use Rattle.scripts.specs.Replay.{lines_leave}
use Rattle.scripts.specs.Transcript.{Progress, after}
use Rattle.dump_steps.specs.Dump.{delete, dump_from, insert, keys_of, row_steps, transaction_steps, write_steps}
use Rattle.dump_steps.specs.Widths.{Widths, additions, widen_all, wider, widening, widths_after, widths_of, width_at}
use Rattle.dump_steps.specs.DumpLaw.{DumpsAnswerAlike, HistoriesAreDumped}
use Rattle.dumping.specs.DumpText.{addition_text, dump_text, is_long, step_text, steps_text, text_from, transaction_text}
use Rattle.dump_reading.specs.Readable.{AreReadableChanges, AreReadableTables, IsReadableChange, IsReadableLog, IsReadableTransaction}
use Rattle.dump_reading.specs.Replayed.{DumpsAreReplayed, HistoriesAreTakenAgain, steps_of}
use Rattle.dump_reading.proofs.ReadableTables.{AreFree, CanBeAdded, IsReadableTable, at_place, can_add, cut, first_free, first_narrowed, free_at, free_beyond, free_more, got_same, named_kept, names_behind, narrowed, narrowed_more, narrowed_there, not_zero, other_width, part_free, place_of, readable_table, set_same, table_found, width}
use Rattle.dump_reading.proofs.ReadableHistoriesLogs.{logs_are_readable}
use Rattle.dump_reading.proofs.ReadableHistoriesTables.{grown_tables_are_readable}
use Rattle.dump_reading.proofs.ReplayedLines.{addition_says, begin_says, clock_says, clock_text, commit_says}
use Rattle.dump_reading.proofs.ReplayedLengths.{IsLineOf, addition_within, begin_within, clock_within, commit_within}
use Rattle.dump_reading.proofs.ReplayedText.{Takes, takes_both, takes_clock, takes_none, takes_step}
use Rattle.dump_reading.proofs.ReplayedWrites.{AreReadableWrites, IsKnown, IsWrite, deleted, inserted, refusal_at, writes_joined}

led_append : (h : History) (a b : List Step) → led h (a ++ b) ≡ led (led h a) b
led_append h [] b = refl
led_append h (step ∷ a) b = led_append (step ∷ h) a b

abbrev at_reading : History → ℕ → Progress
at_reading h reading = record { history = h; reading = reading }

module _ (first last : Schema) where
  -- the steps are taken in turn
  abbrev AreTaken : History → List Step → Type 0
  AreTaken h steps = AllByRecursion (λ r. is_refused r ≡ false) (replies first h steps)

  taken_parts : (a b : List Step) (h : History) → AreTaken h (a ++ b) → AreTaken h a × AreTaken (led h a) b
  taken_parts [] b h taken = (tt, taken)
  taken_parts (step ∷ a) b h taken = let rest = taken_parts a b (step ∷ h) taken.1 in ((taken.0, rest.0), rest.1)

  -- a step that is taken fits
  taken_fits : (h : History) (step : Step) → is_refused (reply first h step) ≡ false → misfit (schema_after first h) step ≡ None
  taken_fits h step taken = by (misfit (schema_after first h) step) taken
    where
      by : (o : Option Refusal) → is_refused (elim o as (λ _. Reply) [ Some refusal ↦ Refused refusal | None ↦ reply_in first h step ]) ≡ false → o ≡ None
      by None taken = refl
      by (Some refusal) taken = cc

  -- the text of steps with others behind them
  abbrev text_of : List Step → List ℕ
  text_of steps = steps_text last steps

  -- the text is taken, and leaves the steps
  abbrev TakesSteps : History → (reading : ℕ) → List Step → Type 0
  TakesSteps h reading steps = Takes first (at_reading h reading) (at_reading (led h steps) reading) (text_of steps)

  takes_one : (h : History) (reading : ℕ) (step : Step) (steps : List Step) → IsLineOf (schema_after first h) reading step (step_text last step) → is_refused (reply first h step) ≡ false
      → TakesSteps (step ∷ h) reading steps → TakesSteps h reading (step ∷ steps)
  takes_one h reading step steps is taken rest =
      takes_both first (at_reading h reading) (at_reading (step ∷ h) reading) (at_reading (led (step ∷ h) steps) reading) (step_text last step) (text_of steps)
      (takes_step first (at_reading h reading) step (step_text last step) is taken) rest

  -- ---- no transaction is open

  abbrev IsClosed : History → Type 0
  IsClosed h = (i : ℕ) → has_open h i ≡ false

  closed_idle : (h : History) → IsClosed h → is_idle (has_open h) ≡ true
  closed_idle h closed = idle_alike max_session (has_open h) (λ i. false) (λ j small. closed j)

  -- ---- columns that are added

  abbrev added : Table → Column → Step
  added table c = AddColumn 1 table.number c.name c.of

  good_type : (table : Table) (name : List ℕ) (of : ColumnType) → addition_fault name of table ≡ None → is_good_type of ≡ true
  good_type table name of fits = by (is_name_of table name) (not (nat_lt (length table.columns) widest)) (is_good_type of) fits
    where
      by : (a b c : Bool) → ◌≡◌ {A = Option ℕ} (if a || (b || not c) then Some 0 else None) None → c ≡ true
      by true b c is = cc
      by false true c is = cc
      by false false true is = refl
      by false false false is = cc

  own_column : (c : Column) → c.not_null ≡ false → new_column c.name c.of ≡ c
  own_column c free = ap (λ (b : Bool). record { name = c.name; of = c.of; not_null = b }) (sym free)

  column_added : (h : History) (now : Schema) (table : Table) (c : Column) → schema_after first h ≡ now → misfit now (added table c) ≡ None → IsClosed h → c.not_null ≡ false
      → schema_after first (added table c ∷ h) ≡ add_column table.number c now
  column_added h now table c is fits closed free =
      ap (λ (s : Schema). schema_by s (is_idle (has_open h)) (added table c)) is
      ∙ ap (λ (o : Option Refusal). if is_none o && is_idle (has_open h) then add_column table.number (new_column c.name c.of) now else now) fits
      ∙ ap (λ b. if b then add_column table.number (new_column c.name c.of) now else now) (closed_idle h closed)
      ∙ ap (λ (d : Column). add_column table.number d now) (own_column c free)

  module _ (table : Table) (at_last : table_at last table.number ≡ Some table) (readable : IsReadableTable table.number table) where
    abbrev place : ℕ
    place = table.number - 1

    -- what the steps leave of the tables
    record AddsColumns (h : History) (reading : ℕ) (now : Schema) (t : Table) (cs : List Column) : Type 0 where
      takes : TakesSteps h reading (map (added table) cs)
      tables_are : schema_after first (led h (map (added table) cs)) ≡ record { tables = slice_set now.tables place (record t { columns = t.columns ++ cs }) }
      closed : IsClosed (led h (map (added table) cs))

    columns_added : (cs : List Column) (h : History) (reading : ℕ) (now : Schema) (t : Table) → schema_after first h ≡ now → table_at now table.number ≡ Some t → table_of now table.name ≡ table.number
        → CanBeAdded cs → IsClosed h → AreTaken h (map (added table) cs) → AddsColumns h reading now t cs
    columns_added [] h reading now t is at named can closed taken = record {
      takes = takes_none first (at_reading h reading);
      tables_are = is ∙ ap (λ (ts : List Table). record { tables = ts })
          (sym (set_same now.tables place t (place_of now.tables table.number t at).1)
          ∙ ap (λ (cs : List Column). slice_set now.tables place (record t { columns = cs })) (sym (append-nil t.columns)));
      closed = closed;
    }
    columns_added (c ∷ cs) h reading now t is at named can closed taken =
        let step : Step = added table c in
        let fits : misfit now step ≡ None = subst (λ (s : Schema). misfit s step ≡ None) is (taken_fits h step taken.0) in
        let faultless : addition_fault c.name c.of t ≡ None = no_fault (addition_fault c.name c.of t) (refusal_at now table.number t (λ u. bad_row (addition_fault c.name c.of u)) at fits) in
        let typed = good_type t c.name c.of faultless in
        let text : Table → List ℕ = λ u. line (addition_text u c.name c.of) in
        let wide : Table = with_column c t in
        let there = place_of now.tables table.number t at in
        let more : Schema = record { tables = slice_set now.tables place wide } in
        let added_now : add_column table.number c now ≡ more = ap (added_by now table.number c) at in
        let rest = columns_added cs (step ∷ h) reading more wide
        (column_added h now table c is fits closed can.0.1 ∙ added_now)
        (at_place (slice_set now.tables place wide) table.number wide there.0 (got_same now.tables place t wide there.1))
        (ap (λ (s : Schema). table_of s table.name) (sym added_now) ∙ named_kept now table.number c table.name ∙ named)
        can.1 closed taken.1 in
        record {
          takes = takes_one h reading step (map (added table) cs)
              (subst (λ (s : Schema). IsLineOf s reading step (step_text last step)) (sym is) (record {
                body = addition_text table c.name c.of;
                text_is = ap (λ (o : Option Table). elim o as (λ _. List ℕ) [ None ↦ [] | Some u ↦ text u ]) at_last;
                within = addition_within table readable.own c.name c.of can.0.0 typed;
                says = addition_says now table readable.own named reading c.name c.of can.0.0 typed fits;
              }))
              taken.0 rest.takes;
          tables_are = rest.tables_are ∙ ap (λ (ts : List Table). record { tables = ts })
              (set-set now.tables place wide (record t { columns = (t.columns ++ c ∷ []) ++ cs })
              ∙ ap (λ (ds : List Column). slice_set now.tables place (record t { columns = ds })) (append_assoc t.columns (c ∷ []) cs));
          closed = rest.closed;
        }

  -- ---- where the dump has come to

  -- the last tables, each with so many of its columns, and no transaction is open
  record HasCome (w : Widths) (h : History) : Type 0 where
    tables_are : schema_after first h ≡ record { tables = narrowed w last.tables }
    free : AreFree w last.tables
    closed : IsClosed h

  -- the text of the steps is taken, and the tables have then these widths
  record Comes (h : History) (reading : ℕ) (steps : List Step) (w : Widths) : Type 0 where
    takes : TakesSteps h reading steps
    come : HasCome w (led h steps)

  comes_none : (w : Widths) (h : History) (reading : ℕ) → HasCome w h → Comes h reading [] w
  comes_none w h reading come = record { takes = takes_none first (at_reading h reading); come = come }

  takes_append : (h : History) (reading later : ℕ) (q : Progress) (a b : List Step) → Takes first (at_reading h reading) (at_reading (led h a) later) (text_of a)
      → Takes first (at_reading (led h a) later) q (text_of b) → Takes first (at_reading h reading) q (text_of (a ++ b))
  takes_append h reading later q a b f g =
      subst (λ (l : List ℕ). Takes first (at_reading h reading) q l) (sym (flat_map-append (step_text last) a b))
      (takes_both first (at_reading h reading) (at_reading (led h a) later) q (text_of a) (text_of b) f g)

  comes_both : (h : History) (reading : ℕ) (a b : List Step) (v w : Widths) → Comes h reading a v → Comes (led h a) reading b w → Comes h reading (a ++ b) w
  comes_both h reading a b v w f g = record {
    takes = subst (λ (l : History). Takes first (at_reading h reading) (at_reading l reading) (text_of (a ++ b))) (sym (led_append h a b))
        (takes_append h reading reading (at_reading (led (led h a) b) reading) a b f.takes g.takes);
    come = subst (HasCome w) (sym (led_append h a b)) g.come;
  }

  module _ (tables : AreReadableTables first last) where
    -- what stands at a number of the last tables
    readable_at : (number : ℕ) (table : Table) → table_at last number ≡ Some table → IsReadableTable number table
    readable_at number table at = readable_table last number table tables.after tables.names at

    known_at : (w : Widths) (h : History) (table : Table) → HasCome w h → table_at last table.number ≡ Some table → IsKnown (schema_after first h) table
    known_at w h table come at =
        let there = place_of last.tables table.number table at in
        let place = table.number - 1 in
        let stands = narrowed_there table w last.tables place come.free there.1 in
        subst (λ (s : Schema). IsKnown s table) (sym come.tables_are) (record {
          width = width w place;
          some = (free_at table w last.tables place come.free there.1).0;
          at = at_place (narrowed w last.tables) table.number (cut (width w place) table) there.0 stands;
          named = table_found w last.tables place table (cut (width w place) table) stands there.1 tables.names.own.1;
        })

    -- the columns of one table, up to a width
    widened : (w : Widths) (h : History) (reading : ℕ) (table : Table) (to : ℕ) → HasCome w h → table_at last table.number ≡ Some table
        → AreTaken h (additions table (width_at w table.number) to)
        → Comes h reading (additions table (width_at w table.number) to) (slice_set w (table.number - 1) (max (width_at w table.number) to))
    widened w h reading table to come at taken =
        let place = table.number - 1 in
        let from = width w place in
        let there = place_of last.tables table.number table at in
        let stands = narrowed_there table w last.tables place come.free there.1 in
        let readable = readable_at table.number table at in
        let new : List Column = drop from (take to table.columns) in
        let adds = columns_added table at readable new h reading (record { tables = narrowed w last.tables }) (cut from table)
        come.tables_are
        (at_place (narrowed w last.tables) table.number (cut from table) there.0 stands)
        (table_found w last.tables place table (cut from table) stands there.1 tables.names.own.1)
        (can_add new (names_behind from to table.columns readable.names.0) (part_free from to table.columns (free_at table w last.tables place come.free there.1).1))
        come.closed taken in
        record {
          takes = adds.takes;
          come = record {
            tables_are = adds.tables_are ∙ ap (λ (ts : List Table). record { tables = ts }) (narrowed_more w last.tables place table to there.1);
            free = free_more w last.tables place to come.free;
            closed = adds.closed;
          };
        }

    -- the columns that a row has
    row_widens : (w : Widths) (h : History) (reading : ℕ) (key : Key) (row : Option Row) → 1 ≤ key.table → HasCome w h
        → AreTaken h (widening last w key row) → Comes h reading (widening last w key row) (wider w key row)
    row_widens w h reading key None some come taken = comes_none w h reading come
    row_widens w h reading key (Some row) some come taken = by (table_at last key.table) refl taken
      where
        by : (o : Option Table) → table_at last key.table ≡ o
            → AreTaken h (elim o as (λ _. List Step) [ None ↦ [] | Some table ↦ additions table (width_at w key.table) (length row) ])
            → Comes h reading (elim o as (λ _. List Step) [ None ↦ [] | Some table ↦ additions table (width_at w key.table) (length row) ]) (wider w key (Some row))
        by None none taken =
            let beyond = free_beyond w last.tables (key.table - 1) (max (width_at w key.table) (length row)) come.free (nowhere none) in
            subst (Comes h reading []) (sym beyond) (comes_none w h reading come)
          where
            nowhere : table_at last key.table ≡ None → slice_get last.tables (key.table - 1) ≡ None
            nowhere none = sym (ap (λ (b : Bool). let o : Option Table = if b then None else slice_get last.tables (key.table - 1) in o) (not_zero key.table some)) ∙ none
        by (Some table) at taken =
            let is : table.number ≡ key.table = ((readable_at key.table table at).good).numbered in
            subst (λ n. AreTaken h (additions table (width_at w n) (length row)) → Comes h reading (additions table (width_at w n) (length row)) (slice_set w (n - 1) (max (width_at w n) (length row)))) is
            (widened w h reading table (length row) come (subst (λ n. table_at last n ≡ Some table) (sym is) at)) taken

    -- the columns that the rows of a transaction have
    all_widen : (net : Net) (w : Widths) (h : History) (reading : ℕ) → AreReadableChanges net → HasCome w h
        → AreTaken h (widen_all last w net) → Comes h reading (widen_all last w net) (widths_after w net)
    all_widen [] w h reading readable come taken = comes_none w h reading come
    all_widen (c ∷ net) w h reading readable come taken =
        let a : List Step = widening last w c.0 c.1 in
        let b : List Step = widen_all last (wider w c.0 c.1) net in
        let parts = taken_parts a b h taken in
        let one = row_widens w h reading c.0 c.1 (readable.0).of_table come parts.0 in
        comes_both h reading a b (wider w c.0 c.1) (widths_after (wider w c.0 c.1) net) one
        (all_widen net (wider w c.0 c.1) (led h a) reading readable.1 one.come parts.1)

    -- ---- the writes of a transaction

    module _ (now : Schema) where
      writes_keep : (step : Step) (h : History) → IsWrite step → (schema_after first (step ∷ h) ≡ schema_after first h) × ((i : ℕ) → has_open (step ∷ h) i ≡ has_open h i)
      writes_keep (Insert i number rows) h is = (refl, λ j. refl)
      writes_keep (Update i keys sets) h is = (refl, λ j. refl)
      writes_keep (Delete i keys) h is = (refl, λ j. refl)
      writes_keep (UpdatePortion i keys cut sets) h is = absurd is
      writes_keep (DeletePortion i keys cut) h is = absurd is
      writes_keep (Begin i) h is = absurd is
      writes_keep (Select i form keys) h is = absurd is
      writes_keep (Commit i reading) h is = absurd is
      writes_keep (Rollback i) h is = absurd is
      writes_keep (AddColumn i number name of) h is = absurd is
      writes_keep (SplitKey key) h is = absurd is
      writes_keep (SplitTime key instant) h is = absurd is
      writes_keep Migrate h is = absurd is

      record Writes (h : History) (reading : ℕ) (steps : List Step) : Type 0 where
        takes : TakesSteps h reading steps
        tables_stay : schema_after first (led h steps) ≡ schema_after first h
        open_stay : (i : ℕ) → has_open (led h steps) i ≡ has_open h i

      all_written : (steps : List Step) (h : History) (reading : ℕ) → schema_after first h ≡ now → AreReadableWrites last now steps → AreTaken h steps → Writes h reading steps
      all_written [] h reading is readable taken = record { takes = takes_none first (at_reading h reading); tables_stay = refl; open_stay = λ i. refl }
      all_written (step ∷ steps) h reading is readable taken =
          let keeps = writes_keep step h (readable.0).writes in
          let rest = all_written steps (step ∷ h) reading (keeps.0 ∙ is) readable.1 taken.1 in
          let fits : misfit now step ≡ None = subst (λ (s : Schema). misfit s step ≡ None) is (taken_fits h step taken.0) in
          record {
            takes = takes_one h reading step steps (subst (λ (s : Schema). IsLineOf s reading step (step_text last step)) (sym is) ((readable.0).reads fits reading)) taken.0 rest.takes;
            tables_stay = rest.tables_stay ∙ keeps.0;
            open_stay = λ i. rest.open_stay i ∙ keeps.1 i;
          }

    module _ (w : Widths) (h : History) (come : HasCome w h) where
      abbrev Now : Schema
      Now = schema_after first h

      each_deleted : (m : State) (key : Key) (row : Option Row) → IsReadableChange key row → AreReadableWrites last Now (delete last is_long m key)
      each_deleted m key row readable = by (is_some (row_at m key)) (table_at last key.table) refl
        where
          by : (t : Bool) (o : Option Table) → table_at last key.table ≡ o
              → AreReadableWrites last Now (if t then elim o as (λ _. List Step) [ None ↦ [] | Some table ↦ Delete 1 (keys_of table key) ∷ [] ] else [])
          by false o at = tt
          by true None at = tt
          by true (Some table) at =
              let is : table.number ≡ key.table = ((readable_at key.table table at).good).numbered in
              let here : table_at last table.number ≡ Some table = subst (λ n. table_at last n ≡ Some table) (sym is) at in
              (deleted last Now table here (readable_at table.number table here) (known_at w h table come here) key readable.plain_key, tt)

      each_inserted : (key : Key) (row : Option Row) → IsReadableChange key row → AreReadableWrites last Now (insert last is_long key row)
      each_inserted key None readable = tt
      each_inserted key (Some row) readable = by (table_at last key.table) refl
        where
          by : (o : Option Table) → table_at last key.table ≡ o → AreReadableWrites last Now (elim o as (λ _. List Step) [ None ↦ [] | Some table ↦ row_steps last is_long table key row ])
          by None at = tt
          by (Some table) at =
              let is : table.number ≡ key.table = ((readable_at key.table table at).good).numbered in
              let here : table_at last table.number ≡ Some table = subst (λ n. table_at last n ≡ Some table) (sym is) at in
              inserted last Now table here (readable_at table.number table here) (known_at w h table come here) key readable.plain_key row readable.plain_row

      all_deleted : (m : State) (net : Net) → AreReadableChanges net → AreReadableWrites last Now (flat_map (λ c. delete last is_long m c.0) net)
      all_deleted m [] readable = tt
      all_deleted m (c ∷ net) readable =
          writes_joined last Now (delete last is_long m c.0) (flat_map (λ c. delete last is_long m c.0) net) (each_deleted m c.0 c.1 readable.0) (all_deleted m net readable.1)

      all_inserted : (net : Net) → AreReadableChanges net → AreReadableWrites last Now (flat_map (λ c. insert last is_long c.0 c.1) net)
      all_inserted [] readable = tt
      all_inserted (c ∷ net) readable =
          writes_joined last Now (insert last is_long c.0 c.1) (flat_map (λ c. insert last is_long c.0 c.1) net) (each_inserted c.0 c.1 readable.0) (all_inserted net readable.1)

      all_readable : (m : State) (net : Net) → AreReadableChanges net → AreReadableWrites last Now (write_steps last is_long m net)
      all_readable m net readable =
          writes_joined last Now (flat_map (λ c. delete last is_long m c.0) net) (flat_map (λ c. insert last is_long c.0 c.1) net) (all_deleted m net readable) (all_inserted net readable)

      -- ---- a transaction

      abbrev steps : State → Transaction → List Step
      steps m t = transaction_steps last is_long m t

      record Commits (reading : ℕ) (m : State) (t : Transaction) : Type 0 where
        takes : Takes first (at_reading h reading) (at_reading (led h (steps m t)) t.instant) (transaction_text last m t)
        come_still : HasCome w (led h (steps m t))

      clock_line : (t : Transaction) → numbered (codes "clock: ") t.instant ≡ line (clock_text t.instant)
      clock_line t = sym (append_assoc (codes "clock: ") (decimal t.instant) (10 ∷ []))

      committed : (reading : ℕ) (m : State) (t : Transaction) → IsReadableTransaction t → AreTaken h (steps m t) → Commits reading m t
      committed reading m t readable taken =
          let writes : List Step = write_steps last is_long m t.net in
          let begun : History = Begin 1 ∷ h in
          let ends : List Step = Commit 1 t.instant ∷ [] in
          let parts = taken_parts writes ends begun taken.1 in
          let wrote = all_written Now writes begun t.instant refl (all_readable m t.net readable.changes) parts.0 in
          let done : History = led begun writes in
          let led_is : led h (steps m t) ≡ Commit 1 t.instant ∷ done = led_append begun writes ends in
          let commit_taken : TakesSteps done t.instant ends = takes_one done t.instant (Commit 1 t.instant) []
          (record { body = codes "1: COMMIT"; text_is = refl; within = commit_within; says = commit_says (schema_after first done) t.instant })
          parts.1.0 (takes_none first (at_reading (Commit 1 t.instant ∷ done) t.instant)) in
          let behind : Takes first (at_reading begun t.instant) (at_reading (Commit 1 t.instant ∷ done) t.instant) (text_of (writes ++ ends)) =
          takes_append begun t.instant t.instant (at_reading (Commit 1 t.instant ∷ done) t.instant) writes ends wrote.takes commit_taken in
          let small : t.instant < 2 ^ 64 = let bound = readable.within in omega (arith, bound) in
          record {
            takes = subst (λ (g : History). Takes first (at_reading h reading) (at_reading g t.instant) (transaction_text last m t)) (sym led_is)
                (takes_both first (at_reading h reading) (at_reading h t.instant) (at_reading (Commit 1 t.instant ∷ done) t.instant) (numbered (codes "clock: ") t.instant) (text_of (steps m t))
                (subst (λ (l : List ℕ). Takes first (at_reading h reading) (at_reading h t.instant) l) (sym (clock_line t))
                (takes_clock first (at_reading h reading) (clock_text t.instant) t.instant (clock_within t.instant small) (clock_says Now reading t.instant readable.within)))
                (takes_both first (at_reading h t.instant) (at_reading begun t.instant) (at_reading (Commit 1 t.instant ∷ done) t.instant) (line (codes "1: BEGIN")) (text_of (writes ++ ends))
                (takes_step first (at_reading h t.instant) (Begin 1) (line (codes "1: BEGIN")) (record { body = codes "1: BEGIN"; text_is = refl; within = begin_within; says = begin_says Now t.instant }) taken.0)
                behind));
            come_still = subst (HasCome w) (sym led_is) (record {
              tables_are = wrote.tables_stay ∙ come.tables_are;
              free = come.free;
              closed = λ i. ended i (i == 1) (has_open done i) refl (wrote.open_stay i);
            });
          }
        where
          ended : (i : ℕ) (t now : Bool) → (i == 1) ≡ t → now ≡ (((i == 1) && nat_le i max_session) || has_open h i) → (not t && now) ≡ false
          ended i true now one is = refl
          ended i false now one is = is ∙ ap (λ b. (b && nat_le i max_session) || has_open h i) one ∙ come.closed i

    -- ---- all of them

    -- the text is taken, and no transaction is open then
    record Ends (h : History) (reading : ℕ) (steps : List Step) (text : List ℕ) : Type 0 where
      later : ℕ
      takes : Takes first (at_reading h reading) (at_reading (led h steps) later) text
      closed : IsClosed (led h steps)

    -- ---- the columns that no row has

    -- tables of the last ones, from a number on
    abbrev StandFrom : ℕ → List Table → Type 0
    StandFrom n [] = Unit {0}
    StandFrom n (t ∷ ts) = ((t.number ≡ n) × (table_at last t.number ≡ Some t)) × StandFrom (n + 1) ts

    lasts_added : (ts : List Table) (n : ℕ) (w now : Widths) (h : History) (reading : ℕ) → 1 ≤ n → StandFrom n ts → HasCome now h → ((j : ℕ) → n ≤ j → width_at now j ≡ width_at w j)
        → AreTaken h (flat_map (λ t. additions t (width_at w t.number) (length t.columns)) ts)
        → Ends h reading (flat_map (λ t. additions t (width_at w t.number) (length t.columns)) ts) (text_of (flat_map (λ t. additions t (width_at w t.number) (length t.columns)) ts))
    lasts_added [] n w now h reading some stand come same taken = record { later = reading; takes = takes_none first (at_reading h reading); closed = come.closed }
    lasts_added (t ∷ ts) n w now h reading some stand come same taken =
        let a : List Step = additions t (width_at w t.number) (length t.columns) in
        let b : List Step = flat_map (λ t. additions t (width_at w t.number) (length t.columns)) ts in
        let parts = taken_parts a b h taken in
        let here : width_at now t.number ≡ width_at w t.number = same t.number (omega (arith, (stand.0).0)) in
        let wide : Widths = slice_set now (t.number - 1) (max (width_at w t.number) (length t.columns)) in
        let one : Comes h reading a wide = subst (λ k. AreTaken h (additions t k (length t.columns)) → Comes h reading (additions t k (length t.columns)) (slice_set now (t.number - 1) (max k (length t.columns)))) here
        (widened now h reading t (length t.columns) come (stand.0).1) parts.0 in
        let rest = lasts_added ts (n + 1) w wide (led h a) reading (omega arith) stand.1 one.come
        (λ j above. other_width now (t.number - 1) (j - 1) (max (width_at w t.number) (length t.columns)) (before t.number j ((stand.0).0) above) ∙ same j (omega (arith, above))) parts.1 in
        record {
          later = rest.later;
          takes = subst (λ (g : History). Takes first (at_reading h reading) (at_reading g rest.later) (text_of (a ++ b))) (sym (led_append h a b))
              (takes_append h reading reading (at_reading (led (led h a) b) rest.later) a b one.takes rest.takes);
          closed = subst IsClosed (sym (led_append h a b)) rest.closed;
        }
      where
        before : (m j : ℕ) → m ≡ n → n + 1 ≤ j → m - 1 < j - 1
        before m j is above = omega (arith, is, above, some)

    stand_from : (ts : List Table) (n : ℕ) → AreTables n ts → ((i : ℕ) (t : Table) → slice_get ts i ≡ Some t → table_at last (n + i) ≡ Some t) → StandFrom n ts
    stand_from [] n are at = tt
    stand_from (t ∷ ts) n are at =
        let here : n + 0 ≡ n = omega arith in (
          ((are.0).numbered, subst (λ m. table_at last m ≡ Some t) (here ∙ sym (are.0).numbered) (at 0 t refl)),
          stand_from ts (n + 1) are.1 (λ i u there. let e : n + suc i ≡ (n + 1) + i = omega arith in subst (λ m. table_at last m ≡ Some u) e (at (suc i) u there)),
        )

    all_stand : StandFrom 1 last.tables
    all_stand = stand_from last.tables 1 tables.after (λ i t at.
        let some : ((1 + i) == 0) ≡ false = grind (arith, nat_tests) in
        let back : (1 + i) - 1 ≡ i = omega arith in
        at_place last.tables (1 + i) t some (ap (slice_get last.tables) back ∙ at))

    -- ---- the whole text

    all_taken : (done rest : Log) (w : Widths) (h : History) (reading : ℕ) → IsReadableLog rest → HasCome w h → AreTaken h (dump_from last is_long w done rest)
        → Ends h reading (dump_from last is_long w done rest) (text_from last w done rest)
    all_taken done [] w h reading readable come taken = lasts_added last.tables 1 w w h reading (omega arith) all_stand come (λ j above. refl) taken
    all_taken done (t ∷ rest) w h reading readable come taken =
        let wide : List Step = widen_all last w t.net in
        let m : State = state done (last_instant done) in
        let made : List Step = transaction_steps last is_long m t in
        let after : Widths = widths_after w t.net in
        let others : List Step = dump_from last is_long after (done ++ t ∷ []) rest in
        let parts = taken_parts wide (made ++ others) h taken in
        let grown = all_widen t.net w h reading (readable.0).changes come parts.0 in
        let g : History = led h wide in
        let more = taken_parts made others g parts.1 in
        let one = committed after g grown.come reading m t readable.0 more.0 in
        let k : History = led g made in
        let behind = all_taken (done ++ t ∷ []) rest after k t.instant readable.1 one.come_still more.1 in
        let led_is : led h (dump_from last is_long w done (t ∷ rest)) ≡ led k others = led_append h wide (made ++ others) ∙ led_append g made others in
        record {
          later = behind.later;
          takes = subst (λ (l : History). Takes first (at_reading h reading) (at_reading l behind.later) (text_from last w done (t ∷ rest))) (sym led_is)
              (takes_both first (at_reading h reading) (at_reading g reading) (at_reading (led k others) behind.later) (text_of wide) (transaction_text last m t ++ text_from last after (done ++ t ∷ []) rest) grown.takes
              (takes_both first (at_reading g reading) (at_reading k t.instant) (at_reading (led k others) behind.later) (transaction_text last m t) (text_from last after (done ++ t ∷ []) rest) one.takes behind.takes));
          closed = subst IsClosed (sym led_is) behind.closed;
        }

pub dumps_are_replayed : DumpsAreReplayed
dumps_are_replayed first last log tables readable taken =
    let start : HasCome first last (widths_of first) [] = record {
      tables_are = ap (λ (ts : List Table). record { tables = ts }) (first_narrowed first.tables last.tables tables.grown);
      free = first_free 1 first.tables last.tables tables.before tables.grown;
      closed = λ i. refl;
    } in
    let ends = all_taken first last tables [] log (widths_of first) [] 0 readable start taken in
    let text : List ℕ = dump_text first last log in
    let it = (ends.takes).goes_on 0 [] in
    record {
      progress = at_reading (led [] (steps_of first last log)) ends.later;
      leaves = ap (λ (l : List ℕ). lines_leave first line_says 0 0 (after []) (lines_of l)) (sym (append-nil text)) ∙ it.1;
      later_is = refl;
      idle = closed_idle first last (led [] (steps_of first last log)) ends.closed;
    }

-- by the laws of the steps
pub histories_are_taken_again : HistoriesAreDumped → DumpsAnswerAlike → HistoriesAreTakenAgain
histories_are_taken_again dumped alike first h schema readable =
    let gone = dumped is_long first h schema.good in
    record {
      replays = dumps_are_replayed first (schema_after first h) (log first h) (grown_tables_are_readable first h schema readable) (logs_are_readable first h schema.good readable) gone.1;
      tables_are = gone.0.tables_are;
      log_is = gone.0.log_is;
      goes_on = λ idle steps. alike is_long first h steps schema.good idle;
    }
