-- The dump of what a run came to is taken again: what was asked for was read from a schema and from lines.
use Rattle.std.proofs.Common.{◌≡◌, ℕ, List, [], ◌∷◌, Option, Some, None, sym, subst}
use Rattle.std.specs.Prelude.{Result, Ok, Err, OnOk}
use Rattle.std.specs.List.{AllByRecursion}
use Rattle.clap.specs.Words.{Text}
use Rattle.values.specs.Log.{Row}
use Rattle.values.specs.Tables.{Schema}
use Rattle.histories.specs.History.{History, schema_after}
use Rattle.histories.specs.Led.{led}
use Rattle.sessions.specs.book.Book.{BookState}
use Rattle.serving.specs.Progress.{Given}
use Rattle.statement.specs.GrammarLaw.{ArePlain}
use Rattle.listening.specs.declared.server.Plan.{Plan}
use Rattle.listening.specs.declared.server.TableRows.{TableRows}
use Rattle.listening.specs.Server.{IsRunAfter}
use Rattle.dump_reading.specs.ReadableHistories.{IsReadableHistory, IsReadableSchema, LoadedRowsAreReadable, ReadSchemasAreReadable, ReplaysLeaveReadable, SampleIsReadable, ScriptsLeaveReadable}
use Rattle.dump_reading.specs.ReadableRuns.{ServedRunsLeaveReadable}
use Rattle.dump_reading.specs.Replayed.{HistoriesAreTakenAgain, IsTakenAgain}
use Rattle.command_line.specs.Load.{FileSays, HasLoaded, steps_of}
use Rattle.command_line.specs.Options.{Asked, AskedMode, Listens, Scripts}
use Rattle.command_line.specs.Program.{HasDone, HasRunAll, HasRunMode, HasRunOn, IsComplete, IsSchemaOf, plan_of}
use Rattle.command_line.specs.Replay.{HasReplayed}
use Rattle.command_line.specs.Server.{IsEndOf, IsFirst}

-- what was read is readable
pub record Readings : Type 0 where
  pub schemas : ReadSchemasAreReadable
  pub of_sample : SampleIsReadable
  pub loaded : LoadedRowsAreReadable
  pub replayed : ReplaysLeaveReadable
  pub scripts : ScriptsLeaveReadable
  pub runs : ServedRunsLeaveReadable

module _ (readings : Readings) where
  readable_schema : (file : Option Text) (schema : Schema) → IsSchemaOf file schema → IsReadableSchema schema
  readable_schema None schema is = subst IsReadableSchema (sym is) readings.of_sample
  readable_schema (Some file) schema (text, is) = readings.schemas text schema is

  readable_replay : (schema : Schema) (after : Option Text) (before : History) → HasReplayed schema after before → IsReadableHistory before
  readable_replay schema None before is = subst IsReadableHistory (sym is) tt
  readable_replay schema (Some file) before (text, replays) = readings.replayed schema [] before text replays tt

  plain_rows : (schema : Schema) (text : Text) (number : ℕ) (rows : List Row) → FileSays schema text number (Ok rows) → AllByRecursion ArePlain rows
  plain_rows schema text number rows says = readings.loaded says.table says.bytes rows says.loads

  readable_rows : (number : ℕ) (rows : List Row) (before : History) → AllByRecursion ArePlain rows → IsReadableHistory before → IsReadableHistory (led before (steps_of number rows))
  readable_rows number [] before plain readable = readable
  readable_rows number (row ∷ rows) before plain readable = (tt, (plain, (tt, readable)))

  readable_load : (schema : Schema) (load : Option Text) (before later : History) (old new : Option (List ℕ)) → HasLoaded schema load before later old new → IsReadableHistory before → IsReadableHistory later
  readable_load schema None before later old new (is, kept) readable = subst IsReadableHistory (sym is) readable
  readable_load schema (Some text) before later old new so readable =
      subst IsReadableHistory (sym so.load.leaves)
      (readable_rows so.load.number so.load.rows before (plain_rows (schema_after schema before) text so.load.number so.load.rows so.load.says) readable)

  readable_script : (script : Option Text) (number : Option ℕ) (schema : Schema) (h end : History) (unread left old new : Option (List ℕ)) → HasRunOn script number schema h end unread left old new
      → IsReadableHistory h → IsReadableHistory end
  readable_script script number schema h end unread left old new so readable =
      subst IsReadableHistory (sym so.end_is) (subst IsReadableHistory (sym so.ran.end_is) (readings.scripts schema h so.ran.run.ran.marks so.ran.run.ran.text readable))

  plain_first : (schema : Schema) (load : Option Text) (rows : TableRows) → IsFirst schema load (Some rows) → AllByRecursion ArePlain rows.rows.items
  plain_first schema None rows is = cc
  plain_first schema (Some text) rows (others, is, says) =
      subst (λ (r : TableRows). AllByRecursion ArePlain r.rows.items) (same others rows is) (plain_rows schema text others.number others.rows.items says)
    where
      same : (a b : TableRows) → ◌≡◌ {A = Option TableRows} (Some b) (Some a) → a ≡ b
      same a b is = cc

  readable_run : (start : Schema) (before end : History) (load : Option Text) (plan : Plan) (first : Option TableRows) (receipts : List Given) (b : BookState)
      (run : IsRunAfter start before plan first receipts b) → IsFirst (schema_after start before) load first → IsEndOf start before plan first receipts b run end → IsReadableHistory before → IsReadableHistory end
  readable_run start before end load plan None receipts b run is ends readable =
      subst IsReadableHistory (sym ends) (readings.runs start before plan.entries b 0 [] run.history.dialogues run.history.events run.history.history tt readable)
  readable_run start before end load plan (Some rows) receipts b run is ends readable =
      subst IsReadableHistory (sym ends)
      (readings.runs start before plan.entries b rows.number rows.rows.items run.history.dialogues run.history.events run.history.history (plain_first (schema_after start before) load rows is) readable)

  readable_mode : (mode : AskedMode) (load : Option Text) (number : Option ℕ) (schema : Schema) (before end : History) (unread left old new : Option (List ℕ)) → HasRunMode mode load number schema before end unread left old new
      → IsReadableHistory before → IsReadableHistory end
  readable_mode (Scripts script) load number schema before end unread left old new so readable =
      readable_script script number schema so.later end unread left so.between new so.rest (readable_load schema load before so.later old so.between so.loaded readable)
  readable_mode (Listens port limit entries idle log) load number schema before end unread left old new (b, so) readable =
      readable_run schema before end load (plan_of port limit entries idle log number) so.first so.served.receipts b so.served.run so.first_is so.ends readable

  pub is_taken_again : HistoriesAreTakenAgain → (file : Option Text) (mode : AskedMode) (after load : Option Text) (number : Option ℕ) (schema : Schema) (end : History) (unread left old new : Option (List ℕ)) → IsSchemaOf file schema
      → HasRunAll mode after load number schema end unread left old new → IsTakenAgain schema end
  is_taken_again histories file mode after load number schema end unread left old new is so =
      histories schema end (readable_schema file schema is) (readable_mode mode load number schema so.before end unread left old new so.rest (readable_replay schema after so.before so.replayed))

  pub completes : {A E : Type 0} → HistoriesAreTakenAgain → (r : Result A E) (asked : Asked) (schema : Schema) (unread left old new : Option (List ℕ)) → IsSchemaOf asked.schema schema
      → OnOk r (HasDone asked schema unread left old new) → OnOk r (IsComplete asked unread left old new)
  completes histories (Err e) asked schema unread left old new is did = tt
  completes histories (Ok a) asked schema unread left old new is did = record {
    schema = schema;
    schema_is = is;
    did = did;
    again = is_taken_again histories asked.schema asked.mode asked.after asked.load did.number schema did.end unread left old new is did.ran;
  }
