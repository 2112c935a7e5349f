-- What a server leaves that goes on from a history, as the program's.
use Rattle.std.proofs.Common.{◌≡◌, ℕ, List, [], Option, Some, None, true, append-nil, refl, subst, sym, ap, ◌∙◌, inl, inr}
use Rattle.std.specs.Prelude.{IfErr, IfOk, IsSome, Result, Ok, Err}
use Rattle.std.proofs.KnownBytes.{Keeps-refl}
use Rattle.clap.specs.Words.{Text}
use Rattle.values.specs.declared.table.Table.{Table}
use Rattle.values.specs.Tables.{Schema, table_at}
use Rattle.steps.specs.Idle.{is_idle}
use Rattle.values.specs.Events.{AreChangesIn, events_of}
use Rattle.values.specs.Log.{changes}
use Rattle.values.specs.Period.{periods_of}
use Rattle.sessions.specs.book.Book.{BookState}
use Rattle.sessions.specs.journal.Entries.{log_from}
use Rattle.sessions.specs.staging.View.{Holds}
use Rattle.serving.specs.Progress.{Given}
use Rattle.runs.specs.Event.{history_after}
use Rattle.dump_reading.specs.ReadableRuns.{ServedRunsKeepTables}
use Rattle.histories.specs.History.{History, has_open, log, schema_after}
use Rattle.histories.proofs.HistoryTables.{tables_only_grow}
use Rattle.interleaving.specs.SystemState.{Stands, SystemState}
use Rattle.listening.specs.declared.server.Plan.{Plan}
use Rattle.listening.specs.declared.server.Served.{Served}
use Rattle.listening.specs.declared.server.ServerFault.{ServerFault}
use Rattle.listening.specs.declared.server.TableRows.{TableRows}
use Rattle.listening.specs.Connection.{HasRead}
use Rattle.listening.specs.Server.{HasServed, HasStopped, IsExportOf, IsRunAfter}
use Rattle.command_line.specs.declared.dumped.Left.{Left}
use Rattle.command_line.specs.declared.fault.Fault.{Fault}
use Rattle.command_line.specs.Dumped.{HasLeft, IsLeftBy}
use Rattle.command_line.specs.Server.{HaltsServing, HasServedAll, IsEndOf, IsFirst, IsNoFirst, left_by, left_of}

some_of : (o : Option Table) → IsSome o → (table : Table) × (o ≡ Some table)
some_of None some = cc some
some_of (Some table) some = (table, refl)

-- a table that is exported is there after a history too
pub exports_on : (s : SystemState) (start : Schema) (before : History) → Stands start s before → (number : Option ℕ) → IsExportOf start number → IsExportOf s.schema number
exports_on s start before stands None there = tt
exports_on s start before stands (Some n) there =
    let (table, at) = some_of (table_at start n) there in
    let grown = tables_only_grow start [] before n table at in
    subst (λ schema. IsSome (table_at schema n)) (sym stands.schema_is)
    (subst (λ h. IsSome (table_at (schema_after start h) n)) (append-nil before)
    (subst IsSome (sym grown.1.0) refl))

-- ---- what a run of sessions comes to

record Ended (start : Schema) (before : History) (plan : Plan) (first : Option TableRows) (receipts : List Given) (b : BookState) (run : IsRunAfter start before plan first receipts b) : Type 0 where
  end : History
  ends : IsEndOf start before plan first receipts b run end
  tables_stay : schema_after start end ≡ schema_after start before
  log_is : log_from (periods_of (schema_after start before)) (log start before) b.entries ≡ log start end

run_ends : ServedRunsKeepTables → (start : Schema) (before : History) (plan : Plan) (first : Option TableRows) (receipts : List Given) (b : BookState) (run : IsRunAfter start before plan first receipts b)
    → Ended start before plan first receipts b run
run_ends keep start before plan None receipts b run = record {
  end = history_after before run.history.events;
  ends = refl;
  tables_stay = keep start before plan.entries b 0 [] run.history.dialogues run.history.events run.history.history;
  log_is = run.history.history.log_is;
}
run_ends keep start before plan (Some rows) receipts b run = record {
  end = history_after before run.history.events;
  ends = refl;
  tables_stay = keep start before plan.entries b rows.number rows.rows.items run.history.dialogues run.history.events run.history.history;
  log_is = run.history.history.log_is;
}

is_left : (start : Schema) (before end : History) (served : Served) → served.tables ≡ schema_after start before → schema_after start end ≡ schema_after start before
    → Holds (schema_after start before) served.closed.engine (changes (log_from (periods_of (schema_after start before)) (log start before) served.closed.entries))
    → log_from (periods_of (schema_after start before)) (log start before) served.closed.entries ≡ log start end
    → IsLeftBy start end (left_by served)
is_left start before end served tables stay holds is = record {
  tables_are = tables ∙ sym stay;
  holds = record {
    events_are = holds.events_are ∙ ap (λ l. events_of (changes l)) is;
    keys = subst (λ t. AreChangesIn t (changes (log start end))) (sym tables) (subst (λ l. AreChangesIn (schema_after start before) (changes l)) is holds.keys);
  };
}

module _ (s : SystemState) (load : Option Text) (plan : Plan) (unread old : Option (List ℕ)) where
  -- there are no rows to be loaded
  pub no_first : (fault : Fault) → IsNoFirst fault load s.schema → (start : Schema) (before : History) → Stands start s before → is_idle (has_open before) ≡ true
      → HaltsServing fault load plan start before unread unread old old
  no_first fault none start before stands idle = inl (subst (IsNoFirst fault load) stands.schema_is none, record { read = Keeps-refl unread; wrote = Keeps-refl old })

  module _ (first : Option TableRows) (first_is : IsFirst s.schema load first) (left new : Option (List ℕ)) (read : HasRead plan.limit unread left) (r : Result Served ServerFault) (x : Result Left Fault) (is : x ≡ left_of r) where
    abbrev Done : Left → Type 0
    Done leaves = (start : Schema) (before : History) → Stands start s before → is_idle (has_open before) ≡ true
        → HasLeft start leaves (λ end. (b : BookState) × HasServedAll load plan start before end b unread left old new)

    abbrev Halted : Fault → Type 0
    Halted fault = (start : Schema) (before : History) → Stands start s before → is_idle (has_open before) ≡ true → HaltsServing fault load plan start before unread left old new

    abbrev WasServed : Served → Type 0
    WasServed served = (start : Schema) (before : History) → Stands start s before → is_idle (has_open before) ≡ true → (served.tables ≡ schema_after start before) × HasServed start before first plan served.closed old new

    pub served_all : ServedRunsKeepTables → IfOk r WasServed → IfOk x Done
    served_all keep served = subst (λ x. IfOk x Done) (sym is) (by r served)
      where
        by : (r : Result Served ServerFault) → IfOk r WasServed → IfOk (left_of r) Done
        by (Ok served) f = λ start before stands idle.
            let its = f start before stands idle in
            let run = its.1 in
            let ended = run_ends keep start before plan first run.receipts served.closed run.run in
            record {
              end = ended.end;
              came_to = (
                served.closed,
                record {
                  first = first;
                  first_is = subst (λ schema. IsFirst schema load first) stands.schema_is first_is;
                  read = read;
                  served = run;
                  ends = ended.ends;
                },
              );
              left_by = is_left start before ended.end served its.0 ended.tables_stay run.closed.is_book.holds ended.log_is;
            }
        by (Err why) f = tt

    abbrev Stopped : ServerFault → Type 0
    Stopped why = (start : Schema) (before : History) → Stands start s before → is_idle (has_open before) ≡ true → HasStopped why start before first plan old new

    pub stops_serving : IfErr r Stopped → IfErr x Halted
    stops_serving stopped = subst (λ x. IfErr x Halted) (sym is) (by r stopped)
      where
        by : (r : Result Served ServerFault) → IfErr r Stopped → IfErr (left_of r) Halted
        by (Ok served) f = tt
        by (Err why) f = λ start before stands idle. inr (record {
          first = first;
          first_is = subst (λ schema. IsFirst schema load first) stands.schema_is first_is;
          read = read;
          why = why;
          fault_is = refl;
          stopped = f start before stands idle;
        })
