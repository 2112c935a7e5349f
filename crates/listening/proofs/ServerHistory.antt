-- The one history of a server, from the one that it began with, and with the rows that it loaded first.
use Rattle.std.proofs.Common.{◌≡◌, ℕ, List, [], ◌∷◌, Option, Some, None, inl, inr, ap, sym, subst, ◌∙◌}
use Rattle.values.specs.Log.{Row}
use Rattle.values.specs.Tables.{Schema}
use Rattle.growlog.specs.Origin.{Origin}
use Rattle.histories.specs.History.{History, schema_after}
use Rattle.sessions.specs.book.Book.{BookState, IsBook}
use Rattle.serving.specs.Progress.{Given}
use Rattle.runs.specs.OneHistory.{Carries, come_to}
use Rattle.runs.specs.Run.{IsLoaded}
use Rattle.listening.specs.Connection.{IsOneRun, IsServedRun}
use Rattle.listening.specs.Loading.{IsLoadedAt}
use Rattle.listening.specs.Server.{EndsAfter, HasFirst, HasListened, HasNoFirst, HasServed, HasStopped, IsClosedWith, IsRunAfter, IsRunOf, StopsLate}
use Rattle.listening.specs.declared.server.Plan.{Plan}
use Rattle.listening.specs.declared.server.ServerFault.{ServerFault}
use Rattle.listening.specs.declared.server.TableRows.{TableRows}

loaded : (schema : Schema) (table : ℕ) (rows : List Row) (receipts : List Given) (instant : ℕ) → IsLoadedAt schema table rows receipts instant → IsLoaded schema table rows receipts
loaded schema table [] receipts instant at = at.0
loaded schema table (row ∷ rows) receipts instant at = at.0

-- what stands of each load with these receipts stands of this one
run_after : (start : Schema) (before : History) (schema : Schema) (plan : Plan) (first : Option TableRows) (receipts : List Given) (b : BookState) (old new : Option (List ℕ)) → HasFirst schema first receipts old new
    → ((table : ℕ) (rows : List Row) → IsLoaded schema table rows receipts → IsRunOf start before plan.limit plan.entries table rows receipts b) → IsRunAfter start before plan first receipts b
run_after start before schema plan None receipts b old new first run = run 0 [] first.0
run_after start before schema plan (Some rows) receipts b old new first run =
    run rows.number rows.rows.items (loaded schema rows.number rows.rows.items receipts first.instant first.loaded)

-- ---- by the history that a store began with

module _ (o : Origin) (start : Schema) (before : History) (carries : Carries start before o) (first : Option TableRows) (plan : Plan) (most_is : plan.entries ≡ o.most_entries) where
  origin_is : o ≡ come_to start before plan.entries
  origin_is = carries.origin_is ∙ ap (come_to start before) (sym most_is)

  pub tables_are : o.schema ≡ schema_after start before
  tables_are = ap (λ (o : Origin). o.schema) carries.origin_is

  -- no rows were loaded
  pub unloaded : (fault : ServerFault) (old new : Option (List ℕ)) → HasNoFirst fault o.schema first old new → HasStopped fault start before first plan old new
  unloaded fault old new none = inr (inl (subst (λ s. HasNoFirst fault s first old new) tables_are none))

  module _ (receipts : List Given) (old reported : Option (List ℕ)) (loads : HasFirst o.schema first receipts old reported) where
    loads_so : HasFirst (schema_after start before) first receipts old reported
    loads_so = subst (λ s. HasFirst s first receipts old reported) tables_are loads

    -- a server that came to its end, by tables that are the store's
    module _ (tables : Schema) (copied : o.schema ≡ tables) (listening new : Option (List ℕ)) (b : BookState) (listens : HasListened plan.port reported listening) (closed : IsClosedWith o receipts b)
        (history : (start : Schema) (before : History) → Carries start before o → (table : ℕ) (rows : List Row) → IsLoaded o.schema table rows receipts → IsOneRun start before plan.limit o.most_entries table rows b)
        (handed : (table : ℕ) (rows : List Row) → IsLoaded o.schema table rows receipts → IsServedRun o plan.limit table rows receipts b) where
      run : IsRunAfter start before plan first receipts b
      run =
          run_after start before o.schema plan first receipts b old reported loads
          (λ table rows loaded. record { history = subst (λ most. IsOneRun start before plan.limit most table rows b) (sym most_is) (history start before carries table rows loaded); served = subst (λ o. IsServedRun o plan.limit table rows receipts b) origin_is (handed table rows loaded) })

      closed_so : IsClosedWith (come_to start before plan.entries) receipts b
      closed_so = subst (λ o. IsClosedWith o receipts b) origin_is closed

      pub served : ((o : Origin) → o.schema ≡ tables → IsBook o b → EndsAfter o plan.export b listening new) → HasServed start before first plan b old new
      served ends = record {
        receipts = receipts;
        reported = reported;
        listening = listening;
        loads = loads_so;
        listens = listens;
        closed = closed_so;
        run = run;
        ends = subst (λ o. EndsAfter o plan.export b listening new) origin_is (ends o copied closed.is_book);
      }

      pub stopped : (fault : ServerFault) → ((o : Origin) → o.schema ≡ tables → IsBook o b → StopsLate fault o plan.export b listening new) → HasStopped fault start before first plan old new
      stopped fault ends = inr (inr (inr (record {
        receipts = receipts;
        reported = reported;
        listening = listening;
        b = b;
        loads = loads_so;
        listens = listens;
        closed = closed_so;
        run = run;
        stops = subst (λ o. StopsLate fault o plan.export b listening new) origin_is (ends o copied closed.is_book);
      })))
