-- What a served run leaves is of readable steps, and its tables are those before it.
use Rattle.std.proofs.Common.{◌≡◌, ◌≢◌, ◌⊎◌, ℕ, ◌==◌, Bool, true, false, cond, length, List, [], ◌∷◌, Option, Some, None, refl, sym, subst, inl, inr, ◌∙◌, arith}
use Rattle.std.proofs.lemmas.Bool.Decides.{nat_tests}
use Rattle.std.specs.List.{AllByRecursion}
use Rattle.values.specs.Log.{Row}
use Rattle.values.specs.Tables.{Schema}
use Rattle.steps.specs.declared.step.Step.{Step}
use Rattle.steps.specs.declared.step.Step.TheVariants.{Begin, Insert, Update, Delete, UpdatePortion, DeletePortion, Select, Commit, Rollback, AddColumn, SplitKey, SplitTime, Migrate}
use Rattle.steps.specs.declared.step.Reply.{Reply}
use Rattle.steps.specs.Idle.{is_idle}
use Rattle.histories.specs.History.{History, has_open, schema_after, schema_by}
use Rattle.statement.specs.GrammarLaw.{ArePlain}
use Rattle.serving.specs.book.Book.{BookState}
use Rattle.runs.specs.Event.{Event, history_after, of_part, with_step}
use Rattle.runs.specs.OneHistory.{Dialogue, OneHistory, service_part}
use Rattle.runs.specs.Tells.{TellsAll}
use Rattle.dump_reading.specs.ReadableHistories.{IsReadableHistory}
use Rattle.dump_reading.specs.ReadableRuns.{ServedRunsKeepTables, ServedRunsLeaveReadable}
use Rattle.dump_reading.proofs.ReadableRunsSteps.{AddsNone, AreGood, IsGoodEvent, IsGoodFor, all_tell, load_tells, service_tells}

same_number : (n m : ℕ) → (n == m) ≡ true → n ≡ m
same_number n m is = grind (arith, nat_tests, is)

apart : (n m : ℕ) → (n == m) ≡ false → n ≢ m
apart n m is = λ e. grind (arith, nat_tests, is, e)

itself : (n : ℕ) → (n == n) ≡ true
itself n = grind (arith, nat_tests)

module _ (R : Type 0) where
  -- all events are good where those of each part are
  of_all : (events : List Event) → ((i : ℕ) → AreGood R (of_part i events)) → AreGood R events
  of_all [] each = tt
  of_all (e ∷ events) each = (head (e.part == e.part) (itself e.part) (each e.part), of_all events (λ i. rest i (e.part == i) (each i)))
    where
      head : (b : Bool) → b ≡ true → AreGood R (cond b (e ∷ of_part e.part events) (of_part e.part events)) → IsGoodEvent R e
      head true is good = good.0
      head false is good = cc

      rest : (i : ℕ) (b : Bool) → AreGood R (cond b (e ∷ of_part i events) (of_part i events)) → AreGood R (of_part i events)
      rest i true good = good.1
      rest i false good = good

  readable_with : (step : Option (Step × Reply)) (h : History) → IsGoodFor R step → R → IsReadableHistory h → IsReadableHistory (with_step step h)
  readable_with None h good r readable = readable
  readable_with (Some s) h good r readable = (good.0 r, readable)

  pub readable_after : (events : List Event) (h : History) → AreGood R events → R → IsReadableHistory h → IsReadableHistory (history_after h events)
  readable_after [] h good r readable = readable
  readable_after (e ∷ events) h good r readable = readable_after events (with_step e.step h) good.1 r (readable_with e.step h good.0 r readable)

  module _ (first : Schema) where
    stays : (now : Schema) (idle : Bool) (step : Step) → AddsNone step → schema_by now idle step ≡ now
    stays now idle (Begin j) none = refl
    stays now idle (Insert j number rows) none = refl
    stays now idle (Update j keys sets) none = refl
    stays now idle (Delete j keys) none = refl
    stays now idle (UpdatePortion j keys cut sets) none = refl
    stays now idle (DeletePortion j keys cut) none = refl
    stays now idle (Select j form keys) none = refl
    stays now idle (Commit j reading) none = refl
    stays now idle (Rollback j) none = refl
    stays now idle (AddColumn j number name of) none = absurd none
    stays now idle (SplitKey key) none = refl
    stays now idle (SplitTime key instant) none = refl
    stays now idle Migrate none = refl

    tables_with : (step : Option (Step × Reply)) (h : History) → IsGoodFor R step → schema_after first (with_step step h) ≡ schema_after first h
    tables_with None h good = refl
    tables_with (Some s) h good = stays (schema_after first h) (is_idle (has_open h)) s.0 good.1

    pub tables_after : (events : List Event) (h : History) → AreGood R events → schema_after first (history_after h events) ≡ schema_after first h
    tables_after [] h good = refl
    tables_after (e ∷ events) h good = tables_after events (with_step e.step h) good.1 ∙ tables_with e.step h good.0

module _ (first : Schema) (before : History) (most : ℕ) (b : BookState) (table : ℕ) (rows : List Row) (dialogues : List Dialogue) (events : List Event)
    (one : OneHistory first before most b table rows dialogues events) where
  abbrev Plain : Type 0
  Plain = AllByRecursion ArePlain rows

  of_sessions : (i : ℕ) (ds : List Dialogue) → AllByRecursion (λ d. TellsAll (schema_after first before) (length b.entries ≡ most) d.number [] d.talks (of_part d.number events)) ds
      → AreGood Plain (of_part i events) ⊎ AllByRecursion (λ d. d.number ≢ i) ds
  of_sessions i [] all = inr tt
  of_sessions i (d ∷ ds) all = by (d.number == i) refl (of_sessions i ds all.1)
    where
      by : (same : Bool) → (d.number == i) ≡ same → AreGood Plain (of_part i events) ⊎ AllByRecursion (λ d. d.number ≢ i) ds
          → AreGood Plain (of_part i events) ⊎ AllByRecursion (λ d. d.number ≢ i) (d ∷ ds)
      by true is rest = inl (subst (λ n. AreGood Plain (of_part n events)) (same_number d.number i is) (all_tell Plain d.number (schema_after first before) (length b.entries ≡ most) [] d.talks (of_part d.number events) all.0))
      by false is (inl good) = inl good
      by false is (inr none) = inr (apart d.number i is, none)

  of_each : (i : ℕ) → AreGood Plain (of_part i events)
  of_each i = by (i == 0) refl (i == service_part) refl (of_sessions i dialogues one.sent)
    where
      by : (loads : Bool) → (i == 0) ≡ loads → (serves : Bool) → (i == service_part) ≡ serves → AreGood Plain (of_part i events) ⊎ AllByRecursion (λ d. d.number ≢ i) dialogues → AreGood Plain (of_part i events)
      by true is serves its of_them = subst (λ n. AreGood Plain (of_part n events)) (sym (same_number i 0 is)) (load_tells Plain table rows (of_part 0 events) (λ plain. plain) one.loaded)
      by false is true its of_them = subst (λ n. AreGood Plain (of_part n events)) (sym (same_number i service_part its)) (service_tells Plain (of_part service_part events) one.service)
      by false is false its (inl good) = good
      by false is false its (inr none) = subst (AreGood Plain) (sym (one.no_other i (apart i 0 is) (apart i service_part its) none)) tt

  pub all_good : AreGood Plain events
  all_good = of_all Plain events of_each

pub served_runs_leave_readable : ServedRunsLeaveReadable
served_runs_leave_readable first before most b table rows dialogues events one plain readable =
    readable_after (AllByRecursion ArePlain rows) events before (all_good first before most b table rows dialogues events one) plain readable

pub served_runs_keep_tables : ServedRunsKeepTables
served_runs_keep_tables first before most b table rows dialogues events one =
    tables_after (AllByRecursion ArePlain rows) first events before (all_good first before most b table rows dialogues events one)
