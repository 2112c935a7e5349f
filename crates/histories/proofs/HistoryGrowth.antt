-- What was committed stays, and the instants rise.
use Rattle.std.proofs.Common.{◌≡◌, ℕ, ◌<◌, [], ◌∷◌, ◌++◌, Option, Some, None, refl, sym, ap, subst, ◌∙◌, append-nil, append_assoc}
use Rattle.std.specs.Prelude.{Result, Ok, Err}
use Rattle.values.specs.declared.refusal.Refusal.{Refusal}
use Rattle.values.specs.Tables.{Schema}
use Rattle.values.specs.Log.{Log, Net, last, changes}
use Rattle.values.specs.Law.{IsLog, shown_rows}
use Rattle.values.specs.declared.query.Form.TheVariants.{AsOf}
use Rattle.values.specs.Period.{periods_of}
use Rattle.values.specs.Commits.{outcome, log_after, after}
use Rattle.values.proofs.CommitsAbove.{outcome_above}
use Rattle.values.proofs.LawAsOf.{as_of_stays}
use Rattle.values.proofs.LogPush.{Rises-push}
use Rattle.steps.specs.declared.step.Step.{Step}
use Rattle.steps.specs.declared.step.Step.TheVariants.{Begin, Insert, Update, Delete, UpdatePortion, DeletePortion, Select, Commit, Rollback, AddColumn, SplitKey, SplitTime, Migrate}
use Rattle.histories.specs.History.{History, schema_after, log, log_at_begin, own, net_change_of}
use Rattle.histories.specs.Law.{LogsRise, LaterStepsAdd, PastStays}

pub rises_ended : (log : Log) (net : Net) (end : Result (Option ℕ) Refusal) → ((i : ℕ) → end ≡ Ok (Some i) → last log < i) → IsLog log → IsLog (log_after log net end)
rises_ended log net (Ok (Some i)) above r = Rises-push log 0 (record { instant = i; net = net }) r (above i refl)
rises_ended log net (Ok None) above r = r
rises_ended log net (Err e) above r = r

pub adds_ended : (log : Log) (net : Net) (end : Result (Option ℕ) Refusal) → (added : Log) × (log_after log net end ≡ log ++ added)
adds_ended log net (Ok (Some i)) = (record { instant = i; net = net } ∷ [], refl)
adds_ended log net (Ok None) = ([], sym (append-nil log))
adds_ended log net (Err e) = ([], sym (append-nil log))

pub log_rises : (schema : Schema) → LogsRise schema
log_rises schema [] = tt
log_rises schema (Commit i reading ∷ h) =
    elim (log_at_begin schema h i) as (λ o. IsLog (elim o [ None ↦ log schema h | Some before ↦ after (periods_of (schema_after schema h)) (log schema h) (last before) (net_change_of (schema_after schema h) (log schema h) (log_at_begin schema h i) (own schema h i)) reading ])) [
      | None ↦ log_rises schema h
      | Some before ↦ rises_ended (log schema h) _ _ (λ i e. outcome_above (periods_of (schema_after schema h)) (changes (log schema h)) (last (log schema h)) _ _ reading i e) (log_rises schema h)
    ]
log_rises schema (Begin i ∷ h) = log_rises schema h
log_rises schema (Insert i number rows ∷ h) = log_rises schema h
log_rises schema (Update i keys sets ∷ h) = log_rises schema h
log_rises schema (Delete i keys ∷ h) = log_rises schema h
log_rises schema (UpdatePortion i keys cut sets ∷ h) = log_rises schema h
log_rises schema (DeletePortion i keys cut ∷ h) = log_rises schema h
log_rises schema (Select i form keys ∷ h) = log_rises schema h
log_rises schema (Rollback i ∷ h) = log_rises schema h
log_rises schema (AddColumn i number name of ∷ h) = log_rises schema h
log_rises schema (SplitKey key ∷ h) = log_rises schema h
log_rises schema (SplitTime key instant ∷ h) = log_rises schema h
log_rises schema (Migrate ∷ h) = log_rises schema h

-- one step adds at most one transaction
pub step_adds : (schema : Schema) (h : History) (step : Step) → (added : Log) × (log schema (step ∷ h) ≡ log schema h ++ added)
step_adds schema h (Commit i reading) =
    elim (log_at_begin schema h i) as (λ o. (added : Log) × (elim o [ None ↦ log schema h | Some before ↦ after (periods_of (schema_after schema h)) (log schema h) (last before) (net_change_of (schema_after schema h) (log schema h) (log_at_begin schema h i) (own schema h i)) reading ] ≡ log schema h ++ added)) [
      | None ↦ ([], sym (append-nil (log schema h)))
      | Some before ↦ adds_ended (log schema h) _ _
    ]
step_adds schema h (Begin i) = ([], sym (append-nil (log schema h)))
step_adds schema h (Insert i number rows) = ([], sym (append-nil (log schema h)))
step_adds schema h (Update i keys sets) = ([], sym (append-nil (log schema h)))
step_adds schema h (Delete i keys) = ([], sym (append-nil (log schema h)))
step_adds schema h (UpdatePortion i keys cut sets) = ([], sym (append-nil (log schema h)))
step_adds schema h (DeletePortion i keys cut) = ([], sym (append-nil (log schema h)))
step_adds schema h (Select i form keys) = ([], sym (append-nil (log schema h)))
step_adds schema h (Rollback i) = ([], sym (append-nil (log schema h)))
step_adds schema h (AddColumn i number name of) = ([], sym (append-nil (log schema h)))
step_adds schema h (SplitKey key) = ([], sym (append-nil (log schema h)))
step_adds schema h (SplitTime key instant) = ([], sym (append-nil (log schema h)))
step_adds schema h Migrate = ([], sym (append-nil (log schema h)))

pub later_steps_add : (schema : Schema) → LaterStepsAdd schema
later_steps_add schema h [] = ([], sym (append-nil (log schema h)))
later_steps_add schema h (step ∷ later) =
    let before = later_steps_add schema h later in
    let now = step_adds schema (later ++ h) step in
    (before.0 ++ now.0, now.1 ∙ ap (λ (l : Log). l ++ now.0) before.1 ∙ append_assoc (log schema h) before.0 now.0)

pub past_stays : (schema : Schema) → PastStays schema
past_stays schema h later t table keys below =
    let more = later_steps_add schema h later in
    let rises : IsLog (log schema h ++ more.0) = subst IsLog more.1 (log_rises schema (later ++ h)) in
    ap (λ (l : Log). shown_rows (changes l) table (AsOf t) keys) more.1 ∙ as_of_stays (log schema h) more.0 t table keys rises below
