-- Whether a session has a transaction open, by the steps of its lines.
use Rattle.std.proofs.Common.{◌≡◌, ℕ, ◌≤◌, Bool, true, false, List, [], ◌∷◌, Option, Some, None, is_some, refl, sym, ap, subst, ◌∙◌}
use Rattle.std.specs.Prelude.{not, ◌&&◌, ◌||◌}
use Rattle.values.specs.declared.refusal.Refusal.{Refusal}
use Rattle.values.specs.declared.key.Key.{Key}
use Rattle.values.specs.Tables.{Schema}
use Rattle.values.specs.KeyEncoding.{bytes_of_key}
use Rattle.steps.specs.declared.step.Step.{Step}
use Rattle.steps.specs.declared.step.Step.TheVariants.{Begin, Insert, Update, Delete, UpdatePortion, DeletePortion, Select, Commit, Rollback, AddColumn, SplitKey, SplitTime, Migrate}
use Rattle.steps.specs.declared.step.Reply.{Reply}
use Rattle.steps.specs.declared.step.Reply.TheVariants.{Refused}
use Rattle.steps.specs.Misfit.{max_session, misfit, key_misfit}
use Rattle.histories.specs.History.{History, has_open}
use Rattle.histories.proofs.StandsEnds.{itself}
use Rattle.serving.specs.journal.declared.entry.Entry.{Entry}
use Rattle.serving.specs.journal.declared.entry.Entry.TheVariants.{Begin as Begins, Commit as Commits, Split as Splits, Install as Installs}
use Rattle.serving.specs.validation.declared.cut.Cut.{Cut}
use Rattle.serving.specs.validation.declared.cut.Cut.TheVariants.{Key as KeyCut, Time as TimeCut}
use Rattle.serving.specs.sessions.SessionState.{write_by}
use Rattle.serving.proofs.sessions.StoreOfHistoryAlike.{begins_itself}
use Rattle.serving.specs.Progress.{Given, IsRefusedStep, Progress, Replies, Takes, TakesSplit, after, own_of, takes_split, with_own}
use Rattle.runs.specs.Event.{history_after}
use Rattle.runs.specs.Run.{is_reading}
use Rattle.runs.specs.Tells.{with_reading}
use Rattle.runs.proofs.TellsEvents.{events_of, read_by, taking_all}
use Rattle.runs.proofs.OneHistoryBeside.{Held, IsOwnStep}

abbrev pub open_in : Progress → Bool
open_in p = is_some p.transaction

module _ (i : ℕ) where
  -- ---- the steps of a line's events

  none_all : (h : History) (g : Given) (given : List Given) → history_after h (taking_all i g None given) ≡ h
  none_all h g [] = refl
  none_all h g (next ∷ given) = none_all h next given

  none_after : (h : History) (last : ℕ) (given : List Given) → history_after h (events_of i last None given) ≡ h
  none_after h last [] = refl
  none_after h last (g ∷ given) = none_all h g given

  by_reading : (r : ℕ) (step : Step) (h : History) → has_open (with_reading r step ∷ h) i ≡ has_open (step ∷ h) i
  by_reading r (Begin j) h = refl
  by_reading r (Insert j table rows) h = refl
  by_reading r (Update j keys sets) h = refl
  by_reading r (Delete j keys) h = refl
  by_reading r (UpdatePortion j keys cut sets) h = refl
  by_reading r (DeletePortion j keys cut) h = refl
  by_reading r (Select j form keys) h = refl
  by_reading r (Commit j said) h = refl
  by_reading r (Rollback j) h = refl
  by_reading r (AddColumn j table name of) h = refl
  by_reading r (SplitKey key) h = refl
  by_reading r (SplitTime key instant) h = refl
  by_reading r Migrate h = refl

  by_entry : (e : Entry) (step : Step) (h : History) → has_open (read_by e step ∷ h) i ≡ has_open (step ∷ h) i
  by_entry (Commits session begin net reading end) step h = by_reading reading step h
  by_entry (Begins session earlier view) step h = refl
  by_entry (Splits cut done) step h = refl
  by_entry (Installs rect block done) step h = refl

  step_all : (h : History) (g : Given) (step : Step) (reply : Reply) (given : List Given) → has_open (history_after h (taking_all i g (Some (step, reply)) given)) i ≡ has_open (step ∷ h) i
  step_all h g step reply [] = by_entry g.entry step h
  step_all h g step reply (next ∷ given) = step_all h next step reply given

  step_after : (h : History) (last : ℕ) (step : Step) (reply : Reply) (given : List Given) → has_open (history_after h (events_of i last (Some (step, reply)) given)) i ≡ has_open (step ∷ h) i
  step_after h last step reply [] = refl
  step_after h last step reply (g ∷ given) = step_all h g step reply given

module _ (schema : Schema) (i : ℕ) (small : i ≤ max_session) where
  -- ---- a step

  begun : (h : History) (j : ℕ) → j ≡ i → has_open (Begin j ∷ h) i ≡ true
  begun h j is = subst (λ j. has_open (Begin j ∷ h) i ≡ true) (sym is) (λ k. begins_itself i small k || has_open h i)

  committed : (h : History) (j reading : ℕ) → j ≡ i → has_open (Commit j reading ∷ h) i ≡ false
  committed h j reading is = subst (λ j. has_open (Commit j reading ∷ h) i ≡ false) (sym is) (λ k. not (itself i k) && has_open h i)

  rolled_back : (h : History) (j : ℕ) → j ≡ i → has_open (Rollback j ∷ h) i ≡ false
  rolled_back h j is = subst (λ j. has_open (Rollback j ∷ h) i ≡ false) (sym is) (λ k. not (itself i k) && has_open h i)

  kept : (step : Step) (u : Option Refusal) (t : Held) → is_some (with_own t (write_by schema step u (own_of t)).1) ≡ is_some t
  kept step None None = refl
  kept step (Some refusal) None = refl
  kept step None (Some t) = refl
  kept step (Some refusal) (Some t) = refl

  abbrev SplitBy : Cut → Progress → Progress → List Given → Reply → Option Refusal → Type 0
  SplitBy cut p p' given reply u = elim u [
    | Some refusal ↦ Replies (Refused refusal) p given reply p'
    | None ↦ TakesSplit schema i cut p given reply p'
  ]

  split : (key : Key) (cut : Cut) (p p' : Progress) (given : List Given) (reply : Reply) → takes_split schema i key cut p given reply p' → p' ≡ p
  split key cut p p' given reply did = by (key_misfit schema key) did
    where
      by : (u : Option Refusal) → SplitBy cut p p' given reply u → p' ≡ p
      by (Some refusal) did = did.left
      by None did = did.left

  module _ (h : History) (receipt : ℕ) (given : List Given) (reply : Reply) (p' : Progress) where
    -- it has one open where what was left has
    stays : (t : Held) (q : Progress) → has_open h i ≡ is_some t → p' ≡ q → open_in q ≡ is_some t → has_open h i ≡ open_in p'
    stays t q is same still = is ∙ sym still ∙ sym (ap open_in same)

    pub own_moves : (step : Step) (t : Held) → IsOwnStep i step → Takes is_reading schema i step (after receipt t) given reply p' → has_open h i ≡ is_some t → has_open (step ∷ h) i ≡ open_in p'
    own_moves (Begin j) None its did is = begun h j its ∙ sym (ap open_in did.left)
    own_moves (Begin j) (Some t) its did is = begun h j its ∙ sym (ap open_in did.left)
    own_moves (Insert j table rows) t its did is = stays t _ is did.left (kept (Insert i table rows) (misfit schema (Insert i table rows)) t)
    own_moves (Update j keys sets) t its did is = stays t _ is did.left (kept (Update i keys sets) (misfit schema (Update i keys sets)) t)
    own_moves (Delete j keys) t its did is = stays t _ is did.left (kept (Delete i keys) (misfit schema (Delete i keys)) t)
    own_moves (UpdatePortion j keys cut sets) t its did is = stays t _ is did.left (kept (UpdatePortion i keys cut sets) (misfit schema (UpdatePortion i keys cut sets)) t)
    own_moves (DeletePortion j keys cut) t its did is = stays t _ is did.left (kept (DeletePortion i keys cut) (misfit schema (DeletePortion i keys cut)) t)
    own_moves (Select j form keys) None its did is = is ∙ sym (ap open_in did.left)
    own_moves (Select j form keys) (Some t) its did is = is ∙ sym (ap open_in did.left)
    own_moves (Commit j said) None its did is = committed h j said its ∙ sym (ap open_in did.left)
    own_moves (Commit j said) (Some t) its did is = committed h j said its ∙ sym (ap open_in did.left)
    own_moves (Rollback j) None its did is = rolled_back h j its ∙ sym (ap open_in did.left)
    own_moves (Rollback j) (Some t) its did is = rolled_back h j its ∙ sym (ap open_in did.left)
    own_moves (AddColumn j table name of) t its did is = absurd its
    own_moves (SplitKey key) t its did is = is ∙ sym (ap open_in (split key (KeyCut (bytes_of_key key)) (after receipt t) p' given reply did))
    own_moves (SplitTime key instant) t its did is = is ∙ sym (ap open_in (split key (TimeCut (bytes_of_key key) instant) (after receipt t) p' given reply did))
    own_moves Migrate t its did is = absurd its

  -- ---- a step that is refused since there is no room

  pub refused_stays : (step : Step) (p p' : Progress) (given : List Given) (refusal : Refusal) → IsRefusedStep schema i step p given refusal p' → open_in p' ≡ open_in p
  refused_stays step p p' [] refusal did = ap open_in did.left
  refused_stays (Select j form keys) p p' (g ∷ given) refusal did = ap open_in did.1.1.left ∙ sym (ap is_some did.0)
  refused_stays Migrate p p' (g ∷ given) refusal did = ap open_in did.left
  refused_stays (Begin j) p p' (g ∷ given) refusal did = absurd did
  refused_stays (Insert j table rows) p p' (g ∷ given) refusal did = absurd did
  refused_stays (Update j keys sets) p p' (g ∷ given) refusal did = absurd did
  refused_stays (Delete j keys) p p' (g ∷ given) refusal did = absurd did
  refused_stays (UpdatePortion j keys cut sets) p p' (g ∷ given) refusal did = absurd did
  refused_stays (DeletePortion j keys cut) p p' (g ∷ given) refusal did = absurd did
  refused_stays (Commit j said) p p' (g ∷ given) refusal did = absurd did
  refused_stays (Rollback j) p p' (g ∷ given) refusal did = absurd did
  refused_stays (AddColumn j table name of) p p' (g ∷ given) refusal did = absurd did
  refused_stays (SplitKey key) p p' (g ∷ given) refusal did = absurd did
  refused_stays (SplitTime key instant) p p' (g ∷ given) refusal did = absurd did

-- ---- after a line's events

module _ (i last : ℕ) where
  -- a transaction is open after the events where it is in what was come to
  abbrev pub Opens : Progress → Progress → Option (Step × Reply) → List Given → Type 0
  Opens p p' step given = (h : History) → has_open h i ≡ open_in p → has_open (history_after h (events_of i last step given)) i ≡ open_in p'

  pub none_opens : (p p' : Progress) (given : List Given) → open_in p' ≡ open_in p → Opens p p' None given
  none_opens p p' given same h is = ap (λ h. has_open h i) (none_after i h last given) ∙ is ∙ sym same

  pub step_opens : (p p' : Progress) (step : Step) (reply : Reply) (given : List Given) → ((h : History) → has_open h i ≡ open_in p → has_open (step ∷ h) i ≡ open_in p') → Opens p p' (Some (step, reply)) given
  step_opens p p' step reply given moves h is = step_after i h last step reply given ∙ moves h is
