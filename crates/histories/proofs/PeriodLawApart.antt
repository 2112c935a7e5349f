-- No two rows of one entity overlap, whatever was committed, nor do two that a session sees.
use Rattle.std.proofs.Common.{◌≡◌, ℕ, ◌≤◌, ◌<◌, Bool, true, false, List, [], ◌∷◌, ◌++◌, Option, Some, None, refl, sym, ap, subst, ◌∙◌, arith, nat_le}
use Rattle.std.specs.Prelude.{Result, Ok, Err}
use Rattle.std.proofs.lemmas.Bool.Decides.{nat_tests}
use Rattle.values.specs.declared.key.Key.{Key}
use Rattle.values.specs.declared.key.Transaction.{Transaction}
use Rattle.values.specs.declared.refusal.Refusal.{Refusal}
use Rattle.values.specs.Tables.{Schema, table_at}
use Rattle.values.specs.TableRules.{AreTables}
use Rattle.values.specs.Log.{State, Net, Log, apply_net, replay, state, last, changes}
use Rattle.values.specs.Law.{IsLog}
use Rattle.values.specs.Period.{Periods, periods_of}
use Rattle.values.specs.Commits.{outcome, log_after, after}
use Rattle.values.specs.Writes.{net_of}
use Rattle.values.proofs.LogPush.{upto_all, Rises-push}
use Rattle.steps.specs.declared.step.Step.TheVariants.{Begin, Insert, Update, Delete, UpdatePortion, DeletePortion, Select, Commit, Rollback, AddColumn, SplitKey, SplitTime, Migrate}
use Rattle.periods.specs.NoOverlap.{IsKeyedIn}
use Rattle.periods.proofs.NoOverlapMerge.{IsOver, commit_apart}
use Rattle.periods.proofs.NoOverlapNets.{each_net, new_of_net}
use Rattle.periods.proofs.NoOverlapStatements.{IsSound}
use Rattle.histories.specs.History.{History, schema_after, log, log_at_begin, own, own_of, snap, snap_of, mine, net}
use Rattle.histories.specs.PeriodLaw.{NeverOverlap, OwnNeverOverlap}
use Rattle.values.proofs.CommitsAbove.{outcome_above}
use Rattle.histories.proofs.HistoryGrowth.{log_rises}
use Rattle.histories.proofs.HistoryOwn.{own_fits}
use Rattle.histories.proofs.HistoryPast.{snap_below}
use Rattle.histories.proofs.HistoryTables.{periods_stay}
use Rattle.histories.proofs.PeriodLawTables.{tables_are, sound_now, sound_first}
use Rattle.histories.proofs.PeriodLawWrites.{writes_sound, writes_after}
use Rattle.histories.proofs.Winners.{none_found}
use Rattle.histories.proofs.WorldGrowth.{upto_later, last_push}

-- ---- a log with one transaction more

replay_push : (log : Log) (m : State) (t : Transaction) → replay m (log ++ t ∷ []) ≡ apply_net (replay m log) t.net
replay_push [] m t = refl
replay_push (u ∷ log) m t = replay_push log (apply_net m u.net) t

state_now : (log : Log) → IsLog log → replay [] log ≡ state log (last log)
state_now log rises = ap (replay []) (sym (upto_all log 0 (last log) rises (let same : last log ≤ last log = omega arith in same)))

pub state_push : (log : Log) (t : Transaction) (s : ℕ) → IsLog log → last log < t.instant → t.instant ≤ s → state (log ++ t ∷ []) s ≡ apply_net (state log (last log)) t.net
state_push log t s rises above within =
    ap (replay []) (upto_all (log ++ t ∷ []) 0 s (Rises-push log 0 t rises above) (subst (λ n. n ≤ s) (sym (last_push log t)) within))
    ∙ replay_push log [] t ∙ ap (λ (m : State). apply_net m t.net) (state_now log rises)

decided : {P : Type 0} (b : Bool) (i t : ℕ) → nat_le i t ≡ b → (i ≤ t → P) → (t < i → P) → P
decided true i t e from_then before = from_then (grind (arith, nat_tests))
decided false i t e from_then before = before (grind (arith, nat_tests))

-- the keys that a session's transaction wrote
abbrev pub written_keys : Schema → History → ℕ → List Key
written_keys first h i = (own_of (schema_after first h) (log first h) (log_at_begin first h i) (own first h i)).written

module _ (first : Schema) (good : AreTables 1 first.tables) where
  abbrev Sound : State → Type 0
  Sound m = IsSound (table_at first) (periods_of first) m

  -- ---- COMMIT

  ended_sound : (log : Log) (start reading : ℕ) (mine : State) (written : List Key) (end : Result (Option ℕ) Refusal) → IsLog log → start ≤ last log → ((t : ℕ) → Sound (state log t)) → Sound mine → IsOver (state log start) mine written
      → outcome (periods_of first) (changes log) (last log) start (net_of (state log start) mine written) reading ≡ end
      → (t : ℕ) → Sound (state (log_after log (net_of (state log start) mine written) end) t)
  ended_sound log start reading mine written (Ok (Some i)) rises below sound own over ends t =
      let net : Net = net_of (state log start) mine written in
      let above : last log < i = outcome_above (periods_of first) (changes log) (last log) start net reading i ends in
      let committed : Transaction = record { instant = i; net = net } in
      decided (nat_le i t) i t refl
      (λ from_then. subst Sound (sym (state_push log committed t rises above from_then))
      (record {
        apart = commit_apart (periods_of first) log start mine written rises below over (none_found (periods_of first) (changes log) (last log) start net reading i ends) own.apart (sound (last log)).apart;
        keyed = each_net (IsKeyedIn (table_at first) (periods_of first)) net (state log (last log)) (new_of_net (IsKeyedIn (table_at first) (periods_of first)) (state log start) mine written own.keyed) (sound (last log)).keyed;
      }))
      (λ before. subst (λ (l : Log). Sound (replay [] l)) (sym (upto_later log committed t before)) (sound t))
  ended_sound log start reading mine written (Ok None) rises below sound own over ends t = sound t
  ended_sound log start reading mine written (Err refusal) rises below sound own over ends t = sound t

  -- ---- a history

  -- what a session sees, where what was committed is sound
  pub own_sound : (h : History) (i : ℕ) → ((t : ℕ) → Sound (state (log first h) t)) → Sound (mine first h i)
  own_sound h i sound =
      sound_first first h (mine first h i)
      (writes_sound (schema_after first h) (tables_are first h good) (own first h i) (record { rows = state (log first h) (snap first h i); written = [] }) (own_fits first h i)
      (sound_now first h (state (log first h) (snap first h i)) (sound (snap first h i))))

  own_over : (h : History) (i : ℕ) → IsOver (state (log first h) (snap first h i)) (mine first h i) (written_keys first h i)
  own_over h i q none = ((writes_after (schema_after first h) (own first h i) (record { rows = state (log first h) (snap first h i); written = [] })).other q none).1

  pub log_sound : (h : History) (t : ℕ) → Sound (state (log first h) t)
  log_sound [] t = record { apart = tt; keyed = tt }
  log_sound (Commit i reading ∷ h) t = by (log_at_begin first h i) refl (log_sound h)
    where
      by : (o : Option Log) → log_at_begin first h i ≡ o → ((t : ℕ) → Sound (state (log first h) t))
          → Sound (state (elim o as (λ _. Log) [ None ↦ log first h | Some before ↦ after (periods_of (schema_after first h)) (log first h) (last before) (net first h i) reading ]) t)
      by None is sound = sound t
      by (Some before) is sound =
          subst (λ (start : ℕ). Sound (state (after (periods_of (schema_after first h)) (log first h) start (net first h i) reading) t)) (ap (snap_of (log first h)) is)
          (subst (λ (periods : Periods). Sound (state (after periods (log first h) (snap first h i) (net first h i) reading) t)) (sym (periods_stay first h))
          (ended_sound (log first h) (snap first h i) reading (mine first h i) (written_keys first h i) (outcome (periods_of first) (changes (log first h)) (last (log first h)) (snap first h i) (net first h i) reading)
          (log_rises first h) (snap_below first h i) sound (own_sound h i sound) (own_over h i) refl t))
  log_sound (Begin i ∷ h) t = log_sound h t
  log_sound (Insert i number rows ∷ h) t = log_sound h t
  log_sound (Update i keys sets ∷ h) t = log_sound h t
  log_sound (Delete i keys ∷ h) t = log_sound h t
  log_sound (UpdatePortion i keys cut sets ∷ h) t = log_sound h t
  log_sound (DeletePortion i keys cut ∷ h) t = log_sound h t
  log_sound (Select i form keys ∷ h) t = log_sound h t
  log_sound (Rollback i ∷ h) t = log_sound h t
  log_sound (AddColumn i number name of ∷ h) t = log_sound h t
  log_sound (SplitKey key ∷ h) t = log_sound h t
  log_sound (SplitTime key instant ∷ h) t = log_sound h t
  log_sound (Migrate ∷ h) t = log_sound h t

pub never_overlap : (first : Schema) → NeverOverlap first
never_overlap first good h t = (log_sound first good h t).apart

pub own_never_overlap : (first : Schema) → OwnNeverOverlap first
own_never_overlap first good h i = (own_sound first good h i (λ t. log_sound first good h t)).apart
