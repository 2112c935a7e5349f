-- A system that stands for a history stands for it with one more step, where that session's part does and no other's changes.
use Rattle.std.proofs.Common.{◌≡◌, ◌≢◌, ℕ, ◌≤◌, true, false, List, [], ◌∷◌, Option, Some, None, get_or, set, refl, sym, ap, subst, ◌∙◌, arith}
use Rattle.std.specs.Prelude.{filter, map, is_some, ◌||◌, Result, Ok, Err, if◌then◌else◌, ◌==◌}
use Rattle.std.proofs.lemmas.Bool.Decides.{nat_tests}
use Rattle.std.proofs.lemmas.List.{get_or-set_same, get_or-set_other}
use Rattle.std.proofs.Math.ListN.{length-set}
use Rattle.values.specs.Tables.{Schema}
use Rattle.values.specs.declared.refusal.Refusal.{Refusal}
use Rattle.values.specs.declared.refusal.Refusal.TheVariants.{NoTransaction}
use Rattle.values.specs.declared.key.Key.{Key}
use Rattle.values.specs.Log.{Log, Net, Changes, last, changes, add_net, state, row_at}
use Rattle.values.specs.Period.{periods_of}
use Rattle.values.specs.Commits.{outcome, after, log_after}
use Rattle.values.proofs.LogPush.{add_all-push}
use Rattle.steps.specs.Misfit.{max_session}
use Rattle.histories.proofs.HistoryNow.{was_there_is}
use Rattle.steps.specs.declared.step.Step.{Step}
use Rattle.steps.specs.declared.step.Step.TheVariants.{Commit, Rollback}
use Rattle.steps.specs.declared.step.Reply.{Reply}
use Rattle.steps.specs.declared.step.Reply.TheVariants.{Refused, RolledBack}
use Rattle.histories.specs.History.{History, schema_after, log, log_at_begin, own, own_of, reply_in, net, net_change_of, snap, snap_of, mine_of}
use Rattle.steps.specs.Reply.{commit_reply}
use Rattle.histories.specs.World.{OpenTransaction, World}
use Rattle.histories.specs.Stands.{Stands, open_in, open_from, open_at}
use Rattle.histories.specs.Turn.{put, Turn, rollback_turn, commit_turn, end_turn, net_in, was_there}
use Rattle.histories.proofs.HistoryGrowth.{log_rises}
use Rattle.histories.proofs.WorldGrowth.{session_other_commit, last_push}
use Rattle.histories.proofs.StandsOpen.{decided}

pub stands_put : (first : Schema) (w : World) (h : History) (step : Step) (i : ℕ) (o : Option OpenTransaction) (m : Changes) (l : ℕ) → i ≤ max_session → Stands first w h → schema_after first (step ∷ h) ≡ schema_after first h
    → m ≡ changes (log first (step ∷ h)) → l ≡ last (log first (step ∷ h)) → o ≡ open_in first (step ∷ h) i
    → ((j : ℕ) → j ≢ i → open_in first (step ∷ h) j ≡ open_in first h j)
    → Stands first (record { schema = w.schema; changes = m; latest = l; sessions = set w.sessions i o }) (step ∷ h)
stands_put first w h step i o m l small stands is_schema is_m is_l is_o others = record {
  schema_is = stands.schema_is ∙ sym is_schema;
  wide = length-set w.sessions i o ∙ stands.wide;
  changes_are = is_m;
  latest_is = is_l;
  sessions_are = λ j in_range. decided j i (j == i) refl
      (λ same. subst (λ k. get_or (set w.sessions i o) k None ≡ open_in first (step ∷ h) k) (sym same)
      (get_or-set_same w.sessions i o None (omega (arith, stands.wide)) ∙ is_o))
      (λ other. get_or-set_other w.sessions i j o None other ∙ stands.sessions_are j in_range ∙ sym (others j other));
}

pub stands_still : (first : Schema) (w : World) (h : History) (step : Step) (i : ℕ) → i ≤ max_session → Stands first w h → schema_after first (step ∷ h) ≡ schema_after first h → log first (step ∷ h) ≡ log first h → open_in first (step ∷ h) i ≡ open_in first h i
    → ((j : ℕ) → j ≢ i → open_in first (step ∷ h) j ≡ open_in first h j) → Stands first w (step ∷ h)
stands_still first w h step i small stands is_schema is_log same_i others = record {
  schema_is = stands.schema_is ∙ sym is_schema;
  wide = stands.wide;
  changes_are = stands.changes_are ∙ sym (ap changes is_log);
  latest_is = stands.latest_is ∙ sym (ap last is_log);
  sessions_are = λ j in_range. decided j i (j == i) refl
      (λ same. subst (λ k. open_at w k ≡ open_in first (step ∷ h) k) (sym same) (stands.sessions_are i small ∙ sym same_i))
      (λ other. stands.sessions_are j in_range ∙ sym (others j other));
}

pub not_other : (i j : ℕ) → j ≢ i → (j == i) ≡ false
not_other i j other = grind (arith, nat_tests)

pub itself : (i : ℕ) → (i == i) ≡ true
itself i = grind (arith, nat_tests)

-- ---- ROLLBACK

rolled_back : (schema : Schema) (h : History) (i : ℕ) → open_in schema (Rollback i ∷ h) i ≡ None
rolled_back schema h i = ap (λ b. open_from (schema_after schema h) (log schema h) (if b then None else log_at_begin schema h i) (if b then [] else own schema h i)) (itself i)

rollback_other : (schema : Schema) (h : History) (i j : ℕ) → j ≢ i → open_in schema (Rollback i ∷ h) j ≡ open_in schema h j
rollback_other schema h i j other = ap (λ b. open_from (schema_after schema h) (log schema h) (if b then None else log_at_begin schema h j) (if b then [] else own schema h j)) (not_other i j other)

rollback_reply : (schema : Schema) (now : Log) (o : Option Log) (own : List Step) (s : Option OpenTransaction) → open_from schema now o own ≡ s
    → ◌≡◌ {A = Reply} (elim s [ None ↦ Refused NoTransaction | Some s ↦ RolledBack ]) (elim o [ Some before ↦ RolledBack | None ↦ Refused NoTransaction ])
rollback_reply schema now None own None e = refl
rollback_reply schema now None own (Some s) e = cc
rollback_reply schema now (Some before) own None e = cc
rollback_reply schema now (Some before) own (Some s) e = refl

rollback_at : (first : Schema) (w : World) (h : History) (i : ℕ) (o : Option OpenTransaction) → i ≤ max_session → Stands first w h → open_at w i ≡ o
    → let turn : Turn = elim o [ None ↦ (Refused NoTransaction, w) | Some s ↦ (RolledBack, put w i None) ] in (turn.0 ≡ reply_in first h (Rollback i)) × Stands first turn.1 (Rollback i ∷ h)
rollback_at first w h i None small stands e = (
  rollback_reply (schema_after first h) (log first h) (log_at_begin first h i) (own first h i) None (sym (stands.sessions_are i small) ∙ e),
  stands_still first w h (Rollback i) i small stands refl refl (rolled_back first h i ∙ sym (sym (stands.sessions_are i small) ∙ e)) (rollback_other first h i),
)
rollback_at first w h i (Some s) small stands e = (
  rollback_reply (schema_after first h) (log first h) (log_at_begin first h i) (own first h i) (Some s) (sym (stands.sessions_are i small) ∙ e),
  stands_put first w h (Rollback i) i None w.changes w.latest small stands refl stands.changes_are stands.latest_is (sym (rolled_back first h i)) (rollback_other first h i),
)

pub rollback_answers : (first : Schema) (w : World) (h : History) (i : ℕ) → i ≤ max_session → Stands first w h → ((rollback_turn w i).0 ≡ reply_in first h (Rollback i)) × Stands first (rollback_turn w i).1 (Rollback i ∷ h)
rollback_answers first w h i small stands = rollback_at first w h i (open_at w i) small stands refl

-- ---- COMMIT

ended_itself : (schema : Schema) (h : History) (i reading : ℕ) → open_in schema (Commit i reading ∷ h) i ≡ None
ended_itself schema h i reading = ap (λ b. open_from (schema_after schema h) (log schema (Commit i reading ∷ h)) (if b then None else log_at_begin schema h i) (if b then [] else own schema h i)) (itself i)

commit_other : (schema : Schema) (h : History) (i j reading : ℕ) → j ≢ i → open_in schema (Commit i reading ∷ h) j ≡ open_in schema h j
commit_other schema h i j reading other = session_other_commit schema h i j reading (not_other i j other)

commit_by_end : (first : Schema) (w : World) (h : History) (i reading : ℕ) (net : Net) (end : Result (Option ℕ) Refusal) → i ≤ max_session → Stands first w h → log first (Commit i reading ∷ h) ≡ log_after (log first h) net end
    → ((end_turn w i net end).0 ≡ commit_reply end) × Stands first (end_turn w i net end).1 (Commit i reading ∷ h)
commit_by_end first w h i reading net (Ok (Some instant)) small stands is_log = (
  refl,
  stands_put first w h (Commit i reading) i None (add_net instant w.changes net) instant small stands refl
      (ap (λ m. add_net instant m net) stands.changes_are ∙ sym (add_all-push (log first h) [] (record { instant = instant; net = net })) ∙ sym (ap changes is_log))
      (sym (last_push (log first h) (record { instant = instant; net = net })) ∙ sym (ap last is_log))
      (sym (ended_itself first h i reading)) (λ j other. commit_other first h i j reading other),
)
commit_by_end first w h i reading net (Ok None) small stands is_log = (
  refl,
  stands_put first w h (Commit i reading) i None w.changes w.latest small stands refl (stands.changes_are ∙ sym (ap changes is_log)) (stands.latest_is ∙ sym (ap last is_log))
      (sym (ended_itself first h i reading)) (λ j other. commit_other first h i j reading other),
)
commit_by_end first w h i reading net (Err refusal) small stands is_log = (
  refl,
  stands_put first w h (Commit i reading) i None w.changes w.latest small stands refl (stands.changes_are ∙ sym (ap changes is_log)) (stands.latest_is ∙ sym (ap last is_log))
      (sym (ended_itself first h i reading)) (λ j other. commit_other first h i j reading other),
)

-- the net changes by the code and by the history
net_same : (first : Schema) (w : World) (h : History) (before : Log) (own : List Step) → Stands first w h
    → net_in w.changes (record { start = last before; rows = mine_of (schema_after first h) (log first h) (Some before) own; written = (own_of (schema_after first h) (log first h) (Some before) own).written })
    ≡ net_change_of (schema_after first h) (log first h) (Some before) own
net_same first w h before own stands =
    λ i. filter (λ c. is_some c.1 || there c.0 i) (map (λ k. (k, row_at (mine_of (schema_after first h) (log first h) (Some before) own) k)) (own_of (schema_after first h) (log first h) (Some before) own).written)
  where
    there : (k : Key) → was_there w.changes (last before) k ≡ is_some (row_at (state (log first h) (last before)) k)
    there k = ap (λ m. was_there m (last before) k) stands.changes_are ∙ was_there_is (log first h) (last before) k (log_rises first h)

abbrev turn_from : World → ℕ → ℕ → Option OpenTransaction → Turn
turn_from w i reading None = (Refused NoTransaction, w)
turn_from w i reading (Some s) = end_turn w i (net_in w.changes s) (outcome (periods_of w.schema) w.changes w.latest s.start (net_in w.changes s) reading)

same_from : (w : World) (i reading : ℕ) (o : Option OpenTransaction) → turn_from w i reading o ≡ elim o [ None ↦ (Refused NoTransaction, w) | Some s ↦ end_turn w i (net_in w.changes s) (outcome (periods_of w.schema) w.changes w.latest s.start (net_in w.changes s) reading) ]
same_from w i reading None = refl
same_from w i reading (Some s) = refl

commit_for : (first : Schema) (w : World) (h : History) (i reading : ℕ) (o : Option Log) → log_at_begin first h i ≡ o → i ≤ max_session → Stands first w h
    → ((turn_from w i reading (open_from (schema_after first h) (log first h) o (own first h i))).0 ≡ reply_in first h (Commit i reading))
    × Stands first (turn_from w i reading (open_from (schema_after first h) (log first h) o (own first h i))).1 (Commit i reading ∷ h)
commit_for first w h i reading None is small stands = (
  sym (ap (λ (o : Option Log). let r : Reply = elim o [ Some before ↦ commit_reply (outcome (periods_of (schema_after first h)) (changes (log first h)) (last (log first h)) (snap first h i) (net first h i) reading) | None ↦ Refused NoTransaction ] in r) is),
  stands_still first w h (Commit i reading) i small stands refl
      (ap (λ (o : Option Log). let l : Log = elim o [ None ↦ log first h | Some before ↦ after (periods_of (schema_after first h)) (log first h) (last before) (net first h i) reading ] in l) is)
      (ended_itself first h i reading ∙ sym (ap (λ o. open_from (schema_after first h) (log first h) o (own first h i)) is))
      (λ j other. commit_other first h i j reading other),
)
commit_for first w h i reading (Some before) is small stands =
    let now : Log = log first h in
    let changed : Net = net_change_of (schema_after first h) now (Some before) (own first h i) in
    let end : Result (Option ℕ) Refusal = outcome (periods_of (schema_after first h)) (changes now) (last now) (last before) changed reading in
    let same = net_same first w h before (own first h i) stands in
    let by_end = commit_by_end first w h i reading changed end small stands
    (λ k. elim (is k) [ None ↦ log first h | Some before ↦ after (periods_of (schema_after first h)) (log first h) (last before) (net_change_of (schema_after first h) (log first h) (is k) (own first h i)) reading ]) in
    let turns : end_turn w i changed end ≡ turn_from w i reading (open_from (schema_after first h) now (Some before) (own first h i)) =
    λ k. end_turn w i (sym same k) (outcome (periods_of (sym stands.schema_is k)) (sym stands.changes_are k) (sym stands.latest_is k) (last before) (sym same k) reading) in
    let replies : reply_in first h (Commit i reading) ≡ commit_reply end =
    λ k. elim (is k) [ Some before ↦ commit_reply (outcome (periods_of (schema_after first h)) (changes (log first h)) (last (log first h)) (snap_of (log first h) (is k)) (net_change_of (schema_after first h) (log first h) (is k) (own first h i)) reading) | None ↦ Refused NoTransaction ] in
    subst (λ (t : Turn). (t.0 ≡ reply_in first h (Commit i reading)) × Stands first t.1 (Commit i reading ∷ h)) turns (by_end.0 ∙ sym replies, by_end.1)

pub commit_answers : (first : Schema) (w : World) (h : History) (i reading : ℕ) → i ≤ max_session → Stands first w h → ((commit_turn w i reading).0 ≡ reply_in first h (Commit i reading)) × Stands first (commit_turn w i reading).1 (Commit i reading ∷ h)
commit_answers first w h i reading small stands =
    subst (λ (t : Turn). (t.0 ≡ reply_in first h (Commit i reading)) × Stands first t.1 (Commit i reading ∷ h))
    (ap (turn_from w i reading) (sym (stands.sessions_are i small)) ∙ same_from w i reading (open_at w i)) (commit_for first w h i reading (log_at_begin first h i) refl small stands)
