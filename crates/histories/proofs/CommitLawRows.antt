-- What a COMMIT makes of the rows of what is committed.
use Rattle.std.proofs.Common.{◌≡◌, ℕ, ◌≤◌, Bool, true, false, cond, [], ◌∷◌, ◌++◌, Option, Some, None, is_some, refl, sym, ap, subst, ◌∙◌, arith, nat_lt}
use Rattle.std.specs.Prelude.{if◌then◌else◌, Contains, Result, Ok, Err}
use Rattle.std.specs.Map.{keys_of}
use Rattle.std.proofs.lemmas.List.Elements.{All-contains}
use Rattle.values.specs.declared.key.Key.{Key}
use Rattle.values.specs.declared.key.Transaction.{Transaction}
use Rattle.values.specs.declared.refusal.Refusal.{Refusal}
use Rattle.values.specs.declared.refusal.Refusal.TheVariants.{NoSession, NoTransaction}
use Rattle.values.specs.Commits.{after, log_after, outcome}
use Rattle.values.specs.Each.{Each}
use Rattle.values.specs.Entity.{unit_of}
use Rattle.values.specs.Log.{Log, Net, Row, State, apply_net, changes, last, row_at, state}
use Rattle.values.specs.Order.{is_key}
use Rattle.values.specs.Period.{Periods, periods_of}
use Rattle.values.specs.Tables.{Schema}
use Rattle.values.proofs.LogLatest.{later}
use Rattle.values.proofs.LogStates.{state_matches}
use Rattle.rows.proofs.SchemaPlaces.{each_to}
use Rattle.steps.specs.declared.step.Reply.{Reply}
use Rattle.steps.specs.declared.step.Reply.TheVariants.{Committed, Refused}
use Rattle.steps.specs.declared.step.Step.TheVariants.{Commit}
use Rattle.steps.specs.Misfit.{max_session}
use Rattle.steps.specs.Reply.{commit_reply}
use Rattle.periods.proofs.NoOverlapApart.{one_key}
use Rattle.periods.proofs.NoOverlapMerge.{IsFresh, IsOver, fresh_units, itself, net_last, touched_is, untouched_is}
use Rattle.histories.specs.CommitLaw.{committed, CommitsAtItsInstant, IsCommittedAt, OthersCommitNothing, TouchedRowsAreSeen, Touches, UntouchedRowsStay}
use Rattle.histories.specs.History.{History, log, log_at_begin, mine, net, own, reply_in, schema_after, snap, snap_of}
use Rattle.histories.proofs.ConflictFound.{all_of, each_itself}
use Rattle.histories.proofs.ConflictLeast.{beyond, end_now, replies_so}
use Rattle.values.proofs.CommitsAbove.{outcome_above}
use Rattle.histories.proofs.HistoryGrowth.{log_rises}
use Rattle.histories.proofs.HistoryIdle.{none_open}
use Rattle.histories.proofs.HistoryPast.{snap_below}
use Rattle.histories.proofs.HistoryTables.{periods_stay}
use Rattle.histories.proofs.PeriodLawApart.{state_push, written_keys}
use Rattle.histories.proofs.PeriodLawWrites.{writes_after}
use Rattle.histories.proofs.Winners.{none_found}
use Rattle.histories.proofs.WorldGrowth.{last_push}

-- ---- how a COMMIT ends, by its reply

record IsEnd (first : Schema) (h : History) (i reading t : ℕ) : Type 0 where
  is_open : is_some (log_at_begin first h i) ≡ true
  ends : end_now first h i reading ≡ Ok (Some t)

replied : (end : Result (Option ℕ) Refusal) (t : ℕ) → commit_reply end ≡ Committed (Some t) → end ≡ Ok (Some t)
replied (Ok instant) t e = ap Ok (the e)
  where
    the : Committed instant ≡ Committed (Some t) → instant ≡ Some t
    the e = cc
replied (Err refusal) t e = cc

commit_ends : (first : Schema) (h : History) (i reading t : ℕ) → IsCommittedAt first h i reading t → IsEnd first h i reading t
commit_ends first h i reading t committed_at = fits (nat_lt max_session i) committed_at
  where
    in_open : (b : Option Log) → log_at_begin first h i ≡ b → (elim b as (λ _. Reply) [ Some before ↦ commit_reply (end_now first h i reading) | None ↦ Refused NoTransaction ]) ≡ Committed (Some t) → IsEnd first h i reading t
    in_open None is e = cc
    in_open (Some before) is e = record { is_open = ap is_some is; ends = replied (end_now first h i reading) t e }

    fits : (b : Bool) → (elim (if b then Some NoSession else None) as (λ _. Reply) [ Some refusal ↦ Refused refusal | None ↦ reply_in first h (Commit i reading) ]) ≡ Committed (Some t) → IsEnd first h i reading t
    fits true e = cc
    fits false e = in_open (log_at_begin first h i) refl e

-- the log with a COMMIT, where a transaction is open
abbrev log_with : Schema → History → ℕ → ℕ → Option Log → Log
log_with first h i reading None = log first h
log_with first h i reading (Some before) = after (periods_of (schema_after first h)) (log first h) (last before) (net first h i) reading

log_ends : (first : Schema) (h : History) (i reading : ℕ) (before : Log) → log_at_begin first h i ≡ Some before → log_with first h i reading (Some before) ≡ log_after (log first h) (net first h i) (end_now first h i reading)
log_ends first h i reading before is =
    ap (λ (start : ℕ). after (periods_of (schema_after first h)) (log first h) start (net first h i) reading) (sym (ap (snap_of (log first h)) is))

log_so : (first : Schema) (h : History) (i reading t : ℕ) → IsEnd first h i reading t → log first (Commit i reading ∷ h) ≡ log first h ++ record { instant = t; net = net first h i } ∷ []
log_so first h i reading t end = by (log_at_begin first h i) refl end.is_open
  where
    by : (o : Option Log) → log_at_begin first h i ≡ o → is_some o ≡ true → log_with first h i reading o ≡ log first h ++ record { instant = t; net = net first h i } ∷ []
    by None is e = cc
    by (Some before) is e = log_ends first h i reading before is ∙ ap (log_after (log first h) (net first h i)) end.ends

pub commits_at_its_instant : (first : Schema) → CommitsAtItsInstant first
commits_at_its_instant first h i reading t committed_at =
    ap last (log_so first h i reading t (commit_ends first h i reading t committed_at)) ∙ last_push (log first h) (record { instant = t; net = net first h i })

-- ---- any other reply

pub others_commit_nothing : (first : Schema) → OthersCommitNothing first
others_commit_nothing first h i reading not_committed = by (log_at_begin first h i) refl
  where
    ended : (before : Log) → log_at_begin first h i ≡ Some before → nat_lt max_session i ≡ false → (end : Result (Option ℕ) Refusal) → end_now first h i reading ≡ end → log_after (log first h) (net first h i) end ≡ log first h
    ended before is small (Ok (Some t)) ends = absurd (not_committed t (replies_so first h i reading before small is ∙ ap commit_reply ends))
    ended before is small (Ok None) ends = refl
    ended before is small (Err refusal) ends = refl

    in_open : (before : Log) → log_at_begin first h i ≡ Some before → (b : Bool) → nat_lt max_session i ≡ b → log_after (log first h) (net first h i) (end_now first h i reading) ≡ log first h
    in_open before is true e = let none : log_at_begin first h i ≡ None = none_open first h i (beyond i e) in absurd (some_none (sym none ∙ is))
      where
        some_none : ◌≡◌ {A = Option Log} None (Some before) → ⊥
        some_none e = cc
    in_open before is false e = ended before is e (end_now first h i reading) refl

    by : (o : Option Log) → log_at_begin first h i ≡ o → log_with first h i reading o ≡ log first h
    by None is = refl
    by (Some before) is = log_ends first h i reading before is ∙ in_open before is (nat_lt max_session i) refl

-- ---- the keys of net changes

later_second : (a : Option (Option Row)) (v : Option Row) → is_some (later a (Some v)) ≡ true
later_second None v = refl
later_second (Some w) v = refl

later_first : (a b : Option (Option Row)) → is_some a ≡ true → is_some (later a b) ≡ true
later_first None b e = cc
later_first (Some w) b e = refl

abbrev IsLast : Net → Key → Type 0
IsLast net k = is_some (net_last net k) ≡ true

each_last : (net : Net) → Each (IsLast net) (keys_of net)
each_last [] = tt
each_last (c ∷ net) = (
  ap (λ b. is_some (later (net_last net c.0) (cond b (Some c.1) None))) (itself c.0) ∙ later_second (net_last net c.0) c.1,
  each_to (IsLast net) (IsLast (c ∷ net)) (λ k is. later_first (net_last net k) (cond (is_key k c.0) (Some c.1) None) is) (keys_of net) (each_last net),
)

has_last : (net : Net) (k : Key) → Contains (keys_of net) k → IsLast net k
has_last net k has = All-contains (IsLast net) (keys_of net) k (all_of (IsLast net) (keys_of net) (each_last net)) has

-- what holds of each key of net changes holds of one that they have
last_has : (P : Key → Type 0) (net : Net) (k : Key) → Each P (keys_of net) → IsLast net k → P k
last_has P [] k each is = cc
last_has P (c ∷ net) k each is = by (is_key k c.0) refl (net_last net k) is (last_has P net k each.1)
  where
    by : (b : Bool) → is_key k c.0 ≡ b → (o : Option (Option Row)) → is_some (later o (cond b (Some c.1) None)) ≡ true → (is_some o ≡ true → P k) → P k
    by true same o is rest = subst P (sym (one_key k c.0 same)) each.0
    by false same None is rest = cc
    by false same (Some v) is rest = rest refl

-- ---- what is then committed

module _ (first : Schema) (h : History) (i reading t : ℕ) (committed_at : IsCommittedAt first h i reading t) where
  end : IsEnd first h i reading t
  end = commit_ends first h i reading t committed_at

  ends : outcome (periods_of first) (changes (log first h)) (last (log first h)) (snap first h i) (net first h i) reading ≡ Ok (Some t)
  ends = ap (λ (ps : Periods). outcome ps (changes (log first h)) (last (log first h)) (snap first h i) (net first h i) reading) (sym (periods_stay first h)) ∙ end.ends

  committed_so : committed first (Commit i reading ∷ h) ≡ apply_net (committed first h) (net first h i)
  committed_so =
      let transaction : Transaction = record { instant = t; net = net first h i } in
      ap (λ (l : Log). state l (last l)) (log_so first h i reading t end)
      ∙ ap (state (log first h ++ transaction ∷ [])) (last_push (log first h) transaction)
      ∙ state_push (log first h) transaction t (log_rises first h)
      (outcome_above (periods_of first) (changes (log first h)) (last (log first h)) (snap first h i) (net first h i) reading t ends)
      (let same : t ≤ t = omega arith in same)

  over : IsOver (state (log first h) (snap first h i)) (mine first h i) (written_keys first h i)
  over q none = ((writes_after (schema_after first h) (own first h i) (record { rows = state (log first h) (snap first h i); written = [] })).other q none).1

  fresh : IsFresh (periods_of first) (state (log first h) (snap first h i)) (committed first h) (net first h i)
  fresh =
      fresh_units (periods_of first) (log first h) (snap first h i) (net first h i) (log_rises first h) (snap_below first h i)
      (none_found (periods_of first) (changes (log first h)) (last (log first h)) (snap first h i) (net first h i) reading t ends)

  touched_row : (key : Key) → Touches first h i (unit_of (periods_of first) key) → row_at (committed first (Commit i reading ∷ h)) key ≡ row_at (mine first h i) key
  touched_row key touches =
      ap (λ (m : State). row_at m key) committed_so
      ∙ touched_is (periods_of first) (state (log first h) (snap first h i)) (mine first h i) (committed first h) (written_keys first h i)
      (state_matches (log first h) (last (log first h)) (log_rises first h)).by_key over fresh
      touches.key key (has_last (net first h i) touches.key touches.changed) touches.of_unit

  untouched_row : (key : Key) → ¬ (Touches first h i (unit_of (periods_of first) key)) → row_at (committed first (Commit i reading ∷ h)) key ≡ row_at (committed first h) key
  untouched_row key not_touched =
      ap (λ (m : State). row_at m key) committed_so
      ∙ untouched_is (periods_of first) (state (log first h) (snap first h i)) (mine first h i) (committed first h) (written_keys first h i)
      (state_matches (log first h) (last (log first h)) (log_rises first h)).by_key over fresh
      key (none (is_some (net_last (net first h i) key)) refl)
    where
      none : (b : Bool) → is_some (net_last (net first h i) key) ≡ b → b ≡ false
      none false is = refl
      none true is = absurd (not_touched (record { key = key; changed = last_has (Contains (keys_of (net first h i))) (net first h i) key (each_itself (keys_of (net first h i))) is; of_unit = refl }))

pub touched_rows_are_seen : (first : Schema) → TouchedRowsAreSeen first
touched_rows_are_seen first h i reading t committed_at key touches = touched_row first h i reading t committed_at key touches

pub untouched_rows_stay : (first : Schema) → UntouchedRowsStay first
untouched_rows_stay first h i reading t committed_at key not_touched = untouched_row first h i reading t committed_at key not_touched
