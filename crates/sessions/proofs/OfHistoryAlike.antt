-- What a session answers beside a history is what the history's replies are.
use Rattle.std.proofs.Common.{◌≡◌, ℕ, Bool, true, false, List, [], ◌∷◌, ◌++◌, Option, Some, None, Result, Ok, Err, refl, sym, ap, ◌∙◌}
use Rattle.std.specs.Prelude.{if◌then◌else◌, ◌&&◌, ◌==◌, is_none, is_some, not}
use Rattle.std.specs.Option.{option_map}
use Rattle.values.specs.declared.refusal.Refusal.{Refusal}
use Rattle.values.specs.declared.refusal.Refusal.TheVariants.{NoTransaction}
use Rattle.values.specs.Tables.{Schema}
use Rattle.values.specs.Log.{Log, upto, changes}
use Rattle.values.specs.Writes.{Own}
use Rattle.steps.specs.declared.step.Step.{Step}
use Rattle.steps.specs.declared.step.Step.TheVariants.{Begin, Insert, Update, Delete, UpdatePortion, DeletePortion, Select, Commit, Rollback, AddColumn, SplitKey, SplitTime, Migrate}
use Rattle.steps.specs.declared.step.Reply.{Reply}
use Rattle.steps.specs.declared.step.Reply.TheVariants.{Refused}
use Rattle.steps.specs.Misfit.{misfit}
use Rattle.histories.specs.History.{History, schema_after, ends, begins, log, log_at_begin, own, own_of, reply, reply_in, rewrite_all, seen_of, snap, snap_of}
use Rattle.steps.specs.Write.{is_write_of, write, writer}
use Rattle.steps.specs.Reply.{is_refused, write_reply, written_reply}
use Rattle.histories.proofs.StandsEnds.{itself}
use Rattle.steps.proofs.WriteLeaves.{write_is, is_err}
use Rattle.sessions.specs.SessionState.{write_by}
use Rattle.sessions.specs.OfHistory.{own_at, WritesAnswerAlike, WritesLeaveAlike}

-- ---- a step that writes for a session

pub record IsWriteStep (first : Schema) (h : History) (step : Step) (i : ℕ) : Type 0 where
  pub same_tables : schema_after first (step ∷ h) ≡ schema_after first h
  pub no_end : ends i step ≡ false
  pub no_begin : begins i step ≡ false
  pub its_own : is_write_of i step ≡ true
  pub same_log : log first (step ∷ h) ≡ log first h
  pub counts : (count : ℕ) → is_refused (written_reply step (Ok count)) ≡ false
  pub refuses : (refusal : Refusal) → written_reply step (Err refusal) ≡ Refused refusal
  pub replied : reply_in first h step ≡ elim (log_at_begin first h i) [ None ↦ Refused NoTransaction | Some before ↦ write_reply (schema_after first h) step (own_of (schema_after first h) (log first h) (log_at_begin first h i) (own first h i)) ]

same_writer : (i j : ℕ) → ◌≡◌ {A = Option ℕ} (Some j) (Some i) → j ≡ i
same_writer i j e = cc

own_write : (i j : ℕ) → j ≡ i → (i == j) ≡ true
own_write i j e = ap (λ n. i == n) e ∙ itself i

abbrev when_open : Schema → History → Step → ℕ → Reply
when_open first h step j = elim (log_at_begin first h j) [ None ↦ Refused NoTransaction | Some before ↦ write_reply (schema_after first h) step (own_of (schema_after first h) (log first h) (log_at_begin first h j) (own first h j)) ]

pub of_writer : (first : Schema) (h : History) (step : Step) (i : ℕ) → writer step ≡ Some i → IsWriteStep first h step i
of_writer first h (Insert j number rows) i e = record {
  same_tables = refl;
  no_end = refl;
  no_begin = refl;
  its_own = own_write i j (same_writer i j e);
  same_log = refl;
  counts = λ count. refl;
  refuses = λ refusal. refl;
  replied = ap (when_open first h (Insert j number rows)) (same_writer i j e);
}
of_writer first h (Update j keys sets) i e = record {
  same_tables = refl;
  no_end = refl;
  no_begin = refl;
  its_own = own_write i j (same_writer i j e);
  same_log = refl;
  counts = λ count. refl;
  refuses = λ refusal. refl;
  replied = ap (when_open first h (Update j keys sets)) (same_writer i j e);
}
of_writer first h (Delete j keys) i e = record {
  same_tables = refl;
  no_end = refl;
  no_begin = refl;
  its_own = own_write i j (same_writer i j e);
  same_log = refl;
  counts = λ count. refl;
  refuses = λ refusal. refl;
  replied = ap (when_open first h (Delete j keys)) (same_writer i j e);
}
of_writer first h (UpdatePortion j keys cut sets) i e = record {
  same_tables = refl;
  no_end = refl;
  no_begin = refl;
  its_own = own_write i j (same_writer i j e);
  same_log = refl;
  counts = λ count. refl;
  refuses = λ refusal. refl;
  replied = ap (when_open first h (UpdatePortion j keys cut sets)) (same_writer i j e);
}
of_writer first h (DeletePortion j keys cut) i e = record {
  same_tables = refl;
  no_end = refl;
  no_begin = refl;
  its_own = own_write i j (same_writer i j e);
  same_log = refl;
  counts = λ count. refl;
  refuses = λ refusal. refl;
  replied = ap (when_open first h (DeletePortion j keys cut)) (same_writer i j e);
}
of_writer first h (Begin j) i e = cc
of_writer first h (Select j form keys) i e = cc
of_writer first h (Commit j reading) i e = cc
of_writer first h (Rollback j) i e = cc
of_writer first h (AddColumn j number name of) i e = cc
of_writer first h (SplitKey key) i e = cc
of_writer first h (SplitTime key instant) i e = cc
of_writer first h Migrate i e = cc

-- ---- its answer

abbrev unfit_or : Option Refusal → Reply → Reply
unfit_or None r = r
unfit_or (Some refusal) r = Refused refusal

unfit_is : (u : Option Refusal) (r : Reply) → unfit_or u r ≡ elim u [ Some refusal ↦ Refused refusal | None ↦ r ]
unfit_is None r = refl
unfit_is (Some refusal) r = refl

abbrev reply_when : Option Log → Reply → Reply
reply_when None r = Refused NoTransaction
reply_when (Some before) r = r

when_is : (o : Option Log) (r : Reply) → reply_when o r ≡ elim o [ None ↦ Refused NoTransaction | Some before ↦ r ]
when_is None r = refl
when_is (Some before) r = refl

rewrite_more : (schema : Schema) (writes : List Step) (step : Step) (o : Own) → rewrite_all schema (writes ++ step ∷ []) o ≡ (write schema step (rewrite_all schema writes o)).1
rewrite_more schema [] step o = refl
rewrite_more schema (s ∷ writes) step o = rewrite_more schema writes step (write schema s o).1

module _ (first : Schema) (h : History) (step : Step) (i : ℕ) (is : IsWriteStep first h step i) where
  -- the tables, before the step and after it
  abbrev schema : Schema
  schema = schema_after first h

  abbrev at : Option Log → List Step → Own
  at lab writes = own_of schema (log first h) lab writes

  -- its own writes, as far as one is open
  abbrev opened : Option Log → List Step → Option Own
  opened lab writes = option_map (λ before. at (Some before) writes) lab

  answer_by : (u : Option Refusal) (lab : Option Log) (writes : List Step) → written_reply step (write_by schema step u (opened lab writes)).0 ≡ unfit_or u (reply_when lab (unfit_or u (written_reply step (write schema step (at lab writes)).0)))
  answer_by (Some refusal) lab writes = is.refuses refusal
  answer_by None None writes = is.refuses NoTransaction
  answer_by None (Some before) writes = refl

  pub answers : written_reply step (write_by schema step (misfit schema step) (own_at first h i)).0 ≡ reply first h step
  answers =
      answer_by (misfit schema step) (log_at_begin first h i) (own first h i)
      ∙ ap (λ r. unfit_or (misfit schema step) (reply_when (log_at_begin first h i) r)) (unfit_is (misfit schema step) (written_reply step (write schema step (at (log_at_begin first h i) (own first h i))).0))
      ∙ ap (unfit_or (misfit schema step)) (when_is (log_at_begin first h i) (write_reply schema step (at (log_at_begin first h i) (own first h i))) ∙ sym is.replied)
      ∙ unfit_is (misfit schema step) (reply_in first h step)

  -- ---- what it leaves

  abbrev more : Option Log → List Step → Bool → List Step
  more lab writes refused = if is_some lab && not refused then writes ++ step ∷ [] else writes

  abbrev refused_by : Option Refusal → Option Log → List Step → Bool
  refused_by u lab writes = is_refused (unfit_or u (written_reply step (write schema step (at lab writes)).0))

  left : (before : Log) (writes : List Step) (r : Result ℕ Refusal) → (write schema step (at (Some before) writes)).0 ≡ r
      → (write schema step (at (Some before) writes)).1 ≡ at (Some before) (more (Some before) writes (is_refused (written_reply step (write schema step (at (Some before) writes)).0)))
  left before writes (Ok count) e =
      sym (rewrite_more schema writes step (record { rows = seen_of (log first h) (Some before); written = [] }))
      ∙ (λ k. at (Some before) (more (Some before) writes (sym (ap (λ r. is_refused (written_reply step r)) e ∙ is.counts count) k)))
  left before writes (Err refusal) e =
      (write_is schema step (at (Some before) writes)).leaves (ap is_err e)
      ∙ (λ k. at (Some before) (more (Some before) writes (sym (ap (λ r. is_refused (written_reply step r)) e ∙ ap is_refused (is.refuses refusal)) k)))

  leave_by : (u : Option Refusal) (lab : Option Log) (writes : List Step) → (write_by schema step u (opened lab writes)).1 ≡ opened lab (more lab writes (refused_by u lab writes))
  leave_by (Some refusal) None writes = refl
  leave_by (Some refusal) (Some before) writes = refl
  leave_by None None writes = refl
  leave_by None (Some before) writes = ap (λ (o : Own). Some o) (left before writes (write schema step (at (Some before) writes)).0 refl)

  pub same_begin : log_at_begin first (step ∷ h) i ≡ log_at_begin first h i
  same_begin = λ k. if is.no_end k then None else if is.no_begin k && is_none (log_at_begin first h i) then Some (log first h) else log_at_begin first h i

  own_more : own first (step ∷ h) i ≡ more (log_at_begin first h i) (own first h i) (refused_by (misfit schema step) (log_at_begin first h i) (own first h i))
  own_more =
      (λ k. if is.no_end k then [] else if is.its_own k && is_some (log_at_begin first h i) && not (is_refused (write_reply schema step (at (log_at_begin first h i) (own first h i)))) then own first h i ++ step ∷ [] else own first h i)
      ∙ ap (λ r. more (log_at_begin first h i) (own first h i) (is_refused r)) (sym (unfit_is (misfit schema step) (written_reply step (write schema step (at (log_at_begin first h i) (own first h i))).0)))

  pub leaves : (write_by schema step (misfit schema step) (own_at first h i)).1 ≡ own_at first (step ∷ h) i
  leaves =
      leave_by (misfit schema step) (log_at_begin first h i) (own first h i)
      ∙ (λ k. option_map (λ before. own_of (sym is.same_tables k) (sym is.same_log k) (Some before) (sym own_more k)) (sym same_begin k))

  pub same_snapshot : changes (upto (log first h) (snap first h i)) ≡ changes (upto (log first (step ∷ h)) (snap first (step ∷ h) i))
  same_snapshot = λ k. changes (upto (sym is.same_log k) (snap_of (sym is.same_log k) (sym same_begin k)))

pub writes_answer_alike : WritesAnswerAlike
writes_answer_alike first m s h step is its =
    (λ k. written_reply step (write_by (sym is.tables_are k) step (misfit (sym is.tables_are k) step) (is.own_is k)).0)
    ∙ answers first h step s.number (of_writer first h step s.number its)

pub writes_leave_alike : WritesLeaveAlike
writes_leave_alike first m old new h step is its same_number same_schema did = record {
  tables_are = w.same_tables ∙ is.tables_are ∙ sym same_schema;
  snapshot = is.snapshot ∙ same_snapshot first h step old.number w ∙ (λ k. changes (upto (log first (step ∷ h)) (snap first (step ∷ h) (sym same_number k))));
  own_is =
      did ∙ (λ k. (write_by (sym is.tables_are k) step (misfit (sym is.tables_are k) step) (is.own_is k)).1) ∙ leaves first h step old.number w
      ∙ (λ k. own_at first (step ∷ h) (sym same_number k));
}
  where
    w : IsWriteStep first h step old.number
    w = of_writer first h step old.number its
