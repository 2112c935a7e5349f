-- A session's own writes and its COMMIT beside a history.
use Rattle.std.proofs.Common.{◌≡◌, ℕ, ◌≤◌, [], ◌∷◌, Option, Some, None, Result, refl, sym, ap, subst, ◌∙◌}
use Rattle.std.specs.Option.{option_map}
use Rattle.values.specs.declared.refusal.Refusal.{Refusal}
use Rattle.values.specs.declared.refusal.Refusal.TheVariants.{NoTransaction}
use Rattle.values.specs.Tables.{Schema}
use Rattle.growlog.specs.Origin.{Origin}
use Rattle.values.specs.Log.{Net, last, state, changes}
use Rattle.values.specs.RowsAfter.{rows_after}
use Rattle.values.specs.Period.{periods_of}
use Rattle.values.specs.Commits.{outcome, after}
use Rattle.values.specs.Writes.{Own, net_of}
use Rattle.serving.specs.tsbtree.View.{last as view_last}
use Rattle.steps.specs.declared.step.Step.{Step}
use Rattle.steps.specs.declared.step.Step.TheVariants.{Commit}
use Rattle.steps.specs.declared.step.Reply.TheVariants.{Refused}
use Rattle.steps.specs.Misfit.{max_session, misfit}
use Rattle.steps.specs.Reply.{commit_reply, written_reply}
use Rattle.steps.specs.Write.{writer}
use Rattle.histories.specs.History.{History, schema_after, log, log_at_begin, net, net_change_of, own, own_of, reply, snap, snap_of}
use Rattle.histories.proofs.HistoryGrowth.{log_rises}
use Rattle.serving.specs.journal.declared.entry.Entry.{Entry}
use Rattle.serving.specs.journal.declared.entry.Entry.TheVariants.{Commit as Commits}
use Rattle.serving.specs.journal.Entries.{start_of, log as journal_log}
use Rattle.serving.specs.journal.Legal.{MayFollow, MayCommit}
use Rattle.serving.specs.sessions.OfHistory.{own_at}
use Rattle.serving.specs.sessions.SessionState.{write_by}
use Rattle.serving.proofs.sessions.OfHistoryAlike.{IsWriteStep, of_writer, answers, leaves, same_begin, same_snapshot}
use Rattle.serving.proofs.sessions.OfHistoryEnded.{in_range_fits}
use Rattle.serving.proofs.sessions.StoreOfHistoryAlike.{closes, fit_reply, log_then, reply_then, rows_at, same_some}
use Rattle.serving.specs.Progress.{ServedTransaction, own_of as served_own, with_own}
use Rattle.runs.proofs.OneHistoryBeside.{World, Beside, Held, IsOpened, MayCome, Opened}
use Rattle.runs.proofs.OneHistoryBegin.{own_same}

module _ (first : Schema) (origin : Origin) (w : World) (i : ℕ) where
  abbrev h : History
  h = w.history

  -- ---- a write

  module _ (step : Step) (its : writer step ≡ Some i) where
    writes : IsWriteStep first h step i
    writes = of_writer first h step i its

    abbrev answered : Held → Result ℕ Refusal × Option Own
    answered t = write_by origin.schema step (misfit origin.schema step) (served_own t)

    abbrev of_history : Schema → Option Own → Result ℕ Refusal × Option Own
    of_history tables o = write_by tables step (misfit tables step) o

    same_answer : (t : Held) → Beside first origin w i t → answered t ≡ of_history (schema_after first h) (own_at first h i)
    same_answer t is = λ k. of_history (sym is.tables_are k) (own_same first origin w i t is.opened k)

    no_own : (u : Option Refusal) → (write_by origin.schema step u None).1 ≡ None
    no_own None = refl
    no_own (Some refusal) = refl

    with_some : (t : ServedTransaction) (o : Option Own) (new : Own) → o ≡ Some new → with_own (Some t) o ≡ Some (record { begin = t.begin; changes = t.changes; own = new })
    with_some t o new is = ap (with_own (Some t)) is

    opened_written : (t : Held) → Beside first origin w i t → Opened first origin (record { entries = w.entries; history = step ∷ h }) i (with_own t (answered t).1)
    opened_written None is = same_begin first h step i writes ∙ is.opened
    opened_written (Some t) is =
        subst (Opened first origin (record { entries = w.entries; history = step ∷ h }) i) (sym (with_some t (answered (Some t)).1 new new_is))
        (record {
          before = o.before;
          at = begun;
          changes_are = o.changes_are ∙ same_snapshot first h step i writes;
          own_is = sym new_is ∙ left;
          earlier = o.earlier;
          view = o.view;
          begun = o.begun;
          starts = o.starts ∙ (λ k. snap_of (log first h) (sym (same_begin first h step i writes) k)) ∙ (λ k. snap_of (sym writes.same_log k) (log_at_begin first (step ∷ h) i));
        })
      where
        o : IsOpened first origin w i t
        o = is.opened

        begun : log_at_begin first (step ∷ h) i ≡ Some o.before
        begun = same_begin first h step i writes ∙ o.at

        left : (answered (Some t)).1 ≡ own_at first (step ∷ h) i
        left = ap (λ (x : Result ℕ Refusal × Option Own). x.1) (same_answer (Some t) is) ∙ leaves first h step i writes

        new : Own
        new = own_of (schema_after first (step ∷ h)) (log first (step ∷ h)) (Some o.before) (own first (step ∷ h) i)

        new_is : (answered (Some t)).1 ≡ Some new
        new_is = left ∙ (λ k. option_map (λ before. own_of (schema_after first (step ∷ h)) (log first (step ∷ h)) (Some before) (own first (step ∷ h) i)) (begun k))

    pub write_right : (t : Held) → Beside first origin w i t
        → (written_reply step (answered t).0 ≡ reply first h step)
        × Beside first origin (record { entries = w.entries; history = step ∷ h }) i (with_own t (answered t).1)
    write_right t is = (
      ap (λ (x : Result ℕ Refusal × Option Own). written_reply step x.0) (same_answer t is) ∙ answers first h step i writes,
      record {
        tables_are = writes.same_tables ∙ is.tables_are;
        log_is = is.log_is ∙ sym writes.same_log;
        opened = opened_written t is;
      },
    )

  -- ---- COMMIT

  module _ (small : i ≤ max_session) where
    none_then : (reading : ℕ) → log_at_begin first h i ≡ None → log first (Commit i reading ∷ h) ≡ log first h
    none_then reading none = λ k. elim (none k) [
      | None ↦ log first h
      | Some before ↦ after (periods_of (schema_after first h)) (log first h) (last before) (net_change_of (schema_after first h) (log first h) (none k) (own first h i)) reading
    ]

    pub commit_refused : (reading : ℕ) → Beside first origin w i None
        → (Refused NoTransaction ≡ reply first h (Commit i reading)) × Beside first origin (record { entries = w.entries; history = Commit i reading ∷ h }) i None
    commit_refused reading is = (
      fit_reply first h (Commit i reading) (Refused NoTransaction) (in_range_fits i small)
          (λ k. elim (sym is.opened k) [ Some before ↦ commit_reply (outcome (periods_of (schema_after first h)) (changes (log first h)) (last (log first h)) (snap first h i) (net first h i) reading) | None ↦ Refused NoTransaction ]),
      record {
        tables_are = is.tables_are;
        log_is = is.log_is ∙ sym (none_then reading is.opened);
        opened = closes first h i reading;
      },
    )

    module _ (t : ServedTransaction) (number reading : ℕ) (end : Result (Option ℕ) Refusal) (is : Beside first origin w i (Some t)) where
      abbrev change : Net
      change = net_of (rows_after [] t.changes) t.own.rows t.own.written

      abbrev entry : Entry
      entry = Commits i t.begin change reading end

      o : IsOpened first origin w i t
      o = is.opened

      own_now : t.own ≡ own_of (schema_after first h) (log first h) (log_at_begin first h i) (own first h i)
      own_now =
          same_some _ _ (o.own_is ∙ (λ k. option_map (λ before. own_of (schema_after first h) (log first h) (Some before) (own first h i)) (o.at k)))
          ∙ (λ k. own_of (schema_after first h) (log first h) (sym o.at k) (own first h i))

      rows_now : rows_after [] t.changes ≡ state (log first h) (snap first h i)
      rows_now = ap (rows_after []) o.changes_are ∙ rows_at (log first h) (snap first h i) (log_rises first h)

      net_is : change ≡ net first h i
      net_is = λ k. net_of (rows_now k) (own_now k).rows (own_now k).written

      snap_is : snap first h i ≡ last o.before
      snap_is = ap (snap_of (log first h)) o.at

      module _ (may : MayCommit origin w.entries i t.begin change reading end) where
        start_is : view_last may.view ≡ snap first h i
        start_is = same_some _ _ (ap start_of (sym may.begun ∙ o.begun)) ∙ o.starts

        end_is : end ≡ outcome (periods_of (schema_after first h)) (changes (log first h)) (last (log first h)) (snap first h i) (net first h i) reading
        end_is = may.ends ∙ (λ k. outcome (periods_of (sym is.tables_are k)) (changes (is.log_is k)) (last (is.log_is k)) (start_is k) (net_is k) reading)

        log_now : journal_log origin (entry ∷ w.entries) ≡ log first (Commit i reading ∷ h)
        log_now =
            (λ k. elim (start_of (o.begun k)) [ None ↦ journal_log origin w.entries | Some start ↦ after (periods_of origin.schema) (journal_log origin w.entries) start change reading ])
            ∙ (λ k. after (periods_of (sym is.tables_are k)) (is.log_is k) ((o.starts ∙ snap_is) k) (net_is k) reading)
            ∙ sym (log_then first h i reading o.before o.at)

        commit_by : (commit_reply end ≡ reply first h (Commit i reading)) × Beside first origin (record { entries = entry ∷ w.entries; history = Commit i reading ∷ h }) i None
        commit_by = (
          ap commit_reply end_is ∙ fit_reply first h (Commit i reading) _ (in_range_fits i small) (reply_then first h i reading o.before o.at),
          record { tables_are = is.tables_are; log_is = log_now; opened = closes first h i reading },
        )

      pub commit_right : (e : Entry) → MayCome first origin w number e → e ≡ entry
          → (commit_reply end ≡ reply first h (Commit i reading)) × Beside first origin (record { entries = e ∷ w.entries; history = Commit i reading ∷ h }) i None
      commit_right e may entry_is =
          let right = commit_by (subst (MayFollow origin w.entries) entry_is may.follows) in
          (right.0, subst (λ e. Beside first origin (record { entries = e ∷ w.entries; history = Commit i reading ∷ h }) i None) (sym entry_is) right.1)
