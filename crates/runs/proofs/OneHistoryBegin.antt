-- A session's own steps beside a history: BEGIN, queries, ROLLBACK.
use Rattle.std.proofs.Common.{◌≡◌, ℕ, ◌≤◌, [], ◌∷◌, Option, Some, None, refl, sym, ap, subst, ◌∙◌, arith}
use Rattle.std.specs.Prelude.{◌&&◌, if◌then◌else◌, is_none}
use Rattle.std.specs.Option.{option_map}
use Rattle.values.specs.declared.query.Form.{Form}
use Rattle.values.specs.declared.query.Form.TheVariants.{Plain, AsOf, FromTo, Between}
use Rattle.values.specs.declared.query.Keys.{Keys}
use Rattle.values.specs.declared.table.Table.{Table}
use Rattle.values.specs.declared.refusal.Refusal.{Refusal}
use Rattle.values.specs.declared.refusal.Refusal.TheVariants.{InTransaction, NoTable, NoTransaction}
use Rattle.values.specs.Tables.{Schema, table_at}
use Rattle.growlog.specs.Origin.{Origin}
use Rattle.values.specs.Log.{Log, Changes, State, last, upto, changes}
use Rattle.values.specs.RowsAfter.{rows_after}
use Rattle.values.specs.Writes.{Own}
use Rattle.values.specs.Versions.{answer}
use Rattle.values.proofs.LogPush.{upto_all}
use Rattle.serving.specs.tsbtree.View.{TreeState, last as view_last}
use Rattle.serving.specs.staging.View.{Holds}
use Rattle.serving.specs.staging.Own.{own as own_over}
use Rattle.steps.specs.declared.step.Listing.{Listing}
use Rattle.steps.specs.declared.step.Listing.TheVariants.{Rows, Periods}
use Rattle.steps.specs.declared.step.Step.{Step}
use Rattle.steps.specs.declared.step.Step.TheVariants.{Begin, Select, Rollback}
use Rattle.steps.specs.declared.step.Reply.{Reply}
use Rattle.steps.specs.declared.step.Reply.TheVariants.{Begun, Shown, RolledBack, Refused}
use Rattle.steps.specs.Misfit.{max_session, misfit}
use Rattle.steps.specs.Listing.{rows_taken, rows_of}
use Rattle.histories.specs.History as history
use Rattle.histories.specs.History.{History, schema_after, log, log_at_begin, mine_of, own, own_of, reply, snap_of}
use Rattle.histories.proofs.HistoryGrowth.{log_rises}
use Rattle.histories.proofs.StandsEnds.{itself}
use Rattle.serving.specs.journal.declared.entry.Entry.{Entry}
use Rattle.serving.specs.journal.declared.entry.Entry.TheVariants.{Begin as Begins, Commit as Commits, Split as Splits, Install as Installs}
use Rattle.serving.specs.journal.Entries.{log as journal_log}
use Rattle.serving.specs.journal.Legal.{MayFollow, MayBegin}
use Rattle.serving.specs.sessions.OfHistory.{own_at, seen_at}
use Rattle.serving.proofs.sessions.OfHistoryEnded.{in_range_fits}
use Rattle.serving.proofs.sessions.StoreOfHistoryAlike.{begins_itself, fit_reply, opens, put_here, rows_at, sees_all, sees_own, snapshot_is, stays}
use Rattle.serving.specs.Progress.{ServedTransaction, listed, query, unwritten, own_of as served_own}
use Rattle.runs.proofs.OneHistoryBeside.{World, Beside, Held, IsIdle, IsOpened, MayCome, Opened}
use Rattle.runs.proofs.OneHistoryPlain.{plain_shows_state}
use Rattle.runs.proofs.OneHistoryApart.{told_apart}

module _ (first : Schema) (origin : Origin) where
  -- ---- what is open

  pub closed : (w : World) (i : ℕ) (t : Held) → Beside first origin w i t → t ≡ None → log_at_begin first w.history i ≡ None
  closed w i t is none = subst (Opened first origin w i) none is.opened

  pub opened : (w : World) (i : ℕ) (t : Held) (r : ServedTransaction) → Beside first origin w i t → t ≡ Some r → IsOpened first origin w i r
  opened w i t r is some = subst (Opened first origin w i) some is.opened

  pub own_same : (w : World) (i : ℕ) (t : Held) → Opened first origin w i t → served_own t ≡ own_at first w.history i
  own_same w i None is = λ k. option_map (λ before. own_of (schema_after first w.history) (log first w.history) (Some before) (own first w.history i)) (sym is k)
  own_same w i (Some t) is = is.own_is

  -- ---- BEGIN

  -- what a begin shows is all that was committed
  pub record Sees (w : World) (changes_are : Changes) (view : TreeState) : Type 0 where
    pub all : changes_are ≡ changes (log first w.history)
    pub until : view_last view ≡ last (log first w.history)

  pub begin_sees : (w : World) (i number earlier : ℕ) (view : TreeState) (m : Changes) (e : Entry) → journal_log origin w.entries ≡ log first w.history
      → MayCome first origin w number e → e ≡ Begins i earlier view → Holds origin.schema view m → Sees w m view
  begin_sees w i number earlier view m e log_is may entry_is holds =
      let follows : MayBegin origin w.entries i earlier view = subst (MayFollow origin w.entries) entry_is may.follows in
      record {
        all = told_apart origin.schema m (changes (journal_log origin w.entries)) holds.keys may.keys (sym holds.events_are ∙ follows.sees.events_are) ∙ ap changes log_is;
        until = follows.sees.last_is ∙ ap last log_is;
      }

  -- ---- what changes nothing of a part

  pub record IsStill (h : History) (step : Step) (i : ℕ) : Type 0 where
    pub same_tables : schema_after first (step ∷ h) ≡ schema_after first h
    pub same_log : log first (step ∷ h) ≡ log first h
    pub same_begin : log_at_begin first (step ∷ h) i ≡ log_at_begin first h i
    pub same_own : own first (step ∷ h) i ≡ own first h i

  module _ (w : World) (i : ℕ) where
    abbrev h : History
    h = w.history

    abbrev with_step : Step → World
    with_step step = record { entries = w.entries; history = step ∷ w.history }

    abbrev with_entry : Entry → World
    with_entry e = record { entries = e ∷ w.entries; history = w.history }

    opened_still : (step : Step) (t : Held) → IsStill h step i → Opened first origin w i t → Opened first origin (with_step step) i t
    opened_still step None still o = still.same_begin ∙ o
    opened_still step (Some t) still o = record {
      before = o.before;
      at = still.same_begin ∙ o.at;
      changes_are = o.changes_are ∙ (λ k. changes (upto (sym still.same_log k) (snap_of (sym still.same_log k) (sym still.same_begin k))));
      own_is = o.own_is ∙ (λ k. option_map (λ before. own_of (sym still.same_tables k) (sym still.same_log k) (Some before) (sym still.same_own k)) (sym still.same_begin k));
      earlier = o.earlier;
      view = o.view;
      begun = o.begun;
      starts = o.starts ∙ (λ k. snap_of (sym still.same_log k) (sym still.same_begin k));
    }

    pub beside_still : (step : Step) (t : Held) → IsStill h step i → Beside first origin w i t → Beside first origin (with_step step) i t
    beside_still step t still is = record {
      tables_are = still.same_tables ∙ is.tables_are;
      log_is = is.log_is ∙ sym still.same_log;
      opened = opened_still step t still is.opened;
    }

    pub opened_more : (e : Entry) (t : Held) → Opened first origin w i t → Opened first origin (with_entry e) i t
    opened_more e None o = o
    opened_more e (Some t) o = record {
      before = o.before;
      at = o.at;
      changes_are = o.changes_are;
      own_is = o.own_is;
      earlier = o.earlier;
      view = o.view;
      begun = stays e w.entries t.begin _ o.begun;
      starts = o.starts;
    }

    idle_log : (e : Entry) → IsIdle e → journal_log origin (e ∷ w.entries) ≡ journal_log origin w.entries
    idle_log (Begins session earlier view) idle = refl
    idle_log (Installs rect block done) idle = refl
    idle_log (Commits session begin net reading end) idle = absurd idle
    idle_log (Splits cut done) idle = refl

    pub beside_idle : (e : Entry) (t : Held) → IsIdle e → Beside first origin w i t → Beside first origin (with_entry e) i t
    beside_idle e t idle is = record {
      tables_are = is.tables_are;
      log_is = idle_log e idle ∙ is.log_is;
      opened = opened_more e t is.opened;
    }

    -- ---- BEGIN

    module _ (small : i ≤ max_session) where
      pub begins_right : (number earlier : ℕ) (view : TreeState) (m : Changes) (e : Entry) → Beside first origin w i None → MayCome first origin w number e → e ≡ Begins i earlier view → Holds origin.schema view m
          → (Begun (view_last view) ≡ reply first h (Begin i))
          × Beside first origin (record { entries = e ∷ w.entries; history = Begin i ∷ h }) i (Some (unwritten number m))
      begins_right number earlier view m e is may entry_is holds =
          let sees = begin_sees w i number earlier view m e is.log_is may entry_is holds in
          let all = sees.all ∙ sym (sees_all first h i small is.opened) in (
            ap Begun sees.until ∙ fit_reply first h (Begin i) (Begun (last (log first h))) (in_range_fits i small) (λ k. elim (sym is.opened k) [ Some before ↦ Refused InTransaction | None ↦ Begun (last (log first h)) ]),
            subst (λ e. Beside first origin (record { entries = e ∷ w.entries; history = Begin i ∷ h }) i (Some (unwritten number m))) (sym entry_is) (record {
              tables_are = is.tables_are;
              log_is = is.log_is;
              opened = record {
                before = log first h;
                at = opens first h i small is.opened;
                changes_are = all;
                own_is = ap (λ m. Some (own_over m [])) all ∙ sees_own first h i small is.opened;
                earlier = earlier;
                view = view;
                begun = put_here (Begins i earlier view) w.entries number may.numbered;
                starts = sees.until ∙ sym (snapshot_is first h i small is.opened);
              };
            }),
          )

      pub begin_refused : (t : ServedTransaction) → Beside first origin w i (Some t)
          → (Refused InTransaction ≡ reply first h (Begin i)) × Beside first origin (with_step (Begin i)) i (Some t)
      begin_refused t is = (
        fit_reply first h (Begin i) (Refused InTransaction) (in_range_fits i small) (λ k. elim (sym is.opened.at k) [ Some before ↦ Refused InTransaction | None ↦ Begun (last (log first h)) ]),
        beside_still (Begin i) (Some t) (record {
          same_tables = refl;
          same_log = refl;
          same_begin = (λ k. if begins_itself i small k && is_none (is.opened.at k) then Some (log first h) else is.opened.at k) ∙ sym is.opened.at;
          same_own = refl;
        }) is,
      )

      -- ---- ROLLBACK, and COMMIT with none open

      ended : log_at_begin first (Rollback i ∷ h) i ≡ None
      ended = λ k. if itself i k then None else log_at_begin first h i

      rolled_back : (t : Held) → Beside first origin w i t → Beside first origin (with_step (Rollback i)) i None
      rolled_back t is = record { tables_are = is.tables_are; log_is = is.log_is; opened = ended }

      pub rollback_refused : Beside first origin w i None → (Refused NoTransaction ≡ reply first h (Rollback i)) × Beside first origin (with_step (Rollback i)) i None
      rollback_refused is = (
        fit_reply first h (Rollback i) (Refused NoTransaction) (in_range_fits i small) (λ k. elim (sym is.opened k) [ Some before ↦ RolledBack | None ↦ Refused NoTransaction ]),
        rolled_back None is,
      )

      pub rollback_right : (t : ServedTransaction) → Beside first origin w i (Some t) → (RolledBack ≡ reply first h (Rollback i)) × Beside first origin (with_step (Rollback i)) i None
      rollback_right t is = (
        fit_reply first h (Rollback i) RolledBack (in_range_fits i small) (λ k. elim (sym is.opened.at k) [ Some before ↦ RolledBack | None ↦ Refused NoTransaction ]),
        rolled_back (Some t) is,
      )

    -- ---- SELECT

    abbrev rows_or_none : Option Own → State
    rows_or_none None = []
    rows_or_none (Some o) = o.rows

    -- by the log at the begin in one place and the other
    abbrev plain_by : Option Log → Option Log → Table → Keys → Listing
    plain_by lab at table keys = elim lab [
      | Some before ↦ Rows (rows_taken table keys (mine_of (schema_after first h) (log first h) at (own first h i)))
      | None ↦ Rows (rows_of (answer (changes (upto (log first h) (snap_of (log first h) at))) table Plain keys))
    ]

    listed_open : (t : ServedTransaction) (table : Table) (form : Form) (keys : Keys) → IsOpened first origin w i t → listed t.changes t.own table form keys ≡ history.listing first h i form table keys
    listed_open t table Plain keys o =
        ap (λ o. Rows (rows_taken table keys (rows_or_none o))) (o.own_is ∙ (λ k. option_map (λ before. own_of (schema_after first h) (log first h) (Some before) (own first h i)) (o.at k)))
        ∙ (λ k. plain_by (sym o.at k) (sym o.at k) table keys)
    listed_open t table (AsOf a) keys o = ap (λ m. Rows (rows_of (answer m table (AsOf a) keys))) o.changes_are
    listed_open t table (FromTo a b) keys o = ap (λ m. Periods (answer m table (FromTo a b) keys)) o.changes_are
    listed_open t table (Between a b) keys o = ap (λ m. Periods (answer m table (Between a b) keys)) o.changes_are

    module _ (m : Changes) (all : m ≡ changes (log first h)) (none : log_at_begin first h i ≡ None) where
      whole : upto (log first h) (last (log first h)) ≡ log first h
      whole = upto_all (log first h) 0 (last (log first h)) (log_rises first h) (omega arith)

      sees_last : m ≡ seen_at first h i
      sees_last = all ∙ sym (ap changes whole) ∙ (λ k. changes (upto (log first h) (snap_of (log first h) (sym none k))))

      listed_alone : (table : Table) (form : Form) (keys : Keys) → listed m (own_over m []) table form keys ≡ history.listing first h i form table keys
      listed_alone table Plain keys =
          ap (λ m. Rows (rows_taken table keys (rows_after [] m))) (all ∙ sym (ap changes whole))
          ∙ ap (λ rows. Rows (rows_taken table keys rows)) (rows_at (log first h) (last (log first h)) (log_rises first h))
          ∙ ap Rows (sym (plain_shows_state (log first h) (last (log first h)) table keys (log_rises first h)))
          ∙ (λ k. plain_by (sym none k) (sym none k) table keys)
      listed_alone table (AsOf a) keys = ap (λ m. Rows (rows_of (answer m table (AsOf a) keys))) sees_last
      listed_alone table (FromTo a b) keys = ap (λ m. Periods (answer m table (FromTo a b) keys)) sees_last
      listed_alone table (Between a b) keys = ap (λ m. Periods (answer m table (Between a b) keys)) sees_last

    shows : (m : Changes) (o : Own) (form : Form) (keys : Keys) → schema_after first h ≡ origin.schema → ((table : Table) → listed m o table form keys ≡ history.listing first h i form table keys)
        → query origin.schema i m o form keys ≡ reply first h (Select i form keys)
    shows m o form keys stay same =
        by (misfit origin.schema (Select i form keys)) (table_at origin.schema keys.table)
        ∙ (λ k. elim (misfit (sym stay k) (Select i form keys)) [
          | Some refusal ↦ Refused refusal
          | None ↦ elim (table_at (sym stay k) keys.table) [ None ↦ Refused NoTable | Some table ↦ Shown (history.listing first h i form table keys) ]
        ])
      where
        by : (u : Option Refusal) (found : Option Table)
            → ◌≡◌ {A = Reply} (elim u [ Some refusal ↦ Refused refusal | None ↦ elim found [ None ↦ Refused NoTable | Some table ↦ Shown (listed m o table form keys) ] ])
            (elim u [ Some refusal ↦ Refused refusal | None ↦ elim found [ None ↦ Refused NoTable | Some table ↦ Shown (history.listing first h i form table keys) ] ])
        by (Some refusal) found = refl
        by None None = refl
        by None (Some table) = ap Shown (same table)

    select_still : (form : Form) (keys : Keys) → IsStill h (Select i form keys) i
    select_still form keys = record { same_tables = refl; same_log = refl; same_begin = refl; same_own = refl }

    pub select_open : (t : ServedTransaction) (form : Form) (keys : Keys) → Beside first origin w i (Some t)
        → (query origin.schema i t.changes t.own form keys ≡ reply first h (Select i form keys)) × Beside first origin (with_step (Select i form keys)) i (Some t)
    select_open t form keys is = (
      shows t.changes t.own form keys is.tables_are (λ table. listed_open t table form keys is.opened),
      beside_still (Select i form keys) (Some t) (select_still form keys) is,
    )

  pub select_alone : (w : World) (i number earlier : ℕ) (view : TreeState) (m : Changes) (e : Entry) (form : Form) (keys : Keys) → Beside first origin w i None → MayCome first origin w number e → e ≡ Begins i earlier view → Holds origin.schema view m
      → (query origin.schema i m (own_over m []) form keys ≡ reply first w.history (Select i form keys))
      × Beside first origin (record { entries = e ∷ w.entries; history = Select i form keys ∷ w.history }) i None
  select_alone w i number earlier view m e form keys is may entry_is holds =
      let sees = begin_sees w i number earlier view m e is.log_is may entry_is holds in (
        shows w i m (own_over m []) form keys is.tables_are (λ table. listed_alone w i m sees.all is.opened table form keys),
        beside_idle (record { entries = w.entries; history = Select i form keys ∷ w.history }) i e None (subst IsIdle (sym entry_is) tt)
            (beside_still w i (Select i form keys) None (select_still w i form keys) is),
      )
