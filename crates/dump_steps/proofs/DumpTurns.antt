-- The steps of a dump as turns of a system: none is refused.
use Rattle.std.proofs.Common.{◌≡◌, ℕ, ◌+◌, ◌<◌, ◌≤◌, true, false, List, [], ◌∷◌, ◌++◌, Option, Some, None, refl, sym, ap, subst, ◌∙◌, arith, length, map, replicate}
use Rattle.std.specs.Prelude.{Result, Ok, Err, if◌then◌else◌, slice_set, is_some, ◌||◌, filter}
use Rattle.std.specs.List.{AllByRecursion}
use Rattle.values.specs.declared.table.ColumnType.{ColumnType}
use Rattle.values.specs.declared.query.Keys.{Keys}
use Rattle.values.specs.declared.query.Set.{Set}
use Rattle.values.specs.declared.key.Transaction.{Transaction}
use Rattle.values.specs.declared.refusal.Refusal.{Refusal}
use Rattle.values.specs.declared.refusal.Refusal.TheVariants.{TransactionsOpen}
use Rattle.values.specs.Tables.{Schema}
use Rattle.values.specs.Log.{Log, Row, add_net, changes, last, row_at, state}
use Rattle.values.specs.Law.{IsLog}
use Rattle.values.specs.Commits.{log_after, max_instant, outcome}
use Rattle.values.specs.Period.{periods_of}
use Rattle.values.specs.Columns.{new_column, add_column}
use Rattle.values.specs.Writes.{Own, Written, net_of}
use Rattle.values.proofs.LogPush.{add_all-push}
use Rattle.steps.specs.declared.step.Step.{Step}
use Rattle.steps.specs.declared.step.Step.TheVariants.{Begin, Insert, Update, Delete, Commit, AddColumn}
use Rattle.steps.specs.declared.step.Reply.{Reply}
use Rattle.steps.specs.declared.step.Reply.TheVariants.{Begun, Inserted, Updated, Deleted, Committed, Altered, Refused}
use Rattle.steps.specs.Idle.{is_idle}
use Rattle.steps.specs.Misfit.{max_session, misfit}
use Rattle.steps.specs.Reply.{is_refused, written_reply}
use Rattle.steps.specs.Write.{write}
use Rattle.histories.specs.History.{History, replies}
use Rattle.histories.specs.Led.{led}
use Rattle.histories.specs.World.{OpenTransaction, World}
use Rattle.histories.specs.Stands.{Stands, is_open_at}
use Rattle.histories.specs.Turn.{Turn, end_turn, net_in, turn, turn_in}
use Rattle.histories.proofs.HistoryNow.{rows_now, was_there_is}
use Rattle.histories.proofs.TurnReplies.{answers_all}
use Rattle.histories.proofs.WorldGrowth.{last_push}
use Rattle.restoring.specs.Rebuilt.{untouched}
use Rattle.restoring.proofs.RebuiltNet.{transaction_is_added}

-- ---- turns that are not refused

pub record Turns (w : World) (step : Step) (v : World) : Type 0 where
  pub reply : Reply
  pub turns : turn w step ≡ (reply, v)
  pub taken : is_refused reply ≡ false

-- one after another
abbrev pub Goes : World → List Step → World → Type 0
Goes w [] v = w ≡ v
Goes w (step ∷ steps) v = (u : World) × (Turns w step u × Goes u steps v)

pub goes_on : (w u v : World) (a b : List Step) → Goes w a u → Goes u b v → Goes w (a ++ b) v
goes_on w u v [] b first rest = subst (λ w. Goes w b v) (sym first) rest
goes_on w u v (step ∷ a) b first rest = (first.0, (first.1.0, goes_on first.0 u v a b first.1.1 rest))

pub goes_one : (w v : World) (step : Step) → Turns w step v → Goes w (step ∷ []) v
goes_one w v step turns = (v, (turns, refl))

-- what they come to, of a history that the system stands for
pub record HasGone (first : Schema) (v : World) (h : History) (steps : List Step) : Type 0 where
  pub stands : Stands first v (led h steps)
  pub taken : AllByRecursion (λ r. is_refused r ≡ false) (replies first h steps)

pub gone : (first : Schema) (w v : World) (h : History) (steps : List Step) → Goes w steps v → Stands first w h → HasGone first v h steps
gone first w v h [] goes stands = record { stands = subst (λ w. Stands first w h) goes stands; taken = tt }
gone first w v h (step ∷ steps) goes stands =
    let answered = answers_all first w h step stands in
    let turns = goes.1.0.turns in
    let later = gone first goes.0 v (step ∷ h) steps goes.1.1 (subst (λ (t : Turn). Stands first t.1 (step ∷ h)) turns answered.1) in
    record {
      stands = later.stands;
      taken = (ap is_refused (sym answered.0 ∙ ap (λ (t : Turn). t.0) turns) ∙ goes.1.0.taken, later.taken);
    }

-- ---- the system

-- with a log, and the transaction of session 1 alone
abbrev pub system : Schema → Log → Option OpenTransaction → World
system now log opened = record {
  schema = now;
  changes = changes log;
  latest = last log;
  sessions = slice_set (replicate (max_session + 1) None) 1 opened;
}

-- the transaction began at the log
abbrev pub opened : Log → Own → OpenTransaction
opened log o = record { start = last log; rows = o.rows; written = o.written }

nobody : (now : Schema) (log : Log) → is_idle (is_open_at (system now log None)) ≡ true
nobody now log = refl

taken_turn : (w v : World) (step : Step) (reply : Reply) → misfit w.schema step ≡ None → turn_in w step ≡ (reply, v) → is_refused reply ≡ false → Turns w step v
taken_turn w v step reply fits is taken = record {
  reply = reply;
  turns = (λ k. elim (fits k) [ Some refusal ↦ (Refused refusal, w) | None ↦ turn_in w step ]) ∙ is;
  taken = taken;
}

-- an outcome that adds the transaction is its instant
instant_is : (log : Log) (t : Transaction) (end : Result (Option ℕ) Refusal) → last log < t.instant → log_after log t.net end ≡ log ++ t ∷ [] → end ≡ Ok (Some t.instant)
instant_is log t (Ok (Some i)) later added = ap (λ i. Ok (Some i)) (sym (last_push log (record { instant = i; net = t.net })) ∙ ap last added ∙ last_push log t)
instant_is log t (Ok None) later added = let same : last log ≡ t.instant = ap last added ∙ last_push log t in absurd (omega arith)
instant_is log t (Err refusal) later added = let same : last log ≡ t.instant = ap last added ∙ last_push log t in absurd (omega arith)

-- ---- a column that is added

pub column_turns : (now : Schema) (log : Log) (number : ℕ) (name : List ℕ) (of : ColumnType) → misfit now (AddColumn 1 number name of) ≡ None
    → Turns (system now log None) (AddColumn 1 number name of) (system (add_column number (new_column name of) now) log None)
column_turns now log number name of fits =
    taken_turn (system now log None) (system (add_column number (new_column name of) now) log None) (AddColumn 1 number name of) Altered fits
    (ap (λ b. let t : Turn = if b then (Altered, system (add_column number (new_column name of) now) log None) else (Refused TransactionsOpen, system now log None) in t) (nobody now log))
    refl

-- ---- writes

module _ (now : Schema) (log : Log) where
  -- session 1 has these rows, and wrote these keys
  abbrev pub with : Own → World
  with o = system now log (Some (opened log o))

  abbrev wrote : Step → Own → Written → Turn
  wrote step o done = (written_reply step done.0, with done.1)

  pub insert_goes : (o v : Own) (number count : ℕ) (rows : List Row) → misfit now (Insert 1 number rows) ≡ None → write now (Insert 1 number rows) o ≡ (Ok count, v) → Goes (with o) (Insert 1 number rows ∷ []) (with v)
  insert_goes o v number count rows fits done =
      goes_one (with o) (with v) (Insert 1 number rows)
      (taken_turn (with o) (with v) (Insert 1 number rows) (Inserted count) fits (ap (wrote (Insert 1 number rows) o) done) refl)

  pub update_goes : (o v : Own) (count : ℕ) (keys : Keys) (sets : List Set) → misfit now (Update 1 keys sets) ≡ None → write now (Update 1 keys sets) o ≡ (Ok count, v) → Goes (with o) (Update 1 keys sets ∷ []) (with v)
  update_goes o v count keys sets fits done =
      goes_one (with o) (with v) (Update 1 keys sets)
      (taken_turn (with o) (with v) (Update 1 keys sets) (Updated count) fits (ap (wrote (Update 1 keys sets) o) done) refl)

  pub delete_goes : (o v : Own) (count : ℕ) (keys : Keys) → misfit now (Delete 1 keys) ≡ None → write now (Delete 1 keys) o ≡ (Ok count, v) → Goes (with o) (Delete 1 keys ∷ []) (with v)
  delete_goes o v count keys fits done =
      goes_one (with o) (with v) (Delete 1 keys)
      (taken_turn (with o) (with v) (Delete 1 keys) (Deleted count) fits (ap (wrote (Delete 1 keys) o) done) refl)

  -- ---- BEGIN and COMMIT

  pub begin_goes : IsLog log → Goes (system now log None) (Begin 1 ∷ []) (with (untouched (state log (last log))))
  begin_goes rises =
      goes_one (system now log None) (with (untouched (state log (last log)))) (Begin 1)
      (taken_turn (system now log None) (with (untouched (state log (last log)))) (Begin 1) (Begun (last log)) refl
      (λ i. (Begun (last log), with (untouched (rows_now log rises i)))) refl)

  -- a transaction that has this net change in the end is committed at its instant
  pub commit_goes : (o : Own) (t : Transaction) → IsLog log → last log < t.instant → t.instant ≤ max_instant → 0 < length t.net
      → net_of (state log (last log)) o.rows o.written ≡ t.net → Goes (with o) (Commit 1 t.instant ∷ []) (system now (log ++ t ∷ []) None)
  commit_goes o t rises later within some same =
      goes_one (with o) (system now (log ++ t ∷ []) None) (Commit 1 t.instant)
      (taken_turn (with o) (system now (log ++ t ∷ []) None) (Commit 1 t.instant) (Committed (Some t.instant)) refl
      ((λ i. end_turn (with o) 1 (net i) (outcome (periods_of now) (changes log) (last log) (last log) (net i) t.instant))
      ∙ ap (end_turn (with o) 1 t.net) end
      ∙ (λ i. (Committed (Some t.instant), record { schema = now; changes = added i; latest = is i; sessions = slice_set (replicate (max_session + 1) None) 1 None })))
      refl)
    where
      net : net_in (changes log) (opened log o) ≡ t.net
      net = (λ i. filter (λ c. is_some c.1 || was_there_is log (last log) c.0 rises i) (map (λ k. (k, row_at o.rows k)) o.written)) ∙ same

      end : outcome (periods_of now) (changes log) (last log) (last log) t.net t.instant ≡ Ok (Some t.instant)
      end = instant_is log t (outcome (periods_of now) (changes log) (last log) (last log) t.net t.instant) later (transaction_is_added (periods_of now) log t rises later within some)

      added : add_net t.instant (changes log) t.net ≡ changes (log ++ t ∷ [])
      added = sym (add_all-push log [] t)

      is : t.instant ≡ last (log ++ t ∷ [])
      is = sym (last_push log t)
