-- What a store's calls answer and leave beside a history.
use Rattle.std.proofs.Common.{◌≡◌, ◌≢◌, ◌≤◌, ℕ, true, false, [], ◌∷◌, ◌++◌, length, Option, Some, None, refl, sym, ap, ◌∙◌, subst, arith}
use Rattle.std.specs.Prelude.{if◌then◌else◌, ◌==◌, is_none, is_some, not, ◌&&◌, Bool}
use Rattle.std.specs.Option.{option_map}
use Rattle.std.proofs.lemmas.Bool.Decides.{nat_tests}
use Rattle.values.specs.declared.refusal.Refusal.TheVariants.{InTransaction, NoTransaction}
use Rattle.values.specs.Tables.{Schema}
use Rattle.values.specs.Log.{Log, Net, replay, last, state, upto, changes}
use Rattle.values.specs.RowsAfter.{rows_after}
use Rattle.values.specs.Period.{periods_of}
use Rattle.values.specs.Commits.{outcome, after}
use Rattle.values.specs.Law.{IsLog}
use Rattle.values.specs.Writes.{Own, net_of}
use Rattle.values.proofs.LawAsOf.{Rises-upto, upto-append}
use Rattle.values.proofs.LogPush.{upto_all}
use Rattle.book.specs.tsbtree.View.{TreeState, last as view_last}
use Rattle.book.specs.staging.View.{Holds}
use Rattle.book.specs.staging.Own.{own as own_over, net_over}
use Rattle.book.specs.validation.declared.cut.Cut.{Cut}
use Rattle.steps.specs.declared.step.Step.{Step}
use Rattle.steps.specs.declared.step.Step.TheVariants.{Begin as BeginStep, Commit as CommitStep, Insert, Update, Delete, UpdatePortion, DeletePortion, Select, Rollback, AddColumn, SplitKey, SplitTime, Migrate}
use Rattle.steps.specs.declared.step.Reply.{Reply}
use Rattle.steps.specs.declared.step.Reply.TheVariants.{Begun, Done, Refused}
use Rattle.steps.specs.Misfit.{max_session, misfit}
use Rattle.histories.specs.History.{History, schema_after, begins, log, log_at_begin, own, own_of, net, net_change_of, reply, reply_in, rewrite_all, snap, snap_of}
use Rattle.steps.specs.Reply.{commit_reply, is_refused, write_reply}
use Rattle.steps.specs.Write.{writer}
use Rattle.histories.proofs.StandsEnds.{itself}
use Rattle.histories.proofs.HistoryGrowth.{log_rises, step_adds}
use Rattle.histories.proofs.HistoryNow.{rows_now}
use Rattle.histories.proofs.StandsOpen.{no_writes}
use Rattle.histories.proofs.HistoryPrefixes.{opened_below}
use Rattle.book.specs.journal.declared.entry.Entry.{Entry}
use Rattle.book.specs.journal.declared.entry.Entry.TheVariants.{Begin, Commit, Split, Install}
use Rattle.book.specs.journal.Entries.{Entries, entry_at, start_of, log_from}
use Rattle.book.specs.journal.Legal.{IsLegal, MayFollow, MayBegin, MayCommit}
use Rattle.book.proofs.journal.JournalNumbering.{IsWithin, entry_within}
use Rattle.book.specs.Book.{BookState}
use Rattle.sessions.specs.SessionState.{SessionTransactionState, SessionState, WithWrites, own_in, with_transaction, with_writes, write_in}
use Rattle.sessions.specs.Store.{begun_with}
use Rattle.sessions.specs.OfHistory.{IsIn, own_at, seen_at}
use Rattle.sessions.specs.StoreOfHistory.{BeganIn, IsBeside, Grows, IsOfAnother, IsSplitStep, entry_reply, origin, BeginsAnswerAlike, CommitsAnswerAlike, SplitsAnswerAlike, InstallsAnswerAlike, RefusedAlike, OthersLeaveAlike, OwnStepsStayBeside}
use Rattle.sessions.proofs.SessionWriting.{state as session}
use Rattle.sessions.proofs.OfHistoryEnded.{ended_none, in_range_fits}
use Rattle.sessions.proofs.OfHistoryAlike.{writes_leave_alike}

-- ---- what is seen

-- the rows that the changes up to an instant leave
pub rows_at : (l : Log) (t : ℕ) → IsLog l → rows_after [] (changes (upto l t)) ≡ state l t
rows_at l t is =
    let rises : IsLog (upto l t) = Rises-upto l 0 t is in
    rows_now (upto l t) rises ∙ ap (replay []) (upto_all (upto l t) 0 (last (upto l t)) rises (omega arith))

none_open : (f : SessionTransactionState → Own) (g : Log → Own) (o : Option SessionTransactionState) (lab : Option Log) → option_map f o ≡ option_map g lab → o ≡ None → lab ≡ None
none_open f g None None same e = refl
none_open f g None (Some before) same e = absurd (cc)
none_open f g (Some t) lab same e = absurd (cc)

record IsOpened {A : Type 0} (o : Option A) : Type 0 where
  value : A
  is : o ≡ Some value

opened : (f : SessionTransactionState → Own) (g : Log → Own) (o : Option SessionTransactionState) (lab : Option Log) → option_map f o ≡ option_map g lab → o ≢ None → IsOpened lab
opened f g None lab same e = absurd (e refl)
opened f g (Some t) None same e = absurd (cc)
opened f g (Some t) (Some before) same e = record { value = before; is = refl }

some_is : {A : Type 0} (o : Option A) (x : A) → o ≡ Some x → o ≢ None
some_is o x e none = cc (sym e ∙ none)

pub same_some : {A : Type 0} (x y : A) → ◌≡◌ {A = Option A} (Some x) (Some y) → x ≡ y
same_some x y e = cc

-- ---- an entry more

pub stays : (e : Entry) (j : Entries) (n : ℕ) (x : Entry) → entry_at j n ≡ Some x → entry_at (e ∷ j) n ≡ Some x
stays e j n x at =
    let within : IsWithin j n = entry_within j n x at in
    let low : n ≤ length j = within.upto in
    let other : (n == length (e ∷ j)) ≡ false = grind (arith, nat_tests) in
    ap (λ b. if b then Some e else entry_at j n) other ∙ at

all_stay : (more j : Entries) (n : ℕ) (x : Entry) → entry_at j n ≡ Some x → entry_at (more ++ j) n ≡ Some x
all_stay [] j n x at = at
all_stay (e ∷ more) j n x at = stays e (more ++ j) n x (all_stay more j n x at)

pub put_here : (e : Entry) (j : Entries) (n : ℕ) → n ≡ length (e ∷ j) → entry_at (e ∷ j) n ≡ Some e
put_here e j n at = ap (λ b. if b then Some e else entry_at j n) (ap (λ m. n == m) (sym at) ∙ itself n)

may_follow : (before : Log) (s : SessionState) (e : Entry) (n : ℕ) (b c : BookState) → (grows : Grows before s e n b c) → MayFollow (origin before grows.most s) b.entries e
may_follow before s e n b c grows = let legal : IsLegal (origin before grows.most s) (e ∷ b.entries) = subst (IsLegal (origin before grows.most s)) grows.adds.entries_are grows.is.legal in legal.0

began_stays : (more j : Entries) (first schema : Schema) (h : History) (step : Step) (i : ℕ) (o : Option SessionTransactionState) → snap first (step ∷ h) i ≡ snap first h i → seen_at first (step ∷ h) i ≡ seen_at first h i
    → BeganIn j first schema h i o → BeganIn (more ++ j) first schema (step ∷ h) i o
began_stays more j first schema h step i None same seen began = tt
began_stays more j first schema h step i (Some t) same seen began = (
  all_stay more j t.begun.number _ began.0,
  began.1 ∙ sym same,
  subst (Holds schema t.view) (sym seen) began.2,
)

-- ---- BEGIN

pub fit_reply : (first : Schema) (h : History) (step : Step) (r : Reply) → misfit (schema_after first h) step ≡ None → r ≡ reply_in first h step → r ≡ reply first h step
fit_reply first h step r fits is = is ∙ (λ k. elim (sym fits k) [ Some refusal ↦ Refused refusal | None ↦ reply_in first h step ])

pub begins_itself : (i : ℕ) → i ≤ max_session → begins i (BeginStep i) ≡ true
begins_itself i small = grind (arith, nat_tests)

module _ (schema : Schema) (h : History) (i : ℕ) (small : i ≤ max_session) (none : log_at_begin schema h i ≡ None) where
  abbrev pub now : History
  now = BeginStep i ∷ h

  pub opens : log_at_begin schema now i ≡ Some (log schema h)
  opens = (λ k. if begins_itself i small k && is_none (none k) then Some (log schema h) else none k)

  unwritten : own schema now i ≡ []
  unwritten = no_writes schema h i none

  pub snapshot_is : snap schema now i ≡ last (log schema h)
  snapshot_is = ap (snap_of (log schema h)) opens

  pub sees_all : seen_at schema now i ≡ changes (log schema h)
  sees_all = ap (λ t. changes (upto (log schema h) t)) snapshot_is ∙ ap changes (upto_all (log schema h) 0 (last (log schema h)) (log_rises schema h) (omega arith))

  pub sees_own : ◌≡◌ {A = Option Own} (Some (own_over (seen_at schema now i) [])) (own_at schema now i)
  sees_own =
      ap (λ rows. Some (record { rows = rows; written = [] }))
      (ap (λ t. rows_after [] (changes (upto (log schema h) t))) snapshot_is ∙ rows_at (log schema h) (last (log schema h)) (log_rises schema h))
      ∙ sym (λ k. option_map (λ before. own_of (schema_after schema h) (log schema h) (Some before) (unwritten k)) (opens k))

  begun_beside : (before : Log) (tables : Schema) (number earlier : ℕ) (view : TreeState) (j : Entries) (receipt : ℕ) → schema_after schema h ≡ tables → log_from (periods_of tables) before j ≡ log schema h → Holds tables view (changes (log schema h)) → view_last view ≡ last (log schema h) → number ≡ length (Begin i earlier view ∷ j)
      → IsBeside schema before (Begin i earlier view ∷ j) (session i tables receipt (Some (begun_with number earlier view))) now
  begun_beside before tables number earlier view j receipt stay same holds stands at = record {
    in_range = small;
    log_is = same;
    is_in = record { tables_are = stay; snapshot = refl; own_is = sees_own };
    began = (put_here (Begin i earlier view) j number at, stands ∙ sym snapshot_is, subst (Holds tables view) (sym sees_all) holds);
  }

pub begins_answer_alike : BeginsAnswerAlike
begins_answer_alike first before old new b c h number e is none grows begun = (
  ap entry_reply begun.entry_is ∙ ap Begun ends ∙ fit_reply first h (BeginStep old.number) (Begun (last (log first h))) (in_range_fits old.number is.in_range) (λ k. elim (sym closed k) [ Some before ↦ Refused InTransaction | None ↦ Begun (last (log first h)) ]),
  subst (λ j. IsBeside first before j new (BeginStep old.number ∷ h)) (sym (grows.adds.entries_are ∙ ap (λ e. e ∷ b.entries) begun.entry_is))
      (subst (λ s. IsBeside first before (Begin old.number begun.earlier begun.view ∷ b.entries) s (BeginStep old.number ∷ h)) (sym begun.session_is)
      (begun_beside first h old.number is.in_range closed before old.schema number begun.earlier begun.view b.entries number is.is_in.tables_are is.log_is holds ends (grows.adds.numbered ∙ ap length grows.adds.entries_are))),
)
  where
    closed : log_at_begin first h old.number ≡ None
    closed = none_open _ _ old.transaction (log_at_begin first h old.number) is.is_in.own_is none

    may : MayBegin (origin before grows.most old) b.entries old.number begun.earlier begun.view
    may = subst (MayFollow (origin before grows.most old) b.entries) begun.entry_is (may_follow before old e number b c grows)

    ends : view_last begun.view ≡ last (log first h)
    ends = may.sees.last_is ∙ ap last is.log_is

    holds : Holds old.schema begun.view (changes (log first h))
    holds = subst (λ l. Holds old.schema begun.view (changes l)) is.log_is (record { events_are = may.sees.events_are; keys = grows.was.holds.keys; in_order = grows.was.holds.in_order })

-- ---- COMMIT

module _ (schema : Schema) (h : History) (i : ℕ) where
  -- the net change is the history's
  net_alike : (writes : Net) (before : Log) → log_at_begin schema h i ≡ Some before → ◌≡◌ {A = Option Own} (Some (own_over (seen_at schema h i) writes)) (own_at schema h i) → net_over (seen_at schema h i) writes ≡ net schema h i
  net_alike writes before is same =
      (λ k. net_of (rows_at (log schema h) (snap schema h i) (log_rises schema h) k) (alike k).rows (alike k).written)
    where
      alike : own_over (seen_at schema h i) writes ≡ own_of (schema_after schema h) (log schema h) (log_at_begin schema h i) (own schema h i)
      alike =
          same_some _ _ (same ∙ (λ k. option_map (λ before. own_of (schema_after schema h) (log schema h) (Some before) (own schema h i)) (is k)))
          ∙ (λ k. own_of (schema_after schema h) (log schema h) (sym is k) (own schema h i))

  module _ (reading : ℕ) where
    abbrev pub ended : History
    ended = CommitStep i reading ∷ h

    pub closes : log_at_begin schema ended i ≡ None
    closes = (λ k. if itself i k then None else log_at_begin schema h i)

    pub has_none : ◌≡◌ {A = Option Own} None (own_at schema ended i)
    has_none = λ k. option_map (λ before. own_of (schema_after schema h) (log schema ended) (Some before) (own schema ended i)) (sym closes k)

    pub log_then : (before : Log) → log_at_begin schema h i ≡ Some before → log schema ended ≡ after (periods_of (schema_after schema h)) (log schema h) (last before) (net schema h i) reading
    log_then before is = λ k. elim (is k) [ None ↦ log schema h | Some before ↦ after (periods_of (schema_after schema h)) (log schema h) (last before) (net_change_of (schema_after schema h) (log schema h) (log_at_begin schema h i) (own schema h i)) reading ]

    pub reply_then : (before : Log) → log_at_begin schema h i ≡ Some before → commit_reply (outcome (periods_of (schema_after schema h)) (changes (log schema h)) (last (log schema h)) (snap schema h i) (net schema h i) reading) ≡ reply_in schema h (CommitStep i reading)
    reply_then before is = λ k. elim (sym is k) [ Some before ↦ commit_reply (outcome (periods_of (schema_after schema h)) (changes (log schema h)) (last (log schema h)) (snap schema h i) (net schema h i) reading) | None ↦ Refused NoTransaction ]

pub commits_answer_alike : CommitsAnswerAlike
commits_answer_alike first before old new b c h reading number e is grows did = (
  ap entry_reply did.entry_is ∙ ap commit_reply end_is
      ∙ fit_reply first h (CommitStep old.number reading) _ (in_range_fits old.number is.in_range) (reply_then first h old.number reading lab.value lab.is),
  subst (λ j. IsBeside first before j new (CommitStep old.number reading ∷ h)) (sym (grows.adds.entries_are ∙ ap (λ e. e ∷ b.entries) did.entry_is))
      (subst (λ s. IsBeside first before (entry ∷ b.entries) s (CommitStep old.number reading ∷ h)) (sym did.session_is) (record {
        in_range = is.in_range;
        log_is = log_is;
        is_in = record { tables_are = is.is_in.tables_are; snapshot = refl; own_is = has_none first h old.number reading };
        began = tt;
      })),
)
  where
    entry : Entry
    entry = Commit old.number did.ran.begun.number did.net reading did.end

    lab : IsOpened (log_at_begin first h old.number)
    lab = opened _ _ old.transaction (log_at_begin first h old.number) is.is_in.own_is (some_is old.transaction did.ran did.was_open)

    began : BeganIn b.entries first old.schema h old.number (Some did.ran)
    began = subst (BeganIn b.entries first old.schema h old.number) did.was_open is.began

    may : MayCommit (origin before grows.most old) b.entries old.number did.ran.begun.number did.net reading did.end
    may = subst (MayFollow (origin before grows.most old) b.entries) did.entry_is (may_follow before old e number b c grows)

    start_is : view_last may.view ≡ snap first h old.number
    start_is = same_some _ _ (ap start_of (sym may.begun ∙ began.0)) ∙ began.1

    snap_is : snap first h old.number ≡ last lab.value
    snap_is = ap (snap_of (log first h)) lab.is

    net_is : did.net ≡ net first h old.number
    net_is =
        did.net_is (seen_at first h old.number) began.2
        ∙ net_alike first h old.number did.ran.writes lab.value lab.is ((λ k. option_map (λ t. own_over (seen_at first h old.number) t.writes) (sym did.was_open k)) ∙ is.is_in.own_is)

    end_is : did.end ≡ outcome (periods_of (schema_after first h)) (changes (log first h)) (last (log first h)) (snap first h old.number) (net first h old.number) reading
    end_is = may.ends ∙ (λ k. outcome (periods_of (sym is.is_in.tables_are k)) (changes (is.log_is k)) (last (is.log_is k)) (start_is k) (net_is k) reading)

    log_is : log_from (periods_of old.schema) before (entry ∷ b.entries) ≡ log first (CommitStep old.number reading ∷ h)
    log_is =
        (λ k. elim (start_of (began.0 k)) [ None ↦ log_from (periods_of old.schema) before b.entries | Some start ↦ after (periods_of old.schema) (log_from (periods_of old.schema) before b.entries) start did.net reading ])
        ∙ (λ k. after (periods_of (sym is.is_in.tables_are k)) (is.log_is k) ((began.1 ∙ snap_is) k) (net_is k) reading)
        ∙ sym (log_then first h old.number reading lab.value lab.is)

-- ---- a split

split_beside : (first : Schema) (before : Log) (s : SessionState) (j : Entries) (h : History) (step : Step) (cut : Cut) (done : Bool) → IsBeside first before j s h → IsSplitStep cut step → IsBeside first before (Split cut done ∷ j) s (step ∷ h)
split_beside first before s j h (SplitKey key) cut done is at = record {
  in_range = is.in_range;
  log_is = is.log_is;
  is_in = record { tables_are = is.is_in.tables_are; snapshot = refl; own_is = is.is_in.own_is };
  began = began_stays (Split cut done ∷ []) j first s.schema h (SplitKey key) s.number s.transaction refl refl is.began;
}
split_beside first before s j h (SplitTime key instant) cut done is at = record {
  in_range = is.in_range;
  log_is = is.log_is;
  is_in = record { tables_are = is.is_in.tables_are; snapshot = refl; own_is = is.is_in.own_is };
  began = began_stays (Split cut done ∷ []) j first s.schema h (SplitTime key instant) s.number s.transaction refl refl is.began;
}
split_beside first before s j h (BeginStep i) cut done is at = absurd at
split_beside first before s j h (Insert i number rows) cut done is at = absurd at
split_beside first before s j h (Update i keys sets) cut done is at = absurd at
split_beside first before s j h (Delete i keys) cut done is at = absurd at
split_beside first before s j h (UpdatePortion i keys span sets) cut done is at = absurd at
split_beside first before s j h (DeletePortion i keys span) cut done is at = absurd at
split_beside first before s j h (Select i form keys) cut done is at = absurd at
split_beside first before s j h (CommitStep i reading) cut done is at = absurd at
split_beside first before s j h (Rollback i) cut done is at = absurd at
split_beside first before s j h (AddColumn i number name of) cut done is at = absurd at
split_beside first before s j h Migrate cut done is at = absurd at

split_reply : (schema : Schema) (h : History) (cut : Cut) (step : Step) → IsSplitStep cut step → Done ≡ reply_in schema h step
split_reply schema h cut (SplitKey key) at = refl
split_reply schema h cut (SplitTime key instant) at = refl
split_reply schema h cut (BeginStep i) at = absurd at
split_reply schema h cut (Insert i number rows) at = absurd at
split_reply schema h cut (Update i keys sets) at = absurd at
split_reply schema h cut (Delete i keys) at = absurd at
split_reply schema h cut (UpdatePortion i keys span sets) at = absurd at
split_reply schema h cut (DeletePortion i keys span) at = absurd at
split_reply schema h cut (Select i form keys) at = absurd at
split_reply schema h cut (CommitStep i reading) at = absurd at
split_reply schema h cut (Rollback i) at = absurd at
split_reply schema h cut (AddColumn i number name of) at = absurd at
split_reply schema h cut Migrate at = absurd at

pub splits_answer_alike : SplitsAnswerAlike
splits_answer_alike first before s j h cut step e is at fits did = (
  ap entry_reply did.entry_is ∙ fit_reply first h step Done (ap (λ schema. misfit schema step) is.is_in.tables_are ∙ fits) (split_reply first h cut step at),
  subst (λ e. IsBeside first before (e ∷ j) s (step ∷ h)) (sym did.entry_is) (split_beside first before s j h step cut did.done is at),
)

-- ---- an install

pub installs_answer_alike : InstallsAnswerAlike
installs_answer_alike first before s j h packed e at did = (
  ap entry_reply did.entry_is ∙ fit_reply first h Migrate Done refl refl,
  subst (λ e. IsBeside first before (e ∷ j) s (Migrate ∷ h)) (sym did.entry_is) (record {
    in_range = at.in_range;
    log_is = at.log_is;
    is_in = record { tables_are = at.is_in.tables_are; snapshot = refl; own_is = at.is_in.own_is };
    began = began_stays (Install packed.node.rect packed.bytes did.done ∷ []) j first s.schema h Migrate s.number s.transaction refl refl at.began;
  }),
)

-- ---- refusals

pub refused_alike : RefusedAlike
refused_alike first before s j h is = (
  (λ ran. let lab : IsOpened (log_at_begin first h s.number) = opened _ _ s.transaction (log_at_begin first h s.number) is.is_in.own_is ran in
      fit_reply first h (BeginStep s.number) (Refused InTransaction) (in_range_fits s.number is.in_range) (λ k. elim (sym lab.is k) [ Some before ↦ Refused InTransaction | None ↦ Begun (last (log first h)) ])),
  λ reading none. let closed : log_at_begin first h s.number ≡ None = none_open _ _ s.transaction (log_at_begin first h s.number) is.is_in.own_is none in
      fit_reply first h (CommitStep s.number reading) (Refused NoTransaction) (in_range_fits s.number is.in_range)
      (λ k. elim (sym closed k) [ Some before ↦ commit_reply (outcome (periods_of (schema_after first h)) (changes (log first h)) (last (log first h)) (snap first h s.number) (net first h s.number) reading) | None ↦ Refused NoTransaction ]),
)

-- ---- another session

module _ (schema : Schema) (h : History) (step : Step) (i : ℕ) (other : IsOfAnother i step) where
  pub same_tables : schema_after schema (step ∷ h) ≡ schema_after schema h
  same_tables = other.no_column (schema_after schema h) _

  pub same_begin : log_at_begin schema (step ∷ h) i ≡ log_at_begin schema h i
  same_begin = λ k. if other.no_end k then None else if other.no_begin k && is_none (log_at_begin schema h i) then Some (log schema h) else log_at_begin schema h i

  same_writes : own schema (step ∷ h) i ≡ own schema h i
  same_writes = λ k. if other.no_end k then [] else if other.no_write k && is_some (log_at_begin schema h i) && not (is_refused (write_reply (schema_after schema h) step (own_of (schema_after schema h) (log schema h) (log_at_begin schema h i) (own schema h i)))) then own schema h i ++ step ∷ [] else own schema h i

  -- what was committed until the snapshot stays
  pub upto_stays : (before : Log) → log_at_begin schema h i ≡ Some before → upto (log schema (step ∷ h)) (last before) ≡ upto (log schema h) (last before)
  upto_stays before is =
      let added = step_adds schema h step in
      ap (λ l. upto l (last before)) added.1
      ∙ upto-append (log schema h) added.0 0 (last before) (opened_below schema h i before is) (subst IsLog added.1 (log_rises schema (step ∷ h)))

  pub open_stays : (before : Log) → log_at_begin schema h i ≡ Some before → own_at schema h i ≡ own_at schema (step ∷ h) i
  open_stays before is =
      (λ k. option_map (λ before. own_of (schema_after schema h) (log schema h) (Some before) (own schema h i)) (is k))
      ∙ (λ k. Some (rewrite_all (sym same_tables k) (sym same_writes k) (record { rows = replay [] (sym (upto_stays before is) k); written = [] })))
      ∙ (λ k. option_map (λ before. own_of (schema_after schema (step ∷ h)) (log schema (step ∷ h)) (Some before) (own schema (step ∷ h) i)) (sym (same_begin ∙ is) k))

  pub snap_stays : (before : Log) → log_at_begin schema h i ≡ Some before → snap schema (step ∷ h) i ≡ snap schema h i
  snap_stays before is = (λ k. snap_of (log schema (step ∷ h)) ((same_begin ∙ is) k)) ∙ (λ k. snap_of (log schema h) (sym is k))

  pub seen_stays : (before : Log) → log_at_begin schema h i ≡ Some before → seen_at schema (step ∷ h) i ≡ seen_at schema h i
  seen_stays before is =
      (λ k. changes (upto (log schema (step ∷ h)) (snap_of (log schema (step ∷ h)) ((same_begin ∙ is) k))))
      ∙ ap changes (upto_stays before is)
      ∙ (λ k. changes (upto (log schema h) (snap_of (log schema h) (sym is k))))

pub others_leave_alike : OthersLeaveAlike
others_leave_alike first before s j more h step is other grows = by s.transaction refl
  where
    by : (o : Option SessionTransactionState) → s.transaction ≡ o → IsBeside first before (more ++ j) s (step ∷ h)
    by None none =
        let closed : log_at_begin first h s.number ≡ None = none_open _ _ s.transaction (log_at_begin first h s.number) is.is_in.own_is none in
        record {
          in_range = is.in_range;
          log_is = grows;
          is_in = record {
            tables_are = same_tables first h step s.number other ∙ is.is_in.tables_are;
            snapshot = refl;
            own_is =
                (λ k. option_map (λ t. own_over (seen_at first (step ∷ h) s.number) t.writes) (none k))
                ∙ (λ k. option_map (λ before. own_of (schema_after first (step ∷ h)) (log first (step ∷ h)) (Some before) (own first (step ∷ h) s.number)) (sym (same_begin first h step s.number other ∙ closed) k));
          };
          began = subst (BeganIn (more ++ j) first s.schema (step ∷ h) s.number) (sym none) tt;
        }
    by (Some t) ran =
        let lab : IsOpened (log_at_begin first h s.number) = opened _ _ s.transaction (log_at_begin first h s.number) is.is_in.own_is (some_is s.transaction t ran) in
        record {
          in_range = is.in_range;
          log_is = grows;
          is_in = record {
            tables_are = same_tables first h step s.number other ∙ is.is_in.tables_are;
            snapshot = refl;
            own_is = (λ k. own_in (seen_stays first h step s.number other lab.value lab.is k) s) ∙ is.is_in.own_is ∙ open_stays first h step s.number other lab.value lab.is;
          };
          began = began_stays more j first s.schema h step s.number s.transaction (snap_stays first h step s.number other lab.value lab.is) (seen_stays first h step s.number other lab.value lab.is) is.began;
        }

-- ---- what a session does without the store

record IsStill (schema : Schema) (h : History) (step : Step) (i : ℕ) : Type 0 where
  same_log : log schema (step ∷ h) ≡ log schema h
  same_begin : log_at_begin schema (step ∷ h) i ≡ log_at_begin schema h i

still : (schema : Schema) (h : History) (step : Step) (i : ℕ) → writer step ≡ Some i → IsStill schema h step i
still schema h (Insert j number rows) i its = record { same_log = refl; same_begin = refl }
still schema h (Update j keys sets) i its = record { same_log = refl; same_begin = refl }
still schema h (Delete j keys) i its = record { same_log = refl; same_begin = refl }
still schema h (UpdatePortion j keys cut sets) i its = record { same_log = refl; same_begin = refl }
still schema h (DeletePortion j keys cut) i its = record { same_log = refl; same_begin = refl }
still schema h (BeginStep j) i its = absurd (cc)
still schema h (Select j form keys) i its = absurd (cc)
still schema h (CommitStep j reading) i its = absurd (cc)
still schema h (Rollback j) i its = absurd (cc)
still schema h (AddColumn j number name of) i its = absurd (cc)
still schema h (SplitKey key) i its = absurd (cc)
still schema h (SplitTime key instant) i its = absurd (cc)
still schema h Migrate i its = absurd (cc)

began_written : (j : Entries) (first schema : Schema) (h : History) (i : ℕ) (writes : Net) (o : Option SessionTransactionState) → BeganIn j first schema h i o → BeganIn j first schema h i (option_map (with_writes writes) o)
began_written j first schema h i writes None began = tt
began_written j first schema h i writes (Some t) began = began

write_beside : (first : Schema) (before : Log) (old new : SessionState) (j : Entries) (h : History) (step : Step) → IsBeside first before j old h → writer step ≡ Some old.number → WithWrites old new
    → own_in (seen_at first h old.number) new ≡ (write_in old step (own_in (seen_at first h old.number) old)).1 → IsBeside first before j new (step ∷ h)
write_beside first before old new j h step is its rest did =
    subst (λ s. IsBeside first before j s (step ∷ h)) (sym rest.1) (record {
      in_range = is.in_range;
      log_is = is.log_is ∙ sym same.same_log;
      is_in = subst (λ m. IsIn first m written (step ∷ h)) is_in.snapshot is_in;
      began = began_stays [] j first old.schema h step old.number written.transaction (λ k. snap_of (same.same_log k) (same.same_begin k)) (λ k. changes (upto (same.same_log k) (snap_of (same.same_log k) (same.same_begin k))))
          (began_written j first old.schema h old.number rest.0 old.transaction is.began);
    })
  where
    written : SessionState
    written = with_transaction old (option_map (with_writes rest.0) old.transaction)

    same : IsStill first h step old.number
    same = still first h step old.number its

    is_in : IsIn first (seen_at first h old.number) written (step ∷ h)
    is_in = writes_leave_alike first (seen_at first h old.number) old written h step is.is_in its refl refl (ap (own_in (seen_at first h old.number)) (sym rest.1) ∙ did)

pub own_steps_stay : OwnStepsStayBeside
own_steps_stay first before old new j h step is = (
  (λ its rest did. write_beside first before old new j h step is its rest did),
  (λ form keys. record {
    in_range = is.in_range;
    log_is = is.log_is;
    is_in = record { tables_are = is.is_in.tables_are; snapshot = refl; own_is = is.is_in.own_is };
    began = began_stays [] j first old.schema h (Select old.number form keys) old.number old.transaction refl refl is.began;
  }),
  record {
    in_range = is.in_range;
    log_is = is.log_is;
    is_in = record { tables_are = is.is_in.tables_are; snapshot = refl; own_is = ended_none first h old.number };
    began = tt;
  },
)
