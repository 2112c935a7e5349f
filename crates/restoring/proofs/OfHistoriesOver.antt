-- What each transaction of a history removed was there when it was committed: no unit that it changed was changed since it began.
use Rattle.std.proofs.Common.{◌≡◌, ℕ, ◌≤◌, Bool, true, false, cond, ◌||◌, T, List, [], ◌∷◌, ◌++◌, Option, Some, None, refl, sym, ap, subst, ◌∙◌, map, filter, append-nil, append_assoc, is_some}
use Rattle.std.specs.Prelude.{Result, Ok, Err, nat_lt, max, ◌+◌, if◌then◌else◌}
use Rattle.std.specs.List.{AllByRecursion}
use Rattle.std.specs.FinMap.{is_sorted}
use Rattle.values.specs.declared.key.Key.{Key}
use Rattle.values.specs.declared.key.Transaction.{Transaction}
use Rattle.values.specs.declared.refusal.Refusal.{Refusal}
use Rattle.values.specs.declared.refusal.Refusal.TheVariants.{Conflict, ClockEnd}
use Rattle.values.specs.Order.{key_cmp, is_key}
use Rattle.values.specs.Tables.{Schema}
use Rattle.values.specs.Events.{later}
use Rattle.values.specs.Log.{Changes, Log, Net, Row, State, last, row_at, changes, state}
use Rattle.values.specs.Law.{IsLog}
use Rattle.values.specs.Period.{Periods, periods_of}
use Rattle.values.specs.Commits.{after, log_after, outcome, conflicts_by, by_unit, unit_changed_since, max_instant}
use Rattle.values.specs.Writes.{net_of}
use Rattle.periods.proofs.NoOverlapMerge.{fresh_units, net_last}
use Rattle.steps.specs.declared.step.Step.TheVariants.{Begin, Insert, Update, Delete, UpdatePortion, DeletePortion, Select, Commit, Rollback, AddColumn, SplitKey, SplitTime, Migrate}
use Rattle.histories.specs.History.{History, schema_after, log, log_at_begin, own, own_of, net_change_of, seen_of}
use Rattle.histories.proofs.HistoryGrowth.{log_rises}
use Rattle.histories.proofs.HistoryPrefixes.{opened_below}
use Rattle.restoring.specs.Rebuilt.{IsNetOver}
use Rattle.restoring.specs.OfHistories.{AllOver, LogsAreOver}
use Rattle.restoring.proofs.OfHistoriesNets.{net_in_order, rewritten, untouched_neat}
use Rattle.restoring.proofs.RebuiltRows.{itself}

-- ---- the keys of net changes

either : (a : Option (Option Row)) (b : Bool) (v : Option Row) → is_some (later a (cond b (Some v) None)) ≡ (b || is_some a)
either (Some w) true v = refl
either (Some w) false v = refl
either None true v = refl
either None false v = refl

abbrev AreIn : Net → Net → Type 0
AreIn net some = AllByRecursion (λ c. is_some (net_last net c.0) ≡ true) some

more_in : (c : Key × Option Row) (net some : Net) → AreIn net some → AreIn (c ∷ net) some
more_in c net [] are = tt
more_in c net (x ∷ some) are = (either (net_last net x.0) (is_key x.0 c.0) c.1 ∙ ap (λ b. is_key x.0 c.0 || b) are.0 ∙ last_true (is_key x.0 c.0), more_in c net some are.1)
  where
    last_true : (b : Bool) → (b || true) ≡ true
    last_true true = refl
    last_true false = refl

all_in : (net : Net) → AreIn net net
all_in [] = tt
all_in (c ∷ net) = (either (net_last net c.0) (is_key c.0 c.0) c.1 ∙ ap (λ b. b || is_some (net_last net c.0)) (itself c.0), more_in c net net (all_in net))

-- ---- what was there

there_in : State → Key × Option Row → Bool
there_in m c = is_some c.1 || is_some (row_at m c.0)

passes : (p : Key × Option Row → Bool) (net : Net) → AllByRecursion (λ c. p c ≡ true) (filter p net)
passes p [] = tt
passes p (c ∷ net) = by (p c) refl (passes p net)
  where
    by : (b : Bool) → p c ≡ b → AllByRecursion (λ c. p c ≡ true) (filter p net) → AllByRecursion (λ c. p c ≡ true) (cond b (c ∷ filter p net) (filter p net))
    by true e rest = (e, rest)
    by false e rest = rest

there_now : (seen now : State) (net some : Net) → ((q : Key) → is_some (net_last net q) ≡ true → row_at now q ≡ row_at seen q) → AreIn net some
    → AllByRecursion (λ c. (is_some c.1 || is_some (row_at seen c.0)) ≡ true) some → AllByRecursion (λ c. (is_some c.1 || is_some (row_at now c.0)) ≡ true) some
there_now seen now net [] fresh are there = tt
there_now seen now net (c ∷ some) fresh are there =
    (ap (λ (r : Option Row). is_some c.1 || is_some r) (fresh c.0 are.0) ∙ there.0, there_now seen now net some fresh are.1 there.1)

-- ---- a commit with an instant

abbrev end_with : ℕ → ℕ → Result (Option ℕ) Refusal
end_with latest reading = if nat_lt max_instant (max reading (latest + 1)) then Err ClockEnd else Ok (Some (max reading (latest + 1)))

abbrev end_of : List (Key × ℕ) → ℕ → ℕ → Result (Option ℕ) Refusal
end_of cs latest reading = elim cs [
  | first ∷ others ↦ Err (Conflict first.0 first.1)
  | [] ↦ end_with latest reading
]

none_of : (cs : List (Key × ℕ)) (latest reading i : ℕ) → end_of cs latest reading ≡ Ok (Some i) → cs ≡ []
none_of [] latest reading i e = refl
none_of (c ∷ cs) latest reading i e = cc

no_conflicts : (periods : Periods) (m : Changes) (latest start : ℕ) (net : Net) (reading i : ℕ) → outcome periods m latest start net reading ≡ Ok (Some i) → conflicts_by (unit_changed_since periods m start) (by_unit periods net) ≡ []
no_conflicts periods m latest start [] reading i e = refl
no_conflicts periods m latest start (c ∷ net) reading i e = none_of (conflicts_by (unit_changed_since periods m start) (by_unit periods (c ∷ net))) latest reading i e

-- ---- a log

pushed : (done rest : Log) (t : Transaction) → AllOver done rest → IsNetOver (state (done ++ rest) (last (done ++ rest))) t.net → AllOver done (rest ++ t ∷ [])
pushed done [] t all one = (subst (λ l. IsNetOver (state l (last l)) t.net) (append-nil done) one, tt)
pushed done (u ∷ rest) t all one =
    (all.0, pushed (done ++ u ∷ []) rest t all.1 (subst (λ l. IsNetOver (state l (last l)) t.net) (sym (append_assoc done (u ∷ []) rest)) one))

ended : (periods : Periods) (l : Log) (start : ℕ) (net : Net) (reading : ℕ) → IsLog l → start ≤ last l → T (is_sorted key_cmp net)
    → AllByRecursion (λ c. (is_some c.1 || is_some (row_at (state l start) c.0)) ≡ true) net → AllOver [] l → AllOver [] (after periods l start net reading)
ended periods l start net reading rises le in_order there all = by (outcome periods (changes l) (last l) start net reading) refl
  where
    by : (end : Result (Option ℕ) Refusal) → outcome periods (changes l) (last l) start net reading ≡ end → AllOver [] (log_after l net end)
    by (Ok (Some i)) e =
        let fresh = fresh_units periods l start net rises le (no_conflicts periods (changes l) (last l) start net reading i e) in
        pushed [] l (record { instant = i; net = net }) all (record {
          in_order = in_order;
          there = there_now (state l start) (state l (last l)) net net (λ q says. fresh q q says refl) (all_in net) there;
        })
    by (Ok None) e = all
    by (Err refusal) e = all

all_over : (schema : Schema) (h : History) → AllOver [] (log schema h)
all_over schema [] = tt
all_over schema (Commit i reading ∷ h) = by (log_at_begin schema h i) refl (all_over schema h)
  where
    by : (b : Option Log) → log_at_begin schema h i ≡ b → AllOver [] (log schema h)
        → AllOver [] (elim b [ None ↦ log schema h | Some before ↦ after (periods_of (schema_after schema h)) (log schema h) (last before) (net_change_of (schema_after schema h) (log schema h) (log_at_begin schema h i) (own schema h i)) reading ])
    by None e all = all
    by (Some before) e all =
        let now = schema_after schema h in
        let seen = seen_of (log schema h) (log_at_begin schema h i) in
        let o = own_of now (log schema h) (log_at_begin schema h i) (own schema h i) in
        let neat = rewritten now (own schema h i) (record { rows = seen; written = [] }) (untouched_neat seen) in
        ended (periods_of now) (log schema h) (last before) (net_of seen o.rows o.written) reading (log_rises schema h) (opened_below schema h i before e) (net_in_order seen o neat)
        (subst (λ m. AllByRecursion (λ c. (is_some c.1 || is_some (row_at m c.0)) ≡ true) (net_of seen o.rows o.written)) (ap (λ (b : Option Log). seen_of (log schema h) b) e)
        (passes (λ c. is_some c.1 || is_some (row_at seen c.0)) (map (λ k. (k, row_at o.rows k)) o.written)))
        all
all_over schema (Begin i ∷ h) = all_over schema h
all_over schema (Insert i number rows ∷ h) = all_over schema h
all_over schema (Update i keys sets ∷ h) = all_over schema h
all_over schema (Delete i keys ∷ h) = all_over schema h
all_over schema (UpdatePortion i keys cut sets ∷ h) = all_over schema h
all_over schema (DeletePortion i keys cut ∷ h) = all_over schema h
all_over schema (Select i form keys ∷ h) = all_over schema h
all_over schema (Rollback i ∷ h) = all_over schema h
all_over schema (AddColumn i number name of ∷ h) = all_over schema h
all_over schema (SplitKey key ∷ h) = all_over schema h
all_over schema (SplitTime key instant ∷ h) = all_over schema h
all_over schema (Migrate ∷ h) = all_over schema h

pub logs_are_over : LogsAreOver
logs_are_over schema h = all_over schema h
