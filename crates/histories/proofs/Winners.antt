-- The first committer wins: what was committed since a transaction began has none of its units, so none of its keys.
use Rattle.std.proofs.Common.{◌≡◌, ℕ, ◌<◌, Bool, true, false, List, [], ◌∷◌, ◌++◌, Option, Some, None, refl, sym, ap, subst, ◌∙◌, arith, map}
use Rattle.std.specs.List.{cons_option}
use Rattle.std.specs.Option.{option_map}
use Rattle.std.specs.Prelude.{Result, Ok, Err, if◌then◌else◌, nat_lt, max, ◌+◌, ◌&&◌, ◌||◌, is_some, All, Contains}
use Rattle.std.proofs.lemmas.Bool.Decides.{nat_tests}
use Rattle.std.proofs.lemmas.Bool.{false≢true}
use Rattle.std.proofs.lemmas.List.Elements.{All-nil, All-cons, All-contains}
use Rattle.std.specs.Ordering.{match_ordering, ordering_reverse, is_eq}
use Rattle.std.specs.declared.cmp.Ordering.{Ordering}
use Rattle.std.specs.declared.cmp.Ordering.TheVariants.{Less, Equal, Greater}
use Rattle.std.specs.BTreeMap.{insert_entry}
use Rattle.std.specs.Map.{keys_of}
use Rattle.values.specs.declared.key.Key.{Key}
use Rattle.values.specs.declared.key.Point.{Point}
use Rattle.values.specs.declared.refusal.Refusal.{Refusal}
use Rattle.values.specs.declared.refusal.Refusal.TheVariants.{Conflict, ClockEnd}
use Rattle.values.specs.Order.{key_cmp, is_key}
use Rattle.values.specs.Tables.{Schema}
use Rattle.values.specs.Each.{Each}
use Rattle.values.specs.Log.{Log, Net, Row, Changes, last, changes, add_net, add_all, point_cmp}
use Rattle.values.specs.Period.{Periods, periods_of}
use Rattle.values.specs.Entity.{unit_of}
use Rattle.values.specs.Commits.{latest_of, unit_changed_since, outcome, log_after, after, max_instant}
use Rattle.values.specs.ChangedSince.{conflicts}
use Rattle.values.proofs.OrderTotal.{key_cmp_total, point_cmp-IsAntisymmetric}
use Rattle.rows.proofs.SchemaPlaces.{Apart, apart_push, apart_no_two, each_to}
use Rattle.steps.specs.declared.step.Step.TheVariants.{Begin, Insert, Update, Delete, UpdatePortion, DeletePortion, Select, Commit, Rollback, AddColumn, SplitKey, SplitTime, Migrate}
use Rattle.histories.specs.History.{History, schema_after, log, log_at_begin, net}
use Rattle.histories.specs.Winners.{Winner, winners, winners_with, AreConcurrent, ShareAUnit}
use Rattle.histories.specs.Law.{FirstCommitterWins, LogIsOfWinners}
use Rattle.histories.proofs.HistoryTables.{periods_stay}

or_none : (a : Bool) → (false || a) ≡ (a || false)
or_none true = refl
or_none false = refl

or_turned : (a b : Bool) → (a || b) ≡ (b || a)
or_turned true true = refl
or_turned true false = refl
or_turned false true = refl
or_turned false false = refl

or_twice : (t a : Bool) → (t || a) ≡ (a || (t || a))
or_twice true true = refl
or_twice true false = refl
or_twice false true = refl
or_twice false false = refl

or_joined : (a t b : Bool) → ((a || t) || b) ≡ (a || (t || b))
or_joined true t b = refl
or_joined false t b = refl

or_kept : (a b : Bool) → b ≡ true → (a || b) ≡ true
or_kept true b e = refl
or_kept false b e = e

or_first : (a b : Bool) → a ≡ true → (a || b) ≡ true
or_first true b e = refl
or_first false b e = cc

level : (o : Ordering) → o ≡ ordering_reverse o → is_eq o ≡ true
level Less e = cc
level Equal e = refl
level Greater e = cc

either : (o : Option ℕ) (b : Bool) (i : ℕ) → is_some (latest_of o (if b then Some i else None)) ≡ (is_some o || b)
either (Some a) true i = refl
either (Some a) false i = refl
either None true i = refl
either None false i = refl

settled_none : (xs : List (Key × ℕ)) (latest reading i : ℕ) → ◌≡◌ {A = Result (Option ℕ) Refusal} (elim xs [
  | first ∷ others ↦ Err (Conflict first.0 first.1)
  | [] ↦ if nat_lt max_instant (max reading (latest + 1)) then Err ClockEnd else Ok (Some (max reading (latest + 1)))
]) (Ok (Some i)) → xs ≡ []
settled_none [] latest reading i e = refl
settled_none (x ∷ xs) latest reading i e = cc

-- a commit finds no conflict
pub none_found : (periods : Periods) (m : Changes) (latest start : ℕ) (net : Net) (reading i : ℕ) → outcome periods m latest start net reading ≡ Ok (Some i) → conflicts periods m start net ≡ []
none_found periods m latest start [] reading i e = cc
none_found periods m latest start (c ∷ net) reading i e = settled_none (conflicts periods m start (c ∷ net)) latest reading i e

abbrev transactions : List Winner → Log
transactions ws = map (λ w. w.transaction) ws

module _ (periods : Periods) where
  -- ---- the units that changes touch since an instant

  -- the point is of the unit, and above the instant
  abbrev pub hit : ℕ → Key → Point → Bool
  hit start u p = is_key u (unit_of periods p.key) && nat_lt start p.instant

  abbrev pub touched : Changes → ℕ → Key → Bool
  touched [] start u = false
  touched (c ∷ cs) start u = touched cs start u || hit start u c.0

  pub touched_is : (m : Changes) (start : ℕ) (u : Key) → is_some (unit_changed_since periods m start u) ≡ touched m start u
  touched_is [] start u = refl
  touched_is (c ∷ cs) start u = either (unit_changed_since periods cs start u) (hit start u c.0) c.0.instant ∙ ap (λ b. b || hit start u c.0) (touched_is cs start u)

  inserted_at : (o : Ordering) (c : Point × Option Row) (cs : Changes) (p : Point) (v : Option Row) (start : ℕ) (u : Key) → point_cmp p c.0 ≡ o
      → touched (insert_entry point_cmp cs p v) start u ≡ (hit start u p || touched cs start u)
      → touched (match_ordering o ((p, v) ∷ c ∷ cs) ((c.0, v) ∷ cs) (c ∷ insert_entry point_cmp cs p v)) start u ≡ (hit start u p || (touched cs start u || hit start u c.0))
  inserted_at Less c cs p v start u e rest = or_turned (touched cs start u || hit start u c.0) (hit start u p)
  inserted_at Equal c cs p v start u e rest =
      subst (λ (q : Point). (touched cs start u || hit start u c.0) ≡ (hit start u q || (touched cs start u || hit start u c.0))) (sym (point_cmp-IsAntisymmetric p c.0 e)) (or_twice (touched cs start u) (hit start u c.0))
  inserted_at Greater c cs p v start u e rest = ap (λ b. b || hit start u c.0) rest ∙ or_joined (hit start u p) (touched cs start u) (hit start u c.0)

  -- a change more touches its unit and what was touched
  touched_insert : (m : Changes) (p : Point) (v : Option Row) (start : ℕ) (u : Key) → touched (insert_entry point_cmp m p v) start u ≡ (hit start u p || touched m start u)
  touched_insert [] p v start u = or_none (hit start u p)
  touched_insert (c ∷ cs) p v start u = inserted_at (point_cmp p c.0) c cs p v start u refl (touched_insert cs p v start u)

  kept_net : (net : Net) (i : ℕ) (m : Changes) (start : ℕ) (u : Key) → touched m start u ≡ true → touched (add_net i m net) start u ≡ true
  kept_net [] i m start u e = e
  kept_net (c ∷ net) i m start u e = kept_net net i _ start u (touched_insert m (record { key = c.0; instant = i }) c.1 start u ∙ or_kept (hit start u (record { key = c.0; instant = i })) (touched m start u) e)

  pub kept_log : (log : Log) (m : Changes) (start : ℕ) (u : Key) → touched m start u ≡ true → touched (add_all m log) start u ≡ true
  kept_log [] m start u e = e
  kept_log (t ∷ log) m start u e = kept_log log _ start u (kept_net t.net t.instant m start u e)

  hit_itself : (start : ℕ) (k : Key) (i : ℕ) → start < i → hit start (unit_of periods k) (record { key = k; instant = i }) ≡ true
  hit_itself start k i above = λ j. level (key_cmp (unit_of periods k) (unit_of periods k)) (key_cmp_total.antisymm (unit_of periods k) (unit_of periods k)) j && tested j
    where
      tested : nat_lt start i ≡ true
      tested = grind (arith, nat_tests)

  -- the unit of the key is touched, or is not
  abbrev pub IsTouched : Changes → ℕ → Key → Type 0
  IsTouched m start k = touched m start (unit_of periods k) ≡ true

  abbrev pub IsFree : Changes → ℕ → Key → Type 0
  IsFree m start k = touched m start (unit_of periods k) ≡ false

  -- a net change touches the units of its keys
  pub net_touches : (net : Net) (i : ℕ) (m : Changes) (start : ℕ) → start < i → All (IsTouched (add_net i m net) start) (keys_of net)
  net_touches [] i m start above = All-nil (IsTouched m start)
  net_touches (c ∷ net) i m start above =
      All-cons (IsTouched (add_net i m (c ∷ net)) start) c.0 (keys_of net)
      (kept_net net i _ start (unit_of periods c.0) (touched_insert m (record { key = c.0; instant = i }) c.1 start (unit_of periods c.0) ∙ or_first _ _ (hit_itself start c.0 i above)))
      (net_touches net i _ start above)

  -- each transaction after the start touches the units of its keys
  abbrev Touches : Changes → ℕ → Winner → Type 0
  Touches m start w = start < w.transaction.instant → (k : Key) → Contains (keys_of w.transaction.net) k → IsTouched m start k

  all_touch : (ws : List Winner) (m : Changes) (start : ℕ) → Each (Touches (add_all m (transactions ws)) start) ws
  all_touch [] m start = tt
  all_touch (w ∷ ws) m start = (
    λ above k has. kept_log (transactions ws) _ start (unit_of periods k) (All-contains (IsTouched (add_net w.transaction.instant m w.transaction.net) start) (keys_of w.transaction.net) k (net_touches w.transaction.net w.transaction.instant m start above) has),
    all_touch ws _ start,
  )

  -- ---- what a commit finds

  pub won_none : (m : Changes) (start : ℕ) (net : Net) → conflicts periods m start net ≡ [] → All (IsFree m start) (keys_of net)
  won_none m start [] e = All-nil (IsFree m start)
  won_none m start (c ∷ net) e = by (unit_changed_since periods m start (unit_of periods c.0)) (won_none m start net) refl e
    where
      by : (o : Option ℕ) → (conflicts periods m start net ≡ [] → All (IsFree m start) (keys_of net)) → unit_changed_since periods m start (unit_of periods c.0) ≡ o
          → ◌≡◌ {A = List (Key × ℕ)} (cons_option (option_map (λ (instant : ℕ). (unit_of periods c.0, instant)) o) (conflicts periods m start net)) [] → All (IsFree m start) (keys_of (c ∷ net))
      by None others is e = All-cons (IsFree m start) c.0 (keys_of net) (sym (touched_is m start (unit_of periods c.0)) ∙ ap is_some is) (others e)
      by (Some instant) others is e = cc

  -- a transaction is committed where none of its units was touched since it began
  untouched : (m : Changes) (latest start : ℕ) (net : Net) (reading i : ℕ) → outcome periods m latest start net reading ≡ Ok (Some i) → All (IsFree m start) (keys_of net)
  untouched m latest start net reading i e = won_none m start net (none_found periods m latest start net reading i e)

  abbrev Clash : Winner → Winner → Type 0
  Clash v w = AreConcurrent v w × ShareAUnit periods v w

  -- of the transactions committed before, none clashes with one that is committed
  none_clashes : (ws : List Winner) (w : Winner) → All (IsFree (changes (transactions ws)) w.start) (keys_of w.transaction.net) → Each (λ v. Clash v w → ⊥) ws
  none_clashes ws w free =
      each_to (Touches (changes (transactions ws)) w.start) (λ v. Clash v w → ⊥)
      (λ v touches both.
      let k = both.1.key in
      let l = both.1.other in
      false≢true (sym (All-contains (IsFree (changes (transactions ws)) w.start) (keys_of w.transaction.net) l free both.1.in_second)
      ∙ ap (touched (changes (transactions ws)) w.start) (sym both.1.one_unit) ∙ touches both.0.1 k both.1.in_first))
      ws (all_touch ws [] w.start)

  apart_with : (log : Log) (ws : List Winner) (latest start reading : ℕ) (net : Net) (end : Result (Option ℕ) Refusal) → log ≡ transactions ws → outcome periods (changes log) latest start net reading ≡ end
      → Apart Clash ws → Apart Clash (winners_with ws start net end)
  apart_with log ws latest start reading net (Ok (Some instant)) is ends apart =
      apart_push Clash ws (record { start = start; transaction = record { instant = instant; net = net } }) apart
      (none_clashes ws _ (subst (λ (l : Log). All (IsFree (changes l) start) (keys_of net)) is (untouched (changes log) latest start net reading instant ends)))
  apart_with log ws latest start reading net (Ok None) is ends apart = apart
  apart_with log ws latest start reading net (Err e) is ends apart = apart

-- ---- the log and the winners, step by step

pushed : (ws : List Winner) (w : Winner) → transactions (ws ++ w ∷ []) ≡ transactions ws ++ w.transaction ∷ []
pushed [] w = refl
pushed (v ∷ ws) w = ap (λ l. v.transaction ∷ l) (pushed ws w)

log_with : (log : Log) (ws : List Winner) (start : ℕ) (net : Net) (end : Result (Option ℕ) Refusal) → log ≡ transactions ws → log_after log net end ≡ transactions (winners_with ws start net end)
log_with log ws start net (Ok (Some instant)) is = ap (λ (l : Log). l ++ record { instant = instant; net = net } ∷ []) is ∙ sym (pushed ws (record { start = start; transaction = record { instant = instant; net = net } }))
log_with log ws start net (Ok None) is = is
log_with log ws start net (Err e) is = is

pub log_is_of_winners : (schema : Schema) → LogIsOfWinners schema
log_is_of_winners schema [] = refl
log_is_of_winners schema (Commit i reading ∷ h) = by (log_is_of_winners schema h) (log_at_begin schema h i)
  where
    by : log schema h ≡ transactions (winners schema h) → (o : Option Log) → ◌≡◌ {A = Log} (elim o [ None ↦ log schema h | Some before ↦ after (periods_of (schema_after schema h)) (log schema h) (last before) (net schema h i) reading ]) (transactions (elim o [
      | None ↦ winners schema h
      | Some before ↦ winners_with (winners schema h) (last before) (net schema h i) (outcome (periods_of (schema_after schema h)) (changes (log schema h)) (last (log schema h)) (last before) (net schema h i) reading)
    ]))
    by is None = is
    by is (Some before) = log_with (log schema h) (winners schema h) (last before) (net schema h i) _ is
log_is_of_winners schema (Begin i ∷ h) = log_is_of_winners schema h
log_is_of_winners schema (Insert i number rows ∷ h) = log_is_of_winners schema h
log_is_of_winners schema (Update i keys sets ∷ h) = log_is_of_winners schema h
log_is_of_winners schema (Delete i keys ∷ h) = log_is_of_winners schema h
log_is_of_winners schema (UpdatePortion i keys cut sets ∷ h) = log_is_of_winners schema h
log_is_of_winners schema (DeletePortion i keys cut ∷ h) = log_is_of_winners schema h
log_is_of_winners schema (Select i form keys ∷ h) = log_is_of_winners schema h
log_is_of_winners schema (Rollback i ∷ h) = log_is_of_winners schema h
log_is_of_winners schema (AddColumn i number name of ∷ h) = log_is_of_winners schema h
log_is_of_winners schema (SplitKey key ∷ h) = log_is_of_winners schema h
log_is_of_winners schema (SplitTime key instant ∷ h) = log_is_of_winners schema h
log_is_of_winners schema (Migrate ∷ h) = log_is_of_winners schema h

all_apart : (schema : Schema) (h : History) → Apart (Clash (periods_of schema)) (winners schema h)
all_apart schema [] = tt
all_apart schema (Commit i reading ∷ h) = by (all_apart schema h) (log_at_begin schema h i)
  where
    by : Apart (Clash (periods_of schema)) (winners schema h) → (o : Option Log) → Apart (Clash (periods_of schema)) (elim o [
      | None ↦ winners schema h
      | Some before ↦ winners_with (winners schema h) (last before) (net schema h i) (outcome (periods_of (schema_after schema h)) (changes (log schema h)) (last (log schema h)) (last before) (net schema h i) reading)
    ])
    by apart None = apart
    by apart (Some before) = apart_with (periods_of schema) (log schema h) (winners schema h) (last (log schema h)) (last before) reading (net schema h i) _ (log_is_of_winners schema h)
        (ap (λ ps. outcome ps (changes (log schema h)) (last (log schema h)) (last before) (net schema h i) reading) (sym (periods_stay schema h))) apart
all_apart schema (Begin i ∷ h) = all_apart schema h
all_apart schema (Insert i number rows ∷ h) = all_apart schema h
all_apart schema (Update i keys sets ∷ h) = all_apart schema h
all_apart schema (Delete i keys ∷ h) = all_apart schema h
all_apart schema (UpdatePortion i keys cut sets ∷ h) = all_apart schema h
all_apart schema (DeletePortion i keys cut ∷ h) = all_apart schema h
all_apart schema (Select i form keys ∷ h) = all_apart schema h
all_apart schema (Rollback i ∷ h) = all_apart schema h
all_apart schema (AddColumn i number name of ∷ h) = all_apart schema h
all_apart schema (SplitKey key ∷ h) = all_apart schema h
all_apart schema (SplitTime key instant ∷ h) = all_apart schema h
all_apart schema (Migrate ∷ h) = all_apart schema h

pub first_committer_wins : (schema : Schema) → FirstCommitterWins schema
first_committer_wins schema h = apart_no_two (Clash (periods_of schema)) (winners schema h) (all_apart schema h)
