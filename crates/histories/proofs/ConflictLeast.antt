-- A refused COMMIT names the least unit in conflict.
use Rattle.std.proofs.Common.{◌≡◌, ◌≢◌, ℕ, ◌<◌, Bool, true, false, List, [], ◌∷◌, Option, Some, None, refl, sym, ap, subst, ◌∙◌, arith, nat_lt, ◌≤◌, max, ◌⊎◌, inl, inr}
use Rattle.std.specs.List.{cons_option}
use Rattle.std.specs.Option.{option_map}
use Rattle.std.specs.Prelude.{◌+◌, if◌then◌else◌, Contains, Result, Ok, Err}
use Rattle.std.proofs.lemmas.List.Elements.{All-contains, All-nil}
use Rattle.std.proofs.lemmas.Bool.{false≢true}
use Rattle.std.proofs.lemmas.Bool.Decides.{nat_tests}
use Rattle.std.specs.Map.{keys_of}
use Rattle.std.specs.declared.cmp.Ordering.{Ordering}
use Rattle.std.specs.declared.cmp.Ordering.TheVariants.{Less, Equal, Greater}
use Rattle.values.proofs.OrderTotal.{key_cmp-IsAntisymmetric}
use Rattle.values.specs.declared.key.Key.{Key}
use Rattle.values.specs.declared.refusal.Refusal.{Refusal}
use Rattle.values.specs.declared.refusal.Refusal.TheVariants.{Conflict, ClockEnd, NoSession, NoTransaction}
use Rattle.values.specs.Commits.{max_instant, unit_changed_since, outcome}
use Rattle.values.specs.ChangedSince.{conflicts}
use Rattle.values.specs.Each.{Each}
use Rattle.values.specs.Entity.{unit_of}
use Rattle.values.specs.Log.{Changes, Log, Net, State, changes, last, state}
use Rattle.values.specs.Writes.{net_of}
use Rattle.values.specs.Order.{key_cmp}
use Rattle.values.specs.Period.{Periods, periods_of}
use Rattle.values.specs.Tables.{Schema}
use Rattle.rows.proofs.SchemaPlaces.{each_to}
use Rattle.steps.specs.declared.step.Reply.{Reply}
use Rattle.steps.specs.declared.step.Reply.TheVariants.{Refused}
use Rattle.steps.specs.declared.step.Step.{Step}
use Rattle.steps.specs.declared.step.Step.TheVariants.{Commit}
use Rattle.steps.specs.Misfit.{max_session}
use Rattle.steps.specs.Reply.{commit_reply}
use Rattle.histories.specs.Conflict.{HasUnit, IsChangedAt, IsLeastConflict, ConflictIsLeast, ConflictIsReported, ConflictIsUnique}
use Rattle.histories.specs.History.{History, schema_after, log, log_at_begin, own, rewrite_all, snap, mine, net, reply, reply_in}
use Rattle.histories.proofs.ConflictFound.{all_of, each_itself, each_change, is_changed, none_after, not_changed, changed_touches}
use Rattle.histories.proofs.ConflictOrder.{UnitsRise, own_units_rise, not_below_itself, back}
use Rattle.histories.proofs.HistoryIdle.{none_open}
use Rattle.histories.proofs.HistoryTables.{periods_stay}
use Rattle.histories.proofs.StandsOpen.{no_writes}
use Rattle.histories.proofs.Winners.{touched, IsFree, won_none}

-- ---- the first conflict of net changes

the_pair : (a u : Key) (x t : ℕ) (xs ys : List (Key × ℕ)) → ◌≡◌ {A = List (Key × ℕ)} ((a, x) ∷ xs) ((u, t) ∷ ys) → (a ≡ u) × (x ≡ t)
the_pair a u x t xs ys e = (ap (λ (c : Key × ℕ). c.0) one, ap (λ (c : Key × ℕ). c.1) one)
  where
    one : ◌≡◌ {A = Key × ℕ} (a, x) (u, t)
    one = cc

module _ (periods : Periods) (m : Changes) (start : ℕ) where
  -- the unit was not changed since, or is not below
  abbrev IsAbove : Key → Key → Type 0
  IsAbove u k = (unit_changed_since periods m start (unit_of periods k) ≡ None) ⊎ (key_cmp (unit_of periods k) u ≢ Less)

  record IsFirst (In : Key → Type 0) (net : Net) (u : Key) (t : ℕ) : Type 0 where
    key : Key
    such : In key
    of_unit : unit_of periods key ≡ u
    changed : unit_changed_since periods m start u ≡ Some t
    least : Each (λ d. IsAbove u d.0) net

  first_found : (In : Key → Type 0) (net : Net) (u : Key) (t : ℕ) (others : List (Key × ℕ)) → UnitsRise periods net → Each (λ c. In c.0) net → conflicts periods m start net ≡ (u, t) ∷ others → IsFirst In net u t
  first_found In [] u t others rise own e = cc
  first_found In (c ∷ net) u t others rise own e =
      by (unit_changed_since periods m start (unit_of periods c.0)) refl e (λ rest. first_found In net u t others rise.1 own.1 rest)
    where
      by : (o : Option ℕ) → unit_changed_since periods m start (unit_of periods c.0) ≡ o
          → ◌≡◌ {A = List (Key × ℕ)} (cons_option (option_map (λ (instant : ℕ). (unit_of periods c.0, instant)) o) (conflicts periods m start net)) ((u, t) ∷ others)
          → (conflicts periods m start net ≡ (u, t) ∷ others → IsFirst In net u t) → IsFirst In (c ∷ net) u t
      by None is e rest =
          let found = rest e in
          record { key = found.key; such = found.such; of_unit = found.of_unit; changed = found.changed; least = (inl is, found.least) }
      by (Some x) is e rest =
          let same = the_pair (unit_of periods c.0) u x t (conflicts periods m start net) others e in
          record {
            key = c.0;
            such = own.0;
            of_unit = same.0;
            changed = subst (λ (v : Key). unit_changed_since periods m start v ≡ Some t) same.0 (is ∙ ap Some same.1);
            least = (
              inr (subst (λ (v : Key). key_cmp (unit_of periods c.0) v ≢ Less) same.0 (not_below_itself (unit_of periods c.0))),
              each_to (λ d. key_cmp (unit_of periods d.0) (unit_of periods c.0) ≢ Less) (λ d. IsAbove u d.0) (λ d above. inr (subst (λ (v : Key). key_cmp (unit_of periods d.0) v ≢ Less) same.0 above)) net rise.0,
            );
          }

each_own_key : (P : Key → Type 0) (net : Net) → Each (λ c. P c.0) net → Each P (keys_of net)
each_own_key P [] e = tt
each_own_key P (c ∷ net) e = (e.0, each_own_key P net e.1)

least_of : (periods : Periods) (log : Log) (start : ℕ) (net : Net) (u : Key) (t : ℕ) (others : List (Key × ℕ)) → UnitsRise periods net → conflicts periods (changes log) start net ≡ (u, t) ∷ others → IsLeastConflict periods log start net u t
least_of periods log start net u t others rise e = record {
  own = record { key = first.key; changed = first.such; of_unit = first.of_unit };
  changed = changed.0;
  since = changed.1;
  latest = λ s at. none_after periods log start t s u first.changed at;
  least = λ other s has at above. subst (λ (v : Key). key_cmp v u ≢ Less) has.of_unit
      (by has.key (All-contains (IsAbove periods (changes log) start u) (keys_of net) has.key (all_of (IsAbove periods (changes log) start u) (keys_of net) (each_own_key (IsAbove periods (changes log) start u) net first.least)) has.changed)
      (λ none. not_changed periods log start s (unit_of periods has.key) none (subst (λ (v : Key). IsChangedAt periods log v s) (sym has.of_unit) at) above));
}
  where
    first : IsFirst periods (changes log) start (Contains (keys_of net)) net u t
    first = first_found periods (changes log) start (Contains (keys_of net)) net u t others rise (each_change (Contains (keys_of net)) net (each_itself (keys_of net))) e

    changed : IsChangedAt periods log u t × (start < t)
    changed = is_changed periods log start t u first.changed

    by : (k : Key) → IsAbove periods (changes log) start u k → (unit_changed_since periods (changes log) start (unit_of periods k) ≡ None → ⊥) → key_cmp (unit_of periods k) u ≢ Less
    by k (inl none) not_none = absurd (not_none none)
    by k (inr above) not_none = above

-- ---- how a commit ends

Conflicts : List (Key × ℕ) → Key → ℕ → Type 0
Conflicts xs u t = (others : List (Key × ℕ)) × (xs ≡ (u, t) ∷ others)

settled : (xs : List (Key × ℕ)) (latest reading : ℕ) (u : Key) (t : ℕ) → ◌≡◌ {A = Result (Option ℕ) Refusal} (elim xs [
  | first ∷ others ↦ Err (Conflict first.0 first.1)
  | [] ↦ if nat_lt max_instant (max reading (latest + 1)) then Err ClockEnd else Ok (Some (max reading (latest + 1)))
]) (Err (Conflict u t)) → Conflicts xs u t
unfolding Conflicts
settled [] latest reading u t e = by (nat_lt max_instant (max reading (latest + 1))) e
  where
    by : (b : Bool) → ◌≡◌ {A = Result (Option ℕ) Refusal} (if b then Err ClockEnd else Ok (Some (max reading (latest + 1)))) (Err (Conflict u t)) → Conflicts [] u t
    by true e = cc
    by false e = cc
settled (x ∷ xs) latest reading u t e = (xs, λ i. (unit_is i, instant_is i) ∷ xs)
  where
    unit_is : x.0 ≡ u
    unit_is = cc

    instant_is : x.1 ≡ t
    instant_is = cc

ended : (periods : Periods) (m : Changes) (latest start : ℕ) (net : Net) (reading : ℕ) (u : Key) (t : ℕ) → outcome periods m latest start net reading ≡ Err (Conflict u t) → Conflicts (conflicts periods m start net) u t
ended periods m latest start [] reading u t e = cc
ended periods m latest start (c ∷ net) reading u t e = settled (conflicts periods m start (c ∷ net)) latest reading u t e

replied : (end : Result (Option ℕ) Refusal) (u : Key) (t : ℕ) → commit_reply end ≡ Refused (Conflict u t) → end ≡ Err (Conflict u t)
replied (Ok instant) u t e = cc
replied (Err refusal) u t e = ap Err (the e)
  where
    the : Refused refusal ≡ Refused (Conflict u t) → refusal ≡ Conflict u t
    the e = cc

abbrev pub end_now : Schema → History → ℕ → ℕ → Result (Option ℕ) Refusal
end_now first h i reading = outcome (periods_of (schema_after first h)) (changes (log first h)) (last (log first h)) (snap first h i) (net first h i) reading

commit_ends : (first : Schema) (h : History) (i reading : ℕ) (u : Key) (t : ℕ) → reply first h (Commit i reading) ≡ Refused (Conflict u t) → end_now first h i reading ≡ Err (Conflict u t)
commit_ends first h i reading u t told = fits (nat_lt max_session i) told
  where
    in_open : (b : Option Log) → (elim b as (λ _. Reply) [ Some before ↦ commit_reply (end_now first h i reading) | None ↦ Refused NoTransaction ]) ≡ Refused (Conflict u t) → end_now first h i reading ≡ Err (Conflict u t)
    in_open None e = cc
    in_open (Some before) e = replied (end_now first h i reading) u t e

    fits : (b : Bool) → (elim (if b then Some NoSession else None) as (λ _. Reply) [ Some refusal ↦ Refused refusal | None ↦ reply_in first h (Commit i reading) ]) ≡ Refused (Conflict u t) → end_now first h i reading ≡ Err (Conflict u t)
    fits true e = cc
    fits false e = in_open (log_at_begin first h i) e

pub conflict_is_least : (first : Schema) → ConflictIsLeast first
unfolding Conflicts
conflict_is_least first good h i reading u t told =
    let found = ended (periods_of first) (changes (log first h)) (last (log first h)) (snap first h i) (net first h i) reading u t
    (ap (λ (ps : Periods). outcome ps (changes (log first h)) (last (log first h)) (snap first h i) (net first h i) reading) (sym (periods_stay first h)) ∙ commit_ends first h i reading u t told) in
    least_of (periods_of first) (log first h) (snap first h i) (net first h i) u t found.0 (own_units_rise first good h i) found.1

-- ---- a conflict that exists is reported

-- where no transaction is open there is no net change
net_none : (first : Schema) (h : History) (i : ℕ) → log_at_begin first h i ≡ None → net first h i ≡ []
net_none first h i none = ap (net_of seen (mine first h i)) (ap (λ (l : List Step). (rewrite_all (schema_after first h) l (record { rows = seen; written = [] })).written) (no_writes first h i none))
  where
    seen : State
    seen = state (log first h) (snap first h i)

no_unit : (periods : Periods) (changed : Net) (u : Key) → changed ≡ [] → HasUnit periods changed u → ⊥
no_unit periods changed u none has = All-contains (λ (k : Key). ⊥) [] has.key (All-nil (λ (k : Key). ⊥)) (subst (λ (l : Net). Contains (keys_of l) has.key) none has.changed)

ends_so : (periods : Periods) (m : Changes) (latest start : ℕ) (net : Net) (reading : ℕ) (x : Key × ℕ) (xs : List (Key × ℕ)) → conflicts periods m start net ≡ x ∷ xs → outcome periods m latest start net reading ≡ Err (Conflict x.0 x.1)
ends_so periods m latest start [] reading x xs e = cc
ends_so periods m latest start (c ∷ net) reading x xs e =
    ap (λ (l : List (Key × ℕ)). let end : Result (Option ℕ) Refusal = elim l [
      | first ∷ others ↦ Err (Conflict first.0 first.1)
      | [] ↦ if nat_lt max_instant (max reading (latest + 1)) then Err ClockEnd else Ok (Some (max reading (latest + 1)))
    ] in end) e

pub beyond : (i : ℕ) → nat_lt max_session i ≡ true → max_session < i
beyond i e = grind (arith, nat_tests)

pub replies_so : (first : Schema) (h : History) (i reading : ℕ) (before : Log) → nat_lt max_session i ≡ false → log_at_begin first h i ≡ Some before → reply first h (Commit i reading) ≡ commit_reply (end_now first h i reading)
replies_so first h i reading before small is =
    ap (λ b. let r : Reply = elim (if b then Some NoSession else None) [ Some refusal ↦ Refused refusal | None ↦ reply_in first h (Commit i reading) ] in r) small
    ∙ ap (λ (b : Option Log). let r : Reply = elim b [ Some before ↦ commit_reply (end_now first h i reading) | None ↦ Refused NoTransaction ] in r) is

pub conflict_is_reported : (first : Schema) → ConflictIsReported first
conflict_is_reported first h i reading s other has at above = by (log_at_begin first h i) refl
  where
    found : (xs : List (Key × ℕ)) → conflicts (periods_of first) (changes (log first h)) (snap first h i) (net first h i) ≡ xs → (x : Key × ℕ) × ((ys : List (Key × ℕ)) × (xs ≡ x ∷ ys))
    found [] e =
        absurd (false≢true (sym (All-contains (IsFree (periods_of first) (changes (log first h)) (snap first h i)) (keys_of (net first h i)) has.key (won_none (periods_of first) (changes (log first h)) (snap first h i) (net first h i) e) has.changed)
        ∙ ap (touched (periods_of first) (changes (log first h)) (snap first h i)) has.of_unit
        ∙ changed_touches (periods_of first) (log first h) (snap first h i) s other at above))
    found (x ∷ xs) e = (x, (xs, refl))

    in_open : (before : Log) → log_at_begin first h i ≡ Some before → (b : Bool) → nat_lt max_session i ≡ b → (unit : Key) × ((t : ℕ) × (reply first h (Commit i reading) ≡ Refused (Conflict unit t)))
    in_open before is true e = let none : log_at_begin first h i ≡ None = none_open first h i (beyond i e) in absurd (some_none (sym none ∙ is))
      where
        some_none : ◌≡◌ {A = Option Log} None (Some before) → ⊥
        some_none e = cc
    in_open before is false e =
        let one = found (conflicts (periods_of first) (changes (log first h)) (snap first h i) (net first h i)) refl in (
          one.0.0,
          (
            one.0.1,
            replies_so first h i reading before e is
                ∙ ap commit_reply
                (ap (λ (ps : Periods). outcome ps (changes (log first h)) (last (log first h)) (snap first h i) (net first h i) reading) (periods_stay first h)
                ∙ ends_so (periods_of first) (changes (log first h)) (last (log first h)) (snap first h i) (net first h i) reading one.0 one.1.0 one.1.1),
          ),
        )

    by : (o : Option Log) → log_at_begin first h i ≡ o → (unit : Key) × ((t : ℕ) × (reply first h (Commit i reading) ≡ Refused (Conflict unit t)))
    by None none = absurd (no_unit (periods_of first) (net first h i) other (net_none first h i none) has)
    by (Some before) is = in_open before is (nat_lt max_session i) refl

-- ---- there is only one

pub conflict_is_unique : ConflictIsUnique
conflict_is_unique periods log start net unit other t s a b = (same, instants)
  where
    by : (o : Ordering) → key_cmp unit other ≡ o → unit ≡ other
    by Less is = absurd (b.least unit t a.own a.changed a.since is)
    by Equal is = key_cmp-IsAntisymmetric unit other is
    by Greater is = absurd (a.least other s b.own b.changed b.since (back unit other is))

    same : unit ≡ other
    same = by (key_cmp unit other) refl

    instants : t ≡ s
    instants =
        let low : s ≤ t = a.latest s (subst (λ (u : Key). IsChangedAt periods log u s) (sym same) b.changed) in
        let high : t ≤ s = b.latest t (subst (λ (u : Key). IsChangedAt periods log u t) same a.changed) in
        omega arith
