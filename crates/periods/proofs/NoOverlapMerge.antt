-- The first committer wins by entity: net changes over what was committed meanwhile clash with nothing.
use Rattle.std.proofs.Common.{◌≡◌, ℕ, ◌≤◌, Bool, true, false, cond, ◌&&◌, ◌||◌, T, List, [], ◌∷◌, Option, Some, None, is_some, refl, sym, ap, ◌∙◌, arith, nat_le, nat_lt, ◌⊎◌, inl, inr}
use Rattle.std.specs.Prelude.{if◌then◌else◌}
use Rattle.std.proofs.lemmas.Bool.Decides.{nat_tests}
use Rattle.std.specs.Option.{option_flatten, option_map}
use Rattle.std.specs.List.{list_any, cons_option}
use Rattle.std.specs.Ordering.{is_eq, is_lt, ordering_reverse}
use Rattle.std.specs.declared.cmp.Ordering.{Ordering}
use Rattle.std.specs.declared.cmp.Ordering.TheVariants.{Less, Equal, Greater}
use Rattle.std.specs.FinMap.{is_sorted}
use Rattle.std.specs.FinMap.Entries.{below_all}
use Rattle.values.specs.declared.period.Period.{Period}
use Rattle.values.specs.declared.key.Key.{Key}
use Rattle.values.specs.Order.{key_cmp, is_key}
use Rattle.values.specs.Log.{State, Row, Net, Log, Changes, row_at, set_row, apply_net, state, last, changes}
use Rattle.values.specs.Law.{IsLog}
use Rattle.values.specs.Commits.{LookUp, conflicts_by, by_unit, latest_of, changed_among, unit_changed_since}
use Rattle.values.specs.Writes.{net_of}
use Rattle.values.proofs.OrderTotal.{key_cmp_total, first, second}
use Rattle.values.proofs.LogStates.{row_at-set_row, sorted_set_row, state_matches}
use Rattle.values.proofs.LogLatest.{latest, later}
use Rattle.values.specs.Period.{Periods, span_of, overlap}
use Rattle.values.specs.Entity.{entity_of, unit_of, clash_by}
use Rattle.values.specs.Clash.{clash}
use Rattle.periods.specs.NoOverlap.{NoOverlap}
use Rattle.periods.proofs.NoOverlapApart.{one_key, is_key_turned, clash_turned, or_first, or_second, or_none}

-- ---- rows that do not clash, by what their keys have

abbrev pub Free : Periods → State → Type 0
Free periods m = (k l : Key) (r s : Row) → row_at m k ≡ Some r → row_at m l ≡ Some s → is_key k l ≡ false → clash periods (k, r) (l, s) ≡ false

pub itself : (k : Key) → is_key k k ≡ true
itself k = level (key_cmp k k) (key_cmp_total.antisymm k k)
  where
    level : (o : Ordering) → o ≡ ordering_reverse o → is_eq o ≡ true
    level Less e = cc
    level Equal e = refl
    level Greater e = cc

the_row : (r s : Row) → ◌≡◌ {A = Option Row} (Some r) (Some s) → r ≡ s
the_row r s e = cc

none_at : (test : (Key × Row) → Bool) (m : State) (l : Key) (s : Row) → list_any test m ≡ false → row_at m l ≡ Some s → test (l, s) ≡ false
none_at test [] l s none at = cc
none_at test (e ∷ m) l s none at = by (is_key l e.0) refl at (λ at. none_at test m l s (or_second (test e) _ none) at)
  where
    by : (b : Bool) → is_key l e.0 ≡ b → cond b (Some e.1) (row_at m l) ≡ Some s → (row_at m l ≡ Some s → test (l, s) ≡ false) → test (l, s) ≡ false
    by true is at rest = ap test (λ i. (one_key l e.0 is i, sym (the_row e.1 s at) i)) ∙ or_first (test e) _ none
    by false is at rest = rest at

pub free_from : (periods : Periods) (m : State) → NoOverlap periods m → Free periods m
free_from periods [] apart k l r s at_k at_l other = cc
free_from periods (e ∷ m) apart k l r s at_k at_l other =
    by (is_key k e.0) (is_key l e.0) refl refl at_k at_l (λ at_k at_l. free_from periods m apart.1 k l r s at_k at_l other)
  where
    by : (a b : Bool) → is_key k e.0 ≡ a → is_key l e.0 ≡ b → cond a (Some e.1) (row_at m k) ≡ Some r → cond b (Some e.1) (row_at m l) ≡ Some s
        → (row_at m k ≡ Some r → row_at m l ≡ Some s → clash periods (k, r) (l, s) ≡ false) → clash periods (k, r) (l, s) ≡ false
    by true true is_k is_l at_k at_l rest =
        let same : is_key k l ≡ true = ap (λ l. is_key k l) (one_key l e.0 is_l) ∙ is_k in cc
    by true false is_k is_l at_k at_l rest =
        ap (λ d. clash periods d (l, s)) (λ i. (one_key k e.0 is_k i, sym (the_row e.1 r at_k) i)) ∙ none_at (clash periods e) m l s apart.0 at_l
    by false true is_k is_l at_k at_l rest =
        clash_turned periods (k, r) (l, s)
        ∙ ap (λ d. clash periods d (k, r)) (λ i. (one_key l e.0 is_l i, sym (the_row e.1 s at_l) i)) ∙ none_at (clash periods e) m k r apart.0 at_k
    by false false is_k is_l at_k at_l rest = rest at_k at_l

-- what is there is above what is below all
above : (k l : Key) (s : Row) (m : State) → T (below_all key_cmp k m) → row_at m l ≡ Some s → is_key l k ≡ false
above k l s [] below at = cc
above k l s (e ∷ m) below at = by (is_key l e.0) refl at (λ at. above k l s m (second (is_lt (key_cmp k e.0)) _ below) at)
  where
    less : (o : Ordering) → T (is_lt o) → is_eq o ≡ false
    less Less h = refl
    less Equal h = absurd h
    less Greater h = absurd h

    by : (b : Bool) → is_key l e.0 ≡ b → cond b (Some e.1) (row_at m l) ≡ Some s → (row_at m l ≡ Some s → is_key l k ≡ false) → is_key l k ≡ false
    by true is at rest = ap (λ l. is_key l k) (one_key l e.0 is) ∙ is_key_turned e.0 k ∙ less (key_cmp k e.0) (first (is_lt (key_cmp k e.0)) _ below)
    by false is at rest = rest at

found_behind : (e : Key × Row) (m : State) (l : Key) (s : Row) → T (below_all key_cmp e.0 m) → row_at m l ≡ Some s → row_at (e ∷ m) l ≡ Some s
found_behind e m l s below at = ap (λ b. cond b (Some e.1) (row_at m l)) (above e.0 l s m below at) ∙ at

none_from : (test : (Key × Row) → Bool) (m : State) → T (is_sorted key_cmp m) → ((l : Key) (s : Row) → row_at m l ≡ Some s → test (l, s) ≡ false) → list_any test m ≡ false
none_from test [] sorted h = refl
none_from test (e ∷ m) sorted h =
    or_none _ _ (h e.0 e.1 (ap (λ b. cond b (Some e.1) (row_at m e.0)) (itself e.0)))
    (none_from test m (second (below_all key_cmp e.0 m) _ sorted) (λ l s at. h l s (found_behind e m l s (first (below_all key_cmp e.0 m) _ sorted) at)))

pub apart_from : (periods : Periods) (m : State) → T (is_sorted key_cmp m) → Free periods m → NoOverlap periods m
apart_from periods [] sorted free = tt
apart_from periods (e ∷ m) sorted free = (
  none_from (clash periods e) m (second (below_all key_cmp e.0 m) _ sorted)
      (λ l s at. free e.0 l e.1 s (ap (λ b. cond b (Some e.1) (row_at m e.0)) (itself e.0)) (found_behind e m l s below at) (is_key_turned e.0 l ∙ above e.0 l s m below at)),
  apart_from periods m (second (below_all key_cmp e.0 m) _ sorted)
      (λ k l r s at_k at_l other. free k l r s (found_behind e m k r below at_k) (found_behind e m l s below at_l) other),
)
  where
    below : T (below_all key_cmp e.0 m)
    below = first (below_all key_cmp e.0 m) _ sorted

-- ---- what a key has after net changes

abbrev pub net_last : Net → Key → Option (Option Row)
net_last [] q = None
net_last (c ∷ net) q = later (net_last net q) (cond (is_key q c.0) (Some c.1) None)

abbrev pub over : Option (Option Row) → Option Row → Option Row
over (Some v) x = v
over None x = x

over_later : (a : Option (Option Row)) (b : Bool) (v x : Option Row) → over a (cond b v x) ≡ over (later a (cond b (Some v) None)) x
over_later (Some w) b v x = refl
over_later None true v x = refl
over_later None false v x = refl

pub row_at_net : (net : Net) (m : State) (q : Key) → T (is_sorted key_cmp m) → row_at (apply_net m net) q ≡ over (net_last net q) (row_at m q)
row_at_net [] m q sorted = refl
row_at_net (c ∷ net) m q sorted =
    row_at_net net (set_row c.0 c.1 m) q (sorted_set_row c.0 c.1 m sorted)
    ∙ ap (over (net_last net q)) (row_at-set_row q c.0 c.1 m sorted)
    ∙ over_later (net_last net q) (is_key q c.0) c.1 (row_at m q)

pub sorted_net : (net : Net) (m : State) → T (is_sorted key_cmp m) → T (is_sorted key_cmp (apply_net m net))
sorted_net [] m sorted = sorted
sorted_net (c ∷ net) m sorted = sorted_net net (set_row c.0 c.1 m) (sorted_set_row c.0 c.1 m sorted)

-- net changes say of a key what it has in the end; or nothing, and it was not written, or it has what it had
Says : State → State → List Key → Key → Option (Option Row) → Type 0
Says seen mine written q said = (said ≡ Some (row_at mine q)) ⊎ ((said ≡ None) × (list_any (is_key q) written ≡ true → row_at mine q ≡ row_at seen q))

absent : (a b : Option Row) → (is_some a || is_some b) ≡ false → a ≡ b
absent None None e = refl
absent None (Some x) e = cc
absent (Some x) b e = cc

net_says : (seen mine : State) (written : List Key) (q : Key) → Says seen mine written q (net_last (net_of seen mine written) q)
unfolding Says
net_says seen mine [] q = inr (refl, λ e. cc)
net_says seen mine (k ∷ ks) q = by (is_some (row_at mine k) || is_some (row_at seen k)) (is_key q k) refl refl (net_says seen mine ks q)
  where
    at_k : is_key q k ≡ true → row_at mine k ≡ row_at mine q
    at_k is = ap (row_at mine) (sym (one_key q k is))

    by : (kept same : Bool) → (is_some (row_at mine k) || is_some (row_at seen k)) ≡ kept → is_key q k ≡ same
        → (net_last (net_of seen mine ks) q ≡ Some (row_at mine q)) ⊎ ((net_last (net_of seen mine ks) q ≡ None) × (list_any (is_key q) ks ≡ true → row_at mine q ≡ row_at seen q))
        → (net_last (cond kept ((k, row_at mine k) ∷ net_of seen mine ks) (net_of seen mine ks)) q ≡ Some (row_at mine q))
        ⊎ ((net_last (cond kept ((k, row_at mine k) ∷ net_of seen mine ks) (net_of seen mine ks)) q ≡ None) × ((same || list_any (is_key q) ks) ≡ true → row_at mine q ≡ row_at seen q))
    by true true is_kept is_same (inl said) = inl (ap (λ o. later o (cond (is_key q k) (Some (row_at mine k)) None)) said)
    by true true is_kept is_same (inr others) =
        inl ((λ i. later (others.0 i) (cond (is_same i) (Some (row_at mine k)) None)) ∙ ap Some (at_k is_same))
    by true false is_kept is_same (inl said) = inl (ap (λ o. later o (cond (is_key q k) (Some (row_at mine k)) None)) said)
    by true false is_kept is_same (inr others) = inr (λ i. later (others.0 i) (cond (is_same i) (Some (row_at mine k)) None), others.1)
    by false true is_kept is_same (inl said) = inl said
    by false true is_kept is_same (inr others) = inr (others.0, λ _. sym (at_k is_same) ∙ absent _ _ is_kept ∙ ap (row_at seen) (sym (one_key q k is_same)))
    by false false is_kept is_same (inl said) = inl said
    by false false is_kept is_same (inr others) = inr (others.0, others.1)

-- over the rows that the transaction saw, its net changes give those that it sees in the end
net_gives : (seen mine : State) (written : List Key) (q : Key) → (list_any (is_key q) written ≡ false → row_at mine q ≡ row_at seen q)
    → over (net_last (net_of seen mine written) q) (row_at seen q) ≡ row_at mine q
unfolding Says
net_gives seen mine written q others = by (net_says seen mine written q) (list_any (is_key q) written) refl
  where
    by : Says seen mine written q (net_last (net_of seen mine written) q) → (b : Bool) → list_any (is_key q) written ≡ b → over (net_last (net_of seen mine written) q) (row_at seen q) ≡ row_at mine q
    by (inl said) b is = ap (λ o. over o (row_at seen q)) said
    by (inr none) true is = ap (λ o. over o (row_at seen q)) none.0 ∙ sym (none.1 is)
    by (inr none) false is = ap (λ o. over o (row_at seen q)) none.0 ∙ sym (others is)

-- ---- the core: nothing clashes once net changes were made of which no entity was touched meanwhile

unit_at : (periods : Periods) (p : Period) (k l : Key) → periods k.table ≡ Some p → is_key (entity_of k) (entity_of l) ≡ true → unit_of periods k ≡ unit_of periods l
unit_at periods p k l at is =
    let same : entity_of k ≡ entity_of l = one_key (entity_of k) (entity_of l) is in
    ap (λ (o : Option Period). elim o as (λ _. Key) [ None ↦ k | Some _ ↦ entity_of k ]) at ∙ same ∙ sym (ap (λ (o : Option Period). elim o as (λ _. Key) [ None ↦ l | Some _ ↦ entity_of l ]) (ap periods (sym (ap (λ (k : Key). k.table) same)) ∙ at))

-- a unit of the net changes has now what the transaction saw
abbrev pub IsFresh : Periods → State → State → Net → Type 0
IsFresh periods seen now net = (u q : Key) → is_some (net_last net u) ≡ true → unit_of periods u ≡ unit_of periods q → row_at now q ≡ row_at seen q

-- what is not among the written keys is as it was
abbrev pub IsOver : State → State → List Key → Type 0
IsOver seen mine written = (q : Key) → list_any (is_key q) written ≡ false → row_at mine q ≡ row_at seen q

module _ (periods : Periods) (seen mine now : State) (written : List Key) (sorted : T (is_sorted key_cmp now)) (is_over : IsOver seen mine written) (fresh : IsFresh periods seen now (net_of seen mine written)) where
  -- with the net changes: of a unit that they touch, what the transaction sees; of another, what was there
  pub touched_is : (u q : Key) → is_some (net_last (net_of seen mine written) u) ≡ true → unit_of periods u ≡ unit_of periods q → row_at (apply_net now (net_of seen mine written)) q ≡ row_at mine q
  touched_is u q says unit =
      row_at_net (net_of seen mine written) now q sorted
      ∙ ap (over (net_last (net_of seen mine written) q)) (fresh u q says unit)
      ∙ net_gives seen mine written q (is_over q)

  pub untouched_is : (q : Key) → is_some (net_last (net_of seen mine written) q) ≡ false → row_at (apply_net now (net_of seen mine written)) q ≡ row_at now q
  untouched_is q says = row_at_net (net_of seen mine written) now q sorted ∙ by (net_last (net_of seen mine written) q) says
    where
      by : (o : Option (Option Row)) → is_some o ≡ false → over o (row_at now q) ≡ row_at now q
      by None e = refl
      by (Some v) e = cc

  module _ (free_mine : Free periods mine) (free_now : Free periods now) where
    pub merged_free : Free periods (apply_net now (net_of seen mine written))
    merged_free k l r s at_k at_l other = by_period (periods k.table) refl
      where
        by_touch : (p : Period) → periods k.table ≡ Some p → is_key (entity_of k) (entity_of l) ≡ true → (a b : Bool)
            → is_some (net_last (net_of seen mine written) k) ≡ a → is_some (net_last (net_of seen mine written) l) ≡ b → clash periods (k, r) (l, s) ≡ false
        by_touch p at same true b says_k says_l =
            free_mine k l r s (sym (touched_is k k says_k refl) ∙ at_k) (sym (touched_is k l says_k (unit_at periods p k l at same)) ∙ at_l) other
        by_touch p at same false true says_k says_l =
            free_mine k l r s (sym (touched_is l k says_l (sym (unit_at periods p k l at same))) ∙ at_k) (sym (touched_is l l says_l refl) ∙ at_l) other
        by_touch p at same false false says_k says_l =
            free_now k l r s (sym (untouched_is k says_k) ∙ at_k) (sym (untouched_is l says_l) ∙ at_l) other

        by_entity : (p : Period) → periods k.table ≡ Some p → (b : Bool) → is_key (entity_of k) (entity_of l) ≡ b → clash periods (k, r) (l, s) ≡ false
        by_entity p at true same = by_touch p at same (is_some (net_last (net_of seen mine written) k)) (is_some (net_last (net_of seen mine written) l)) refl refl
        by_entity p at false same = ap (λ o. clash_by o (k, r) (l, s)) at ∙ ap (λ b. b && overlap (span_of p r) (span_of p s)) same

        by_period : (o : Option Period) → periods k.table ≡ o → clash periods (k, r) (l, s) ≡ false
        by_period None at = ap (λ o. clash_by o (k, r) (l, s)) at
        by_period (Some p) at = by_entity p at (is_key (entity_of k) (entity_of l)) refl

    pub merged_apart : NoOverlap periods (apply_net now (net_of seen mine written))
    merged_apart = apart_from periods (apply_net now (net_of seen mine written)) (sorted_net (net_of seen mine written) now sorted) merged_free

-- ---- no conflict by units: each unit of the net changes is fresh

no_conflict : (periods : Periods) (changed : LookUp) (net : Net) (u : Key) → conflicts_by changed (by_unit periods net) ≡ [] → is_some (net_last net u) ≡ true → changed (unit_of periods u) ≡ None
no_conflict periods changed [] u none says = cc
no_conflict periods changed (c ∷ net) u none says = by (changed (unit_of periods c.0)) refl none (λ none. no_conflict periods changed net u none)
  where
    here : (o : Option (Option Row)) (b : Bool) → is_key u c.0 ≡ b → is_some (later o (cond b (Some c.1) None)) ≡ true → changed (unit_of periods c.0) ≡ None → (is_some o ≡ true → changed (unit_of periods u) ≡ None) → changed (unit_of periods u) ≡ None
    here (Some v) b is says free rest = rest refl
    here None true is says free rest = ap (λ k. changed (unit_of periods k)) (one_key u c.0 is) ∙ free
    here None false is says free rest = cc

    by : (o : Option ℕ) → changed (unit_of periods c.0) ≡ o → ◌≡◌ {A = List (Key × ℕ)} (cons_option (option_map (λ (instant : ℕ). (unit_of periods c.0, instant)) o) (conflicts_by changed (by_unit periods net))) [] → (conflicts_by changed (by_unit periods net) ≡ [] → is_some (net_last net u) ≡ true → changed (unit_of periods u) ≡ None) → changed (unit_of periods u) ≡ None
    by None is none rest = here (net_last net u) (is_key u c.0) refl says is (rest none)
    by (Some instant) is none rest = cc

neither : (a b : Option ℕ) → latest_of a b ≡ None → (a ≡ None) × (b ≡ None)
neither None b e = (refl, e)
neither (Some x) None e = cc
neither (Some x) (Some y) e = cc

-- what was not changed since the start has one last change, up to the start and up to any later instant
same_latest : (test : Key → Bool) (m : Changes) (start t : ℕ) (q : Key) → changed_among test m start ≡ None → test q ≡ true → start ≤ t → latest m t q ≡ latest m start q
same_latest test [] start t q none is le = refl
same_latest test (c ∷ cs) start t q none is le =
    by (is_key q c.0.key) refl (same_latest test cs start t q (neither (changed_among test cs start) _ none).0 is le) (neither (changed_among test cs start) _ none).1
  where
    early : (a : Bool) → a ≡ true → ◌≡◌ {A = Option ℕ} (if a && nat_lt start c.0.instant then Some c.0.instant else None) None → nat_lt start c.0.instant ≡ false
    early true e none = by_test (nat_lt start c.0.instant) none
      where
        by_test : (b : Bool) → ◌≡◌ {A = Option ℕ} (if b then Some c.0.instant else None) None → b ≡ false
        by_test true none = cc
        by_test false none = refl
    early false e none = cc

    both_early : nat_lt start c.0.instant ≡ false → nat_le c.0.instant t ≡ nat_le c.0.instant start
    both_early e = grind (arith, nat_tests)

    by : (b : Bool) → is_key q c.0.key ≡ b → latest cs t q ≡ latest cs start q → ◌≡◌ {A = Option ℕ} (if test c.0.key && nat_lt start c.0.instant then Some c.0.instant else None) None
        → later (latest cs t q) (cond (b && nat_le c.0.instant t) (Some c.1) None) ≡ later (latest cs start q) (cond (b && nat_le c.0.instant start) (Some c.1) None)
    by true at rest none = λ i. later (rest i) (cond (both_early (early (test c.0.key) (ap test (sym (one_key q c.0.key at)) ∙ is) none) i) (Some c.1) None)
    by false at rest none = ap (λ o. later o None) rest

-- ---- a commit

-- where no unit of the net changes was changed since the start, each is fresh
pub fresh_units : (periods : Periods) (log : Log) (start : ℕ) (net : Net) → IsLog log → start ≤ last log → conflicts_by (unit_changed_since periods (changes log) start) (by_unit periods net) ≡ []
    → IsFresh periods (state log start) (state log (last log)) net
fresh_units periods log start net rises le none u q says unit =
    sym ((state_matches log (last log) rises).alike q)
    ∙ ap option_flatten (same_latest (λ k. is_key (unit_of periods u) (unit_of periods k)) (changes log) start (last log) q
    (no_conflict periods (unit_changed_since periods (changes log) start) net u none says)
    (ap (is_key (unit_of periods u)) (sym unit) ∙ itself (unit_of periods u)) le)
    ∙ (state_matches log start rises).alike q

-- the first committer wins by units: what a commit leaves clashes with nothing
pub commit_apart : (periods : Periods) (log : Log) (start : ℕ) (mine : State) (written : List Key) → IsLog log → start ≤ last log
    → IsOver (state log start) mine written
    → conflicts_by (unit_changed_since periods (changes log) start) (by_unit periods (net_of (state log start) mine written)) ≡ []
    → NoOverlap periods mine → NoOverlap periods (state log (last log))
    → NoOverlap periods (apply_net (state log (last log)) (net_of (state log start) mine written))
commit_apart periods log start mine written rises le is_over none apart_mine apart_now =
    merged_apart periods (state log start) mine (state log (last log)) written (state_matches log (last log) rises).by_key is_over
    (fresh_units periods log start (net_of (state log start) mine written) rises le none)
    (free_from periods mine apart_mine) (free_from periods (state log (last log)) apart_now)
