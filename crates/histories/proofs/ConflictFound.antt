-- What a look-up finds among the changes is what transactions of the log changed.
use Rattle.std.proofs.Common.{◌≡◌, ℕ, ◌<◌, ◌≤◌, Bool, true, false, ◌&&◌, List, [], ◌∷◌, Option, Some, None, is_some, refl, sym, ap, subst, ◌∙◌, arith, nat_lt, max, ◌⊎◌, inl, inr}
use Rattle.std.specs.Prelude.{◌||◌, if◌then◌else◌, All, Contains}
use Rattle.std.proofs.lemmas.Bool.{false≢true, and_parts}
use Rattle.std.proofs.lemmas.Bool.Decides.{nat_tests}
use Rattle.std.proofs.lemmas.List.Elements.{All-nil, All-cons, All-head, All-tail, All-contains, All-contains_itself}
use Rattle.std.specs.Map.{keys_of}
use Rattle.std.specs.BTreeMap.{insert_entry}
use Rattle.std.specs.Ordering.{match_ordering}
use Rattle.std.specs.declared.cmp.Ordering.{Ordering}
use Rattle.std.specs.declared.cmp.Ordering.TheVariants.{Less, Equal, Greater}
use Rattle.values.specs.declared.key.Key.{Key}
use Rattle.values.specs.declared.key.Point.{Point}
use Rattle.values.specs.declared.key.Transaction.{Transaction}
use Rattle.values.specs.Commits.{latest_of, unit_changed_since}
use Rattle.values.specs.Each.{Each}
use Rattle.values.specs.Entity.{unit_of}
use Rattle.values.specs.Log.{Changes, Log, Net, Row, add_all, add_net, changes, point_cmp}
use Rattle.values.specs.Order.{is_key}
use Rattle.values.specs.Period.{Periods}
use Rattle.rows.proofs.SchemaPlaces.{each_to}
use Rattle.periods.proofs.NoOverlapApart.{one_key}
use Rattle.histories.specs.Conflict.{IsChangedAt}
use Rattle.histories.proofs.Winners.{hit, touched, touched_is, kept_log, net_touches, IsTouched}

-- ---- each of a list

pub each_of : {A : Type 0} (P : A → Type 0) (xs : List A) → All P xs → Each P xs
each_of P [] all = tt
each_of P (x ∷ xs) all = (All-head P x xs all, each_of P xs (All-tail P x xs all))

pub all_of : {A : Type 0} (P : A → Type 0) (xs : List A) → Each P xs → All P xs
all_of P [] e = All-nil P
all_of P (x ∷ xs) e = All-cons P x xs e.0 (all_of P xs e.1)

pub each_itself : {A : Type 0} (xs : List A) → Each (Contains xs) xs
each_itself xs = each_of (Contains xs) xs (All-contains_itself xs)

pub each_change : (P : Key → Type 0) (net : Net) → Each P (keys_of net) → Each (λ c. P c.0) net
each_change P [] e = tt
each_change P (c ∷ net) e = (e.0, each_change P net e.1)

-- ---- where the changes are from

module _ (P : Point → Type 0) where
  each_put : (m : Changes) (p : Point) (v : Option Row) → P p → Each (λ c. P c.0) m → Each (λ c. P c.0) (insert_entry point_cmp m p v)
  each_put [] p v here e = (here, tt)
  each_put (c ∷ m) p v here e = by (point_cmp p c.0) (each_put m p v here e.1)
    where
      by : (o : Ordering) → Each (λ c. P c.0) (insert_entry point_cmp m p v) → Each (λ c. P c.0) (match_ordering o ((p, v) ∷ c ∷ m) ((c.0, v) ∷ m) (c ∷ insert_entry point_cmp m p v))
      by Less rest = (here, e)
      by Equal rest = e
      by Greater rest = (e.0, rest)

  each_net : (net : Net) (i : ℕ) (m : Changes) → Each (λ c. P (record { key = c.0; instant = i })) net → Each (λ c. P c.0) m → Each (λ c. P c.0) (add_net i m net)
  each_net [] i m own e = e
  each_net (c ∷ net) i m own e = each_net net i (insert_entry point_cmp m (record { key = c.0; instant = i }) c.1) own.1 (each_put m (record { key = c.0; instant = i }) c.1 own.0 e)

  Gives : Transaction → Type 0
  Gives t = (k : Key) → Contains (keys_of t.net) k → P (record { key = k; instant = t.instant })

  each_log : (log : Log) (m : Changes) → Each Gives log → Each (λ c. P c.0) m → Each (λ c. P c.0) (add_all m log)
  unfolding Gives
  each_log [] m own e = e
  each_log (t ∷ log) m own e =
      each_log log (add_net t.instant m t.net) own.1
      (each_net t.net t.instant m
      (each_change (λ k. P (record { key = k; instant = t.instant })) t.net (each_to (Contains (keys_of t.net)) (λ k. P (record { key = k; instant = t.instant })) own.0 (keys_of t.net) (each_itself (keys_of t.net)))) e)

-- the point is a transaction's
pub record IsMade (log : Log) (p : Point) : Type 0 where
  transaction : Transaction
  committed : Contains log transaction
  instant_is : transaction.instant ≡ p.instant
  changed : Contains (keys_of transaction.net) p.key

each_made : (log : Log) → Each (λ c. IsMade log c.0) (changes log)
unfolding Gives
each_made log =
    each_log (IsMade log) log []
    (each_to (Contains log) (Gives (IsMade log)) (λ t has k changed. record { transaction = t; committed = has; instant_is = refl; changed = changed }) log (each_itself log))
    tt

-- ---- what a look-up finds

either_of : (o : Option ℕ) (b : Bool) (i t : ℕ) → latest_of o (if b then Some i else None) ≡ Some t → (o ≡ Some t) ⊎ ((b ≡ true) × (i ≡ t))
either_of None true i t e = inr (refl, the e)
  where
    the : ◌≡◌ {A = Option ℕ} (Some i) (Some t) → i ≡ t
    the e = cc
either_of None false i t e = cc
either_of (Some a) false i t e = inl e
either_of (Some a) true i t e = by (nat_lt a i) refl (the e)
  where
    the : ◌≡◌ {A = Option ℕ} (Some (max a i)) (Some t) → max a i ≡ t
    the e = cc

    later : nat_lt a i ≡ true → max a i ≡ t → i ≡ t
    later is e = let less : a < i = grind (arith, nat_tests) in omega arith

    earlier : nat_lt a i ≡ false → max a i ≡ t → a ≡ t
    earlier is e = let less : i ≤ a = grind (arith, nat_tests) in omega arith

    by : (b : Bool) → nat_lt a i ≡ b → max a i ≡ t → (◌≡◌ {A = Option ℕ} (Some a) (Some t)) ⊎ ((true ≡ true) × (i ≡ t))
    by true is e = inr (refl, later is e)
    by false is e = inl (ap Some (earlier is e))

-- no later than s
abbrev Bounded : Option ℕ → ℕ → Type 0
Bounded o s = (x : ℕ) → o ≡ Some x → x ≤ s

both_bounded : (o : Option ℕ) (b : Bool) (i s : ℕ) → Bounded (latest_of o (if b then Some i else None)) s → Bounded o s × (b ≡ true → i ≤ s)
both_bounded None true i s h = ((λ x e. cc), λ e. h i refl)
both_bounded None false i s h = ((λ x e. cc), λ e. cc)
both_bounded (Some a) false i s h = (h, λ e. cc)
both_bounded (Some a) true i s h = ((λ x e. first x (the x e)), λ e. second)
  where
    the : (x : ℕ) → ◌≡◌ {A = Option ℕ} (Some a) (Some x) → a ≡ x
    the x e = cc

    larger : max a i ≤ s
    larger = h (max a i) refl

    first : (x : ℕ) → a ≡ x → x ≤ s
    first x e = omega (arith, larger)

    second : i ≤ s
    second = omega (arith, larger)

none_later : (k : Bool) (start i s : ℕ) → start ≤ s → ((k && nat_lt start i) ≡ true → i ≤ s) → (k && nat_lt s i) ≡ false
none_later false start i s low h = refl
none_later true start i s low h = by (nat_lt s i) refl
  where
    above : nat_lt s i ≡ true → nat_lt start i ≡ true
    above e = let less : s < i = grind (arith, nat_tests) in grind (arith, nat_tests)

    no : nat_lt s i ≡ true → i ≤ s → ⊥
    no e below = grind (arith, nat_tests)

    by : (b : Bool) → nat_lt s i ≡ b → b ≡ false
    by true e = absurd (no e (h (above e)))
    by false e = refl

module _ (periods : Periods) where
  -- above the latest instant the unit is touched by none
  bounded_free : (m : Changes) (start s : ℕ) (u : Key) → start ≤ s → Bounded (unit_changed_since periods m start u) s → touched periods m s u ≡ false
  bounded_free [] start s u low h = refl
  bounded_free (c ∷ cs) start s u low h =
      let parts = both_bounded (unit_changed_since periods cs start u) (hit periods start u c.0) c.0.instant s h in
      λ i. bounded_free cs start s u low parts.0 i || none_later (is_key u (unit_of periods c.0.key)) start c.0.instant s low parts.1 i

  -- the change that is found
  record IsFound (P : Point → Type 0) (start : ℕ) (u : Key) (t : ℕ) : Type 0 where
    point : Point
    such : P point
    of_unit : unit_of periods point.key ≡ u
    since : start < t
    instant_is : point.instant ≡ t

  found_so : (P : Point → Type 0) (m : Changes) (start : ℕ) (u : Key) (t : ℕ) → Each (λ c. P c.0) m → unit_changed_since periods m start u ≡ Some t → IsFound P start u t
  found_so P [] start u t e is = cc
  found_so P (c ∷ cs) start u t e is = by (either_of (unit_changed_since periods cs start u) (hit periods start u c.0) c.0.instant t is) (λ rest. found_so P cs start u t e.1 rest)
    where
      above : nat_lt start c.0.instant ≡ true → c.0.instant ≡ t → start < t
      above h same = let less : start < c.0.instant = grind (arith, nat_tests) in omega arith

      by : ((unit_changed_since periods cs start u ≡ Some t) ⊎ ((hit periods start u c.0 ≡ true) × (c.0.instant ≡ t))) → (unit_changed_since periods cs start u ≡ Some t → IsFound P start u t) → IsFound P start u t
      by (inl there) rest = rest there
      by (inr here) rest =
          let parts = and_parts (is_key u (unit_of periods c.0.key)) (nat_lt start c.0.instant) here.0 in
          record { point = c.0; such = e.0; of_unit = sym (one_key u (unit_of periods c.0.key) parts.0); since = above parts.1 here.1; instant_is = here.1 }

  -- ---- and what the log changed is found

  Touches : Changes → ℕ → Transaction → Type 0
  Touches m start t = start < t.instant → (k : Key) → Contains (keys_of t.net) k → IsTouched periods m start k

  log_touches : (log : Log) (m : Changes) (start : ℕ) → Each (Touches (add_all m log) start) log
  unfolding Touches
  log_touches [] m start = tt
  log_touches (t ∷ log) m start = (
    λ above k has. kept_log periods log (add_net t.instant m t.net) start (unit_of periods k) (All-contains (IsTouched periods (add_net t.instant m t.net) start) (keys_of t.net) k (net_touches periods t.net t.instant m start above) has),
    log_touches log (add_net t.instant m t.net) start,
  )

  pub changed_touches : (log : Log) (start s : ℕ) (u : Key) → IsChangedAt periods log u s → start < s → touched periods (changes log) start u ≡ true
  unfolding Touches
  changed_touches log start s u changed above =
      ap (touched periods (changes log) start) (sym changed.has.of_unit)
      ∙ All-contains (Touches (changes log) start) log changed.transaction (all_of (Touches (changes log) start) log (log_touches log [] start)) changed.committed
      (subst (λ n. start < n) (sym changed.instant_is) above) changed.has.key changed.has.changed

  -- ---- a look-up in the changes of a log

  -- a unit that is not found was not changed since
  pub not_changed : (log : Log) (start s : ℕ) (u : Key) → unit_changed_since periods (changes log) start u ≡ None → IsChangedAt periods log u s → start < s → ⊥
  not_changed log start s u none changed above =
      false≢true (sym (ap is_some none) ∙ touched_is periods (changes log) start u ∙ changed_touches log start s u changed above)

  -- one that is found was, at the instant
  pub is_changed : (log : Log) (start t : ℕ) (u : Key) → unit_changed_since periods (changes log) start u ≡ Some t → IsChangedAt periods log u t × (start < t)
  is_changed log start t u is =
      let found = found_so (IsMade log) (changes log) start u t (each_made log) is in (
        record {
          transaction = found.such.transaction;
          committed = found.such.committed;
          instant_is = found.such.instant_is ∙ found.instant_is;
          has = record { key = found.point.key; changed = found.such.changed; of_unit = found.of_unit };
        },
        found.since,
      )

  -- and at none later
  pub none_after : (log : Log) (start t s : ℕ) (u : Key) → unit_changed_since periods (changes log) start u ≡ Some t → IsChangedAt periods log u s → s ≤ t
  none_after log start t s u is changed = by (nat_lt t s) refl
    where
      the : (x : ℕ) → ◌≡◌ {A = Option ℕ} (Some t) (Some x) → x ≤ t
      the x e = let same : t ≡ x = cc in omega arith

      low : start ≤ t
      low = omega (arith, (is_changed log start t u is).1)

      free : touched periods (changes log) t u ≡ false
      free = bounded_free (changes log) start t u low (λ x e. the x (sym is ∙ e))

      above : nat_lt t s ≡ true → t < s
      above e = grind (arith, nat_tests)

      below : nat_lt t s ≡ false → s ≤ t
      below e = grind (arith, nat_tests)

      by : (b : Bool) → nat_lt t s ≡ b → s ≤ t
      by true e = absurd (false≢true (sym free ∙ changed_touches log t s u changed (above e)))
      by false e = below e
