-- Units are in the order of keys, and of a table without a period they are the keys.
use Rattle.std.proofs.Common.{◌≡◌, ◌≢◌, ℕ, ◌<◌, Bool, true, false, ◌&&◌, T, List, [], ◌∷◌, Option, Some, None, refl, sym, ap, subst, ◌∙◌, arith, length, nat_lt, max, suc}
use Rattle.std.specs.Prelude.{if◌then◌else◌}
use Rattle.std.specs.FinMap.{is_sorted, nat_cmp-IsAntisymmetric}
use Rattle.std.specs.FinMap.Entries.{below_all}
use Rattle.std.specs.Ordering.{nat_cmp, is_eq, is_lt, ordering_then}
use Rattle.std.specs.Cmp.Lexicographic.{slice_cmp}
use Rattle.std.specs.declared.cmp.Ordering.{Ordering}
use Rattle.std.specs.declared.cmp.Ordering.TheVariants.{Less, Equal, Greater}
use Rattle.values.specs.declared.period.Period.{Period}
use Rattle.values.specs.declared.value.Value.{Value}
use Rattle.values.specs.declared.key.Key.{Key}
use Rattle.values.specs.Order.{value_cmp, key_cmp, is_key}
use Rattle.values.specs.Log.{Changes, point_cmp}
use Rattle.values.specs.Commits.{latest_of, unit_changed_since}
use Rattle.values.specs.ChangedSince.{changed_since, or_else}
use Rattle.values.proofs.OrderTotal.{first, second, below}
use Rattle.values.specs.Period.{Periods}
use Rattle.values.specs.Entity.{entity_of, unit_of}
use Rattle.values.specs.Tables.{but_last}
use Rattle.periods.specs.Units.{UnitsAreInOrder, OtherTablesStay}
use Rattle.periods.proofs.NoOverlapApart.{one_key}

-- ---- the order of units

lists_in_order : (xs ys : List Value) → length xs ≡ length ys → slice_cmp value_cmp xs ys ≡ Less → slice_cmp value_cmp (but_last xs) (but_last ys) ≢ Greater
lists_in_order [] [] same less g = cc
lists_in_order [] (y ∷ ys) same less g = absurd (omega arith)
lists_in_order (x ∷ xs) [] same less g = absurd (omega arith)
lists_in_order (x ∷ []) (y ∷ []) same less g = cc
lists_in_order (x ∷ []) (y ∷ z ∷ ys) same less g = absurd (omega arith)
lists_in_order (x ∷ w ∷ xs) (y ∷ []) same less g = absurd (omega arith)
lists_in_order (x ∷ w ∷ xs) (y ∷ z ∷ ys) same less g = by (value_cmp x y) less g (lists_in_order (w ∷ xs) (z ∷ ys) (shorter (length (w ∷ xs)) (length (z ∷ ys)) same))
  where
    shorter : (a b : ℕ) → suc a ≡ suc b → a ≡ b
    shorter a b e = omega arith

    by : (o : Ordering) → ordering_then o (slice_cmp value_cmp (w ∷ xs) (z ∷ ys)) ≡ Less → ordering_then o (slice_cmp value_cmp (but_last (w ∷ xs)) (but_last (z ∷ ys))) ≡ Greater
        → (slice_cmp value_cmp (w ∷ xs) (z ∷ ys) ≡ Less → slice_cmp value_cmp (but_last (w ∷ xs)) (but_last (z ∷ ys)) ≢ Greater) → ⊥
    by Less less g rest = cc
    by Equal less g rest = rest less g
    by Greater less g rest = cc

pub units_in_order : UnitsAreInOrder
units_in_order periods k l wide less g = by (nat_cmp k.table l.table) refl less
  where
    unit_is : (o p : Option Period) → o ≡ p → (nat_cmp k.table l.table ≡ Equal) → slice_cmp value_cmp k.parts l.parts ≡ Less → key_cmp (elim o as (λ _. Key) [ None ↦ k | Some _ ↦ entity_of k ]) (elim p as (λ _. Key) [ None ↦ l | Some _ ↦ entity_of l ]) ≢ Greater
    unit_is None None same tie less g = cc
    unit_is None (Some q) same tie less g = cc
    unit_is (Some p) None same tie less g = cc
    unit_is (Some p) (Some q) same tie less g =
        lists_in_order k.parts l.parts (wide (nat_cmp-IsAntisymmetric k.table l.table tie)) less
        (sym (ap (λ o. ordering_then o (slice_cmp value_cmp (but_last k.parts) (but_last l.parts))) tie) ∙ g)

    low : (o p : Option Period) → nat_cmp k.table l.table ≡ Less → key_cmp (elim o as (λ _. Key) [ None ↦ k | Some _ ↦ entity_of k ]) (elim p as (λ _. Key) [ None ↦ l | Some _ ↦ entity_of l ]) ≡ Less
    low None None e = ap (λ o. ordering_then o (slice_cmp value_cmp k.parts l.parts)) e
    low None (Some q) e = ap (λ o. ordering_then o (slice_cmp value_cmp k.parts (but_last l.parts))) e
    low (Some p) None e = ap (λ o. ordering_then o (slice_cmp value_cmp (but_last k.parts) l.parts)) e
    low (Some p) (Some q) e = ap (λ o. ordering_then o (slice_cmp value_cmp (but_last k.parts) (but_last l.parts))) e

    by : (o : Ordering) → nat_cmp k.table l.table ≡ o → ordering_then o (slice_cmp value_cmp k.parts l.parts) ≡ Less → ⊥
    by Less tables e =
        let is = low (periods k.table) (periods l.table) tables in cc
    by Equal tables e = unit_is (periods k.table) (periods l.table) (ap periods (nat_cmp-IsAntisymmetric k.table l.table tables)) tables e g
    by Greater tables e = cc

-- ---- tables without a period

module _ (periods : Periods) (start : ℕ) (k : Key) (none : periods k.table ≡ None) where
  key_of_unit : unit_of periods k ≡ k
  key_of_unit = ap (λ (o : Option Period). elim o as (λ _. Key) [ None ↦ k | Some _ ↦ entity_of k ]) none

  -- the unit of another key is this key where that is the key
  same_test : (l : Key) → is_key (unit_of periods k) (unit_of periods l) ≡ is_key k l
  same_test l = ap (λ (u : Key). is_key u (unit_of periods l)) key_of_unit ∙ by (periods l.table) refl
    where
      off : (b : Bool) → (b ≡ true → ⊥) → b ≡ false
      off true h = absurd (h refl)
      off false h = refl

      differ : (p : Period) (u : Key) → periods u.table ≡ Some p → is_key k u ≡ false
      differ p u at = off (is_key k u) (λ e. absurd_at p u at (ap (λ (q : Key). q.table) (one_key k u e)))
        where
          absurd_at : (p : Period) (u : Key) → periods u.table ≡ Some p → k.table ≡ u.table → ⊥
          absurd_at p u at same = let both : ◌≡◌ {A = Option Period} None (Some p) = sym none ∙ ap periods same ∙ at in cc

      by : (o : Option Period) → periods l.table ≡ o → is_key k (elim o as (λ _. Key) [ None ↦ l | Some _ ↦ entity_of l ]) ≡ is_key k l
      by None at = refl
      by (Some p) at = differ p (entity_of l) at ∙ sym (differ p l at)

  -- a key's last change is after those before it
  later_than : (cs : Changes) (i j : ℕ) (l : Key) → is_key k l ≡ true → T (below_all point_cmp (record { key = l; instant = i }) cs) → changed_since cs start k ≡ Some j → i < j
  later_than [] i j l same below found = cc
  later_than (c ∷ cs) i j l same low found =
      by (changed_since cs start k) refl found (is_key k c.0.key) (nat_lt start c.0.instant) refl refl
      (λ x is. later_than cs i x l same (second (is_lt (point_cmp (record { key = l; instant = i }) c.0)) _ low) is)
    where
      beside : key_cmp l c.0.key ≡ Equal → T (is_lt (ordering_then (key_cmp l c.0.key) (nat_cmp i c.0.instant))) → i < c.0.instant
      beside tie h = below i c.0.instant (subst (λ o. T (is_lt (ordering_then o (nat_cmp i c.0.instant)))) tie h)

      tied : (o : Ordering) → is_eq o ≡ true → o ≡ Equal
      tied Less e = cc
      tied Equal e = refl
      tied Greater e = cc

      one : (a b : ℕ) → ◌≡◌ {A = Option ℕ} (Some a) (Some b) → a ≡ b
      one a b e = cc

      this : (a b : Bool) → ◌≡◌ {A = Option ℕ} (if a && b then Some c.0.instant else None) (Some j) → (a ≡ true) × (c.0.instant ≡ j)
      this true true e = (refl, one c.0.instant j e)
      this true false e = cc
      this false b e = cc

      by : (o : Option ℕ) → changed_since cs start k ≡ o → or_else o (if is_key k c.0.key && nat_lt start c.0.instant then Some c.0.instant else None) ≡ Some j
          → (a b : Bool) → is_key k c.0.key ≡ a → nat_lt start c.0.instant ≡ b → ((x : ℕ) → changed_since cs start k ≡ Some x → i < x) → i < j
      by (Some x) is found a b here above rest = subst (λ n. i < n) (one x j found) (rest x is)
      by None is found a b here above rest =
          let met = this (is_key k c.0.key) (nat_lt start c.0.instant) found in
          subst (λ n. i < n) met.1
          (beside (ap (λ (q : Key). key_cmp q c.0.key) (sym (one_key k l same)) ∙ tied (key_cmp k c.0.key) met.0)
          (first (is_lt (point_cmp (record { key = l; instant = i }) c.0)) _ low))

  same_look : (m : Changes) → T (is_sorted point_cmp m) → unit_changed_since periods m start (unit_of periods k) ≡ changed_since m start k
  same_look [] sorted = refl
  same_look (c ∷ cs) sorted =
      (λ i. latest_of (same_look cs (second (below_all point_cmp c.0 cs) _ sorted) i) (if same_test c.0.key i && nat_lt start c.0.instant then Some c.0.instant else None))
      ∙ by (changed_since cs start k) (is_key k c.0.key) (nat_lt start c.0.instant) refl refl
      (λ x is here. later_than cs c.0.instant x c.0.key here (first (below_all point_cmp c.0 cs) _ sorted) is)
    where
      larger : (x i : ℕ) → i < x → max x i ≡ x
      larger x i h = omega arith

      by : (o : Option ℕ) (a b : Bool) → changed_since cs start k ≡ o → is_key k c.0.key ≡ a → ((x : ℕ) → changed_since cs start k ≡ Some x → is_key k c.0.key ≡ true → c.0.instant < x)
          → latest_of o (if a && b then Some c.0.instant else None) ≡ or_else o (if a && b then Some c.0.instant else None)
      by None a b is here above = refl
      by (Some x) true true is here above = ap Some (larger x c.0.instant (above x is here))
      by (Some x) true false is here above = refl
      by (Some x) false b is here above = refl

pub other_tables_stay : OtherTablesStay
other_tables_stay periods m start k sorted none = same_look periods start k none m sorted
