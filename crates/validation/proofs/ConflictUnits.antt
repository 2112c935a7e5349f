-- What events say of the unit of a key is what changes say.
use Rattle.std.proofs.Common.{◌≡◌, ℕ, ◌<◌, Bool, true, false, List, [], ◌∷◌, Option, Some, None, refl, sym, ap, subst, ◌∙◌, arith, Result, Ok, Err, max, ◌+◌, nat_lt, zero, suc, length, drop, get_or}
use Rattle.std.specs.Prelude.{◌==◌, ◌&&◌, is_some, if◌then◌else◌}
use Rattle.std.specs.Option.{option_map}
use Rattle.std.specs.List.{slice_get, cons_option}
use Rattle.std.specs.Map.{keys_of}
use Rattle.std.proofs.lemmas.Bool.Decides.{nat_tests}
use Rattle.std.proofs.lemmas.List.Elements.{All-head, All-tail}
use Rattle.values.specs.declared.period.Period.{Period}
use Rattle.values.specs.declared.key.Key.{Key}
use Rattle.values.specs.declared.key.Point.{Point}
use Rattle.values.specs.declared.table.Table.{Table}
use Rattle.values.specs.declared.refusal.Refusal.{Refusal}
use Rattle.values.specs.declared.refusal.Refusal.TheVariants.{Conflict, ClockEnd}
use Rattle.values.specs.Order.{is_key}
use Rattle.values.specs.Tables.{Schema, table_at}
use Rattle.values.specs.TableRules.{IsTable}
use Rattle.values.specs.Period.{Periods, periods_of}
use Rattle.values.specs.Entity.{entity_of, unit_of}
use Rattle.values.specs.Log.{Changes, Net, Row, point_cmp}
use Rattle.values.specs.Commits.{latest_of, unit_changed_since, outcome, max_instant}
use Rattle.values.specs.ChangedSince.{conflicts}
use Rattle.values.specs.KeyEncoding.{bytes_of_key}
use Rattle.values.specs.KeyReading.{IsKeyOf}
use Rattle.values.specs.Events.{events_of, event_since, IsKeyOfAny, IsKeyIn, AreKeysIn, AreChangesIn}
use Rattle.values.proofs.EventKeys.{since_is}
use Rattle.values.proofs.OrderSorted.{sorted_from}
use Rattle.periods.proofs.NoOverlapApart.{one_key}
use Rattle.periods.proofs.UnitsOrder.{other_tables_stay}
use Rattle.keyrange.specs.declared.range.KeyRange.{KeyRange}
use Rattle.keyrange.specs.Range.{is_key_in}
use Rattle.searchrange.specs.SearchRange.{range_of_table, IsWithin}
use Rattle.searchrange.proofs.SearchOwn.{own_number}
use Rattle.staging.specs.treewalk.RangeChange.{event_since_in}
use Rattle.staging.specs.tsbtree.View.{TreeState, events}
use Rattle.staging.specs.View.{Holds}
use Rattle.validation.specs.Conflict.{IsOfEntity, conflict_of, end_by}

off : (b : Bool) → (b ≡ true → ⊥) → b ≡ false
off true never = absurd (never refl)
off false never = refl

table_of_unit : (o : Option Period) (k : Key) → (elim o as (λ _. Key) [ None ↦ k | Some _ ↦ entity_of k ]).table ≡ k.table
table_of_unit None k = refl
table_of_unit (Some p) k = refl

key_of_table : (o : Option Table) (table : Table) (k : Key) → o ≡ Some table → IsKeyOfAny o k → IsKeyOf table k
key_of_table o table k is own = subst (λ o. IsKeyOfAny o k) is own

-- ---- a table with a period

module _ (schema : Schema) (table : Table) (p : Period) (key : Key) (range : KeyRange) (at : table_at schema key.table ≡ Some table) (good : IsTable key.table table) (has : table.period ≡ Some p) (own : IsKeyIn schema key)
    (of : IsTable table.number table → (p : Period) → table.period ≡ Some p → IsKeyOf table key → (k : Key) → IsKeyOf table k → is_key_in range (bytes_of_key k) ≡ is_key (entity_of key) (entity_of k))
    (within : IsWithin range (range_of_table table.number)) where
  abbrev periods : Periods
  periods = periods_of schema

  period_at : (k : Key) → k.table ≡ key.table → periods k.table ≡ Some p
  period_at k same = ap periods same ∙ ap (λ (o : Option Table). elim o as (λ _. Option Period) [ None ↦ None | Some t ↦ t.period ]) at ∙ has

  unit_is : unit_of periods key ≡ entity_of key
  unit_is = ap (λ (o : Option Period). elim o as (λ _. Key) [ None ↦ key | Some _ ↦ entity_of key ]) (period_at key refl)

  here : (k : Key) → k.table ≡ key.table → IsKeyIn schema k → is_key_in range (bytes_of_key k) ≡ is_key (unit_of periods key) (unit_of periods k)
  here k same own_k =
      of (subst (λ n. IsTable n table) (sym good.numbered) good) p has (key_of_table (table_at schema key.table) table key at own) k (key_of_table (table_at schema k.table) table k (ap (table_at schema) same ∙ at) own_k)
      ∙ (λ i. is_key (sym unit_is i) (sym (ap (λ (o : Option Period). elim o as (λ _. Key) [ None ↦ k | Some _ ↦ entity_of k ]) (period_at k same)) i))

  elsewhere : (k : Key) → (k.table ≡ key.table → ⊥) → is_key_in range (bytes_of_key k) ≡ is_key (unit_of periods key) (unit_of periods k)
  elsewhere k other =
      off (is_key_in range (bytes_of_key k)) (λ inside. other (own_number table.number k.table _ small (within (bytes_of_key k) inside) ∙ good.numbered))
      ∙ sym (off (is_key (unit_of periods key) (unit_of periods k)) (λ one. other (sym (table_of_unit (periods k.table) k) ∙ sym (ap (λ (u : Key). u.table) (one_key (unit_of periods key) (unit_of periods k) one)) ∙ table_of_unit (periods key.table) key)))
    where
      small : table.number < 255
      small = omega (arith, good.small, good.numbered)

  in_range : (k : Key) → IsKeyIn schema k → is_key_in range (bytes_of_key k) ≡ is_key (unit_of periods key) (unit_of periods k)
  in_range k own_k = by (k.table == key.table) refl
    where
      by : (b : Bool) → (k.table == key.table) ≡ b → is_key_in range (bytes_of_key k) ≡ is_key (unit_of periods key) (unit_of periods k)
      by true e = here k (grind (arith, nat_tests)) own_k
      by false e = elsewhere k (λ same. let never : ⊥ = grind (arith, nat_tests) in never)

  since_in : (m : Changes) (start : ℕ) → AreChangesIn schema m → event_since_in (events_of m) start range ≡ unit_changed_since periods m start (unit_of periods key)
  since_in [] start ins = refl
  since_in (c ∷ cs) start ins =
      λ i. latest_of (since_in cs start (All-tail (λ (q : Point). IsKeyIn schema q.key) c.0 (keys_of cs) ins) i)
      (if in_range c.0.key (All-head (λ (q : Point). IsKeyIn schema q.key) c.0 (keys_of cs) ins) i && nat_lt start c.0.instant then Some c.0.instant else None)

-- as a call finds it
pub of_entity : (schema : Schema) (view : TreeState) (table : Table) (p : Period) (start : ℕ) (key : Key) (found : Option (Key × ℕ)) → table_at schema key.table ≡ Some table → IsTable key.table table → table.period ≡ Some p
    → IsOfEntity table (events view) start key found → (m : Changes) → Holds schema view m → IsKeyIn schema key → found ≡ conflict_of (periods_of schema) m start key
of_entity schema view table p start key found at good has is m held own =
    is.found_is
    ∙ (λ i. option_map (λ n. (sym (unit_is schema table p key is.range at good has own is.of is.within) i, n)) ((ap (λ es. event_since_in es start is.range) held.events_are ∙ since_in schema table p key is.range at good has own is.of is.within m start held.keys) i))

-- ---- a table without one

no_period : (schema : Schema) (key : Key) (o : Option Table) → table_at schema key.table ≡ o → (elim o as (λ _. Option Period) [ None ↦ None | Some t ↦ t.period ]) ≡ None → periods_of schema key.table ≡ None
no_period schema key o is none = ap (λ (o : Option Table). elim o as (λ _. Option Period) [ None ↦ None | Some t ↦ t.period ]) is ∙ none

pub of_key : (schema : Schema) (view : TreeState) (start : ℕ) (key : Key) (found : Option (Key × ℕ)) → periods_of schema key.table ≡ None
    → found ≡ option_map (λ i. (key, i)) (event_since (events view) start (bytes_of_key key)) → (m : Changes) → Holds schema view m → IsKeyIn schema key → found ≡ conflict_of (periods_of schema) m start key
of_key schema view start key found none is m held own =
    is
    ∙ ap (λ es. option_map (λ n. (key, n)) (event_since es start (bytes_of_key key))) held.events_are
    ∙ ap (option_map (λ n. (key, n))) (since_is schema m start key own held.keys)
    ∙ (λ i. option_map (λ n. (sym (ap (λ (o : Option Period). elim o as (λ _. Key) [ None ↦ key | Some _ ↦ entity_of key ]) none) i, n)) (sym (other_tables_stay (periods_of schema) m start key (sorted_from point_cmp m held.in_order) none) i))

pub none_without : (schema : Schema) (key : Key) → table_at schema key.table ≡ None → periods_of schema key.table ≡ None
none_without schema key is = no_period schema key None is refl

pub none_of_table : (schema : Schema) (key : Key) (table : Table) → table_at schema key.table ≡ Some table → table.period ≡ None → periods_of schema key.table ≡ None
none_of_table schema key table is none = no_period schema key (Some table) is none

-- ---- the first conflict

pub first_of : (periods : Periods) (m : Changes) (start : ℕ) (c : Key × Option Row) (net : Net)
    → slice_get (conflicts periods m start (c ∷ net)) 0 ≡ elim (conflict_of periods m start c.0) [ Some x ↦ Some x | None ↦ slice_get (conflicts periods m start net) 0 ]
first_of periods m start c net = by (unit_changed_since periods m start (unit_of periods c.0))
  where
    by : (o : Option ℕ) → ◌≡◌ {A = Option (Key × ℕ)} (slice_get (cons_option (option_map (λ (instant : ℕ). (unit_of periods c.0, instant)) o) (conflicts periods m start net)) 0)
        (elim (option_map (λ i. (unit_of periods c.0, i)) o) [ Some x ↦ Some x | None ↦ slice_get (conflicts periods m start net) 0 ])
    by None = refl
    by (Some i) = refl

pub ends_by : (periods : Periods) (m : Changes) (latest start : ℕ) (net : Net) (reading : ℕ) → (net ≡ [] → ⊥) → outcome periods m latest start net reading ≡ end_by latest reading (slice_get (conflicts periods m start net) 0)
ends_by _ m latest start [] reading some = absurd (some refl)
ends_by periods m latest start (c ∷ net) reading some = by (conflicts periods m start (c ∷ net))
  where
    by : (xs : List (Key × ℕ)) → ◌≡◌ {A = Result (Option ℕ) Refusal} (elim xs [
      | first ∷ others ↦ Err (Conflict first.0 first.1)
      | [] ↦ if nat_lt max_instant (max reading (latest + 1)) then Err ClockEnd else Ok (Some (max reading (latest + 1)))
    ]) (end_by latest reading (slice_get xs 0))
    by [] = refl
    by (x ∷ xs) = refl

-- ---- a change of the entity of the one before

-- what is looked up of a key depends on its unit alone
conflict_of_unit : (periods : Periods) (m : Changes) (start : ℕ) (k l : Key) → unit_of periods k ≡ unit_of periods l → conflict_of periods m start k ≡ conflict_of periods m start l
conflict_of_unit periods m start k l same = ap (λ unit. option_map (λ i. (unit, i)) (unit_changed_since periods m start unit)) same

-- keys of one entity have one unit, in a table with a period
one_unit : (periods : Periods) (k l : Key) → (is_some (periods k.table) && is_key (entity_of k) (entity_of l)) ≡ true → unit_of periods k ≡ unit_of periods l
one_unit periods k l one = by (periods k.table) refl one
  where
    by : (o : Option Period) → periods k.table ≡ o → (is_some o && is_key (entity_of k) (entity_of l)) ≡ true → unit_of periods k ≡ unit_of periods l
    by None at one = cc
    by (Some p) at one =
        let same : entity_of k ≡ entity_of l = one_key (entity_of k) (entity_of l) one in
        ap (λ (o : Option Period). elim o as (λ _. Key) [ None ↦ k | Some _ ↦ entity_of k ]) at
        ∙ same
        ∙ sym (ap (λ (o : Option Period). elim o as (λ _. Key) [ None ↦ l | Some _ ↦ entity_of l ]) (ap periods (sym (ap (λ (e : Key). e.table) same)) ∙ at))

pub none_behind : (periods : Periods) (m : Changes) (start : ℕ) (k l : Key) → conflict_of periods m start k ≡ None → (is_some (periods k.table) && is_key (entity_of k) (entity_of l)) ≡ true → None ≡ conflict_of periods m start l
none_behind periods m start k l none one = sym none ∙ conflict_of_unit periods m start k l (one_unit periods k l one)

-- ---- one net change after another

pub next_of : (schema : Schema) (periods : Periods) (m : Changes) (start : ℕ) (net : Net) (i : ℕ) (c : Key × Option Row) → i < length net → c ≡ get_or net i c → AreKeysIn schema net
    → IsKeyIn schema c.0 × (slice_get (conflicts periods m start (drop i net)) 0 ≡ elim (conflict_of periods m start c.0) [ Some x ↦ Some x | None ↦ slice_get (conflicts periods m start (drop (suc i) net)) 0 ])
next_of schema periods m start [] i c within is ins = absurd (omega arith)
next_of schema periods m start (x ∷ net) zero c within is ins =
    subst (λ (y : Key × Option Row). IsKeyIn schema y.0 × (slice_get (conflicts periods m start (x ∷ net)) 0 ≡ elim (conflict_of periods m start y.0) [ Some x ↦ Some x | None ↦ slice_get (conflicts periods m start net) 0 ]))
    (sym is) (All-head (IsKeyIn schema) x.0 (keys_of net) ins, first_of periods m start x net)
next_of schema periods m start (x ∷ net) (suc i) c within is ins =
    next_of schema periods m start net i c (lower i (length net) within) is (All-tail (IsKeyIn schema) x.0 (keys_of net) ins)
  where
    lower : (a b : ℕ) → suc a < suc b → a < b
    lower a b h = omega arith
