-- The units of a session's net change stand in order.
use Rattle.std.proofs.Common.{◌≡◌, ◌≢◌, ℕ, Bool, true, false, cond, List, [], ◌∷◌, Option, Some, None, is_some, refl, sym, ap, subst, ◌∙◌, length, nat_lt}
use Rattle.std.specs.Prelude.{◌||◌, Ok, Err, option_and_then, map}
use Rattle.std.proofs.lemmas.List.{length-map}
use Rattle.std.specs.BTreeSet.{insert_key}
use Rattle.std.specs.Ordering.{match_ordering, ordering_reverse}
use Rattle.std.specs.declared.cmp.Ordering.{Ordering}
use Rattle.std.specs.declared.cmp.Ordering.TheVariants.{Less, Equal, Greater}
use Rattle.values.specs.declared.key.Key.{Key}
use Rattle.values.specs.declared.period.Period.{Period}
use Rattle.values.specs.declared.period.Span.{Span}
use Rattle.values.specs.declared.query.Keys.{Keys}
use Rattle.values.specs.declared.query.Set.{Set}
use Rattle.values.specs.declared.refusal.Refusal.{Refusal}
use Rattle.values.specs.declared.refusal.Refusal.TheVariants.{NoTable, TooManyWrites}
use Rattle.values.specs.declared.table.Table.{Table}
use Rattle.values.specs.Each.{Each}
use Rattle.values.specs.Entity.{entity_of, unit_of}
use Rattle.values.specs.Log.{Net, Row, State, row_at, state}
use Rattle.values.specs.Order.{key_cmp, is_key}
use Rattle.values.specs.Period.{Periods, periods_of}
use Rattle.values.specs.Portion.{portion_in, portion_keys, change_portion, taken}
use Rattle.values.specs.Tables.{Schema, table_at, value_at}
use Rattle.values.specs.TableRules.{AreTables}
use Rattle.values.specs.Writes.{Own, Written, most_written, add_keys, net_of, write_keys, key_of, insert_into, insert_rows, insert_refusal, update_in, delete_from, matching_keys, update_rows, delete_rows}
use Rattle.values.proofs.LogStates.{state_matches}
use Rattle.values.proofs.OrderTotal.{key_cmp_total}
use Rattle.rows.proofs.SchemaPlaces.{each_to}
use Rattle.steps.specs.declared.step.Step.{Step}
use Rattle.steps.specs.declared.step.Step.TheVariants.{Begin, Insert, Update, Delete, UpdatePortion, DeletePortion, Select, Commit, Rollback, AddColumn, SplitKey, SplitTime, Migrate}
use Rattle.steps.specs.Write.{write}
use Rattle.periods.specs.NoOverlap.{IsKeyedIn, AreKeyed}
use Rattle.periods.proofs.NoOverlapApart.{one_key}
use Rattle.periods.proofs.UnitsOrder.{units_in_order}
use Rattle.histories.specs.History.{History, schema_after, log, log_at_begin, own, own_of, rewrite_all, snap, mine, net}
use Rattle.histories.proofs.HistoryGrowth.{log_rises}
use Rattle.histories.proofs.HistorySorted.{Sorted, sorted_deleted, sorted_inserted, sorted_portion, sorted_updated}
use Rattle.histories.proofs.PeriodLawApart as apart
use Rattle.histories.proofs.PeriodLawApart.{written_keys}

-- ---- the order of keys

pub turned : (k l : Key) → key_cmp k l ≡ Less → key_cmp l k ≡ Greater
turned k l e = key_cmp_total.antisymm l k ∙ ap ordering_reverse e

pub back : (k l : Key) → key_cmp k l ≡ Greater → key_cmp l k ≡ Less
back k l e = key_cmp_total.antisymm l k ∙ ap ordering_reverse e

pub not_below_itself : (k : Key) → key_cmp k k ≢ Less
not_below_itself k e = let no : Less ≡ Greater = sym e ∙ turned k k e in cc

-- each key is below those after it
abbrev pub Rise : List Key → Type 0
Rise [] = Unit {0}
Rise (k ∷ ks) = Each (λ l. key_cmp k l ≡ Less) ks × Rise ks

each_key : (P : Key → Type 0) (k : Key) (ls : List Key) → P k → Each P ls → Each P (insert_key key_cmp ls k)
each_key P k [] here e = (here, tt)
each_key P k (l ∷ ls) here e = by (key_cmp k l) (each_key P k ls here e.1)
  where
    by : (o : Ordering) → Each P (insert_key key_cmp ls k) → Each P (match_ordering o (k ∷ l ∷ ls) (l ∷ ls) (l ∷ insert_key key_cmp ls k))
    by Less rest = (here, e)
    by Equal rest = e
    by Greater rest = (e.0, rest)

rise_inserted : (k : Key) (ls : List Key) → Rise ls → Rise (insert_key key_cmp ls k)
rise_inserted k [] rise = (tt, tt)
rise_inserted k (l ∷ ls) rise = by (key_cmp k l) refl (rise_inserted k ls rise.1)
  where
    by : (o : Ordering) → key_cmp k l ≡ o → Rise (insert_key key_cmp ls k) → Rise (match_ordering o (k ∷ l ∷ ls) (l ∷ ls) (l ∷ insert_key key_cmp ls k))
    by Less is rest = ((is, each_to (λ x. key_cmp l x ≡ Less) (λ x. key_cmp k x ≡ Less) (λ x less. key_cmp_total.trans k l x is less) ls rise.0), rise)
    by Equal is rest = rise
    by Greater is rest = (each_key (λ x. key_cmp l x ≡ Less) k ls (back k l is) rise.0, rest)

rise_added : (ks ls : List Key) → Rise ls → Rise (add_keys ks ls)
rise_added [] ls rise = rise
rise_added (k ∷ ks) ls rise = rise_added ks (insert_key key_cmp ls k) (rise_inserted k ls rise)

-- ---- what writes leave

-- the keys that were written rise, and the rows are in the order of their keys
pub record IsOrdered (o : Own) : Type 0 where
  pub written : Rise o.written
  pub rows : Sorted o.rows

keys_ordered : (keys : List Key) (count : ℕ) (rows : State) (o : Own) → Sorted rows → IsOrdered o → IsOrdered (write_keys keys count rows o).1
keys_ordered keys count rows o sorted ordered = by (nat_lt most_written (length (add_keys keys o.written)))
  where
    by : (b : Bool) → IsOrdered (cond {A = Written} b (Err TooManyWrites, o) (Ok count, record { rows = rows; written = add_keys keys o.written })).1
    by true = ordered
    by false = record { written = rise_added keys o.written ordered.written; rows = sorted }

table_ordered : (t : Option Table) (does : Table → Own → Written) (o : Own) → IsOrdered o → ((table : Table) → IsOrdered (does table o).1) → IsOrdered (elim t as (λ _. Written) [ None ↦ (Err NoTable, o) | Some table ↦ does table o ]).1
table_ordered None does o ordered after = ordered
table_ordered (Some table) does o ordered after = after table

insert_ordered : (table : Table) (rows : List Row) (o : Own) → IsOrdered o → IsOrdered (insert_into table rows o).1
insert_ordered table rows o ordered = by (insert_refusal table rows o.rows)
  where
    by : (r : Option Refusal) → IsOrdered (elim r as (λ _. Written) [ Some refusal ↦ (Err refusal, o) | None ↦ write_keys (map (key_of table) rows) (length rows) (insert_rows table rows o.rows) o ]).1
    by (Some refusal) = ordered
    by None = keys_ordered (map (key_of table) rows) (length rows) (insert_rows table rows o.rows) o (sorted_inserted table rows o.rows ordered.rows) ordered

portion_ordered : (table : Table) (keys : Keys) (cut : Span) (sets : Option (List Set)) (o : Own) → IsOrdered o → IsOrdered (portion_in table keys cut sets o).1
portion_ordered table keys cut sets o ordered = by table.period
  where
    by : (q : Option Period) → IsOrdered (elim q as (λ _. Written) [ None ↦ (Ok 0, o) | Some p ↦ write_keys (portion_keys table p keys cut sets o.rows) (length (taken table p keys cut o.rows)) (change_portion table p keys cut sets o.rows) o ]).1
    by None = ordered
    by (Some p) =
        keys_ordered (portion_keys table p keys cut sets o.rows) (length (taken table p keys cut o.rows)) (change_portion table p keys cut sets o.rows) o
        (sorted_portion table p keys cut sets o.rows ordered.rows) ordered

write_ordered : (now : Schema) (step : Step) (o : Own) → IsOrdered o → IsOrdered (write now step o).1
write_ordered now (Insert i number rows) o ordered = table_ordered (table_at now number) (λ table. insert_into table rows) o ordered (λ table. insert_ordered table rows o ordered)
write_ordered now (Update i keys sets) o ordered =
    table_ordered (table_at now keys.table) (λ table. update_in table keys sets) o ordered
    (λ table. keys_ordered (matching_keys table keys o.rows) (length (matching_keys table keys o.rows)) (update_rows table keys sets o.rows) o (sorted_updated table keys sets o.rows ordered.rows) ordered)
write_ordered now (Delete i keys) o ordered =
    table_ordered (table_at now keys.table) (λ table. delete_from table keys) o ordered
    (λ table. keys_ordered (matching_keys table keys o.rows) (length (matching_keys table keys o.rows)) (delete_rows table keys o.rows) o (sorted_deleted table keys o.rows ordered.rows) ordered)
write_ordered now (UpdatePortion i keys cut sets) o ordered = table_ordered (table_at now keys.table) (λ table. portion_in table keys cut (Some sets)) o ordered (λ table. portion_ordered table keys cut (Some sets) o ordered)
write_ordered now (DeletePortion i keys cut) o ordered = table_ordered (table_at now keys.table) (λ table. portion_in table keys cut None) o ordered (λ table. portion_ordered table keys cut None o ordered)
write_ordered now (Begin i) o ordered = ordered
write_ordered now (Select i form keys) o ordered = ordered
write_ordered now (Commit i reading) o ordered = ordered
write_ordered now (Rollback i) o ordered = ordered
write_ordered now (AddColumn i number name of) o ordered = ordered
write_ordered now (SplitKey key) o ordered = ordered
write_ordered now (SplitTime key instant) o ordered = ordered
write_ordered now Migrate o ordered = ordered

writes_ordered : (now : Schema) (own : List Step) (o : Own) → IsOrdered o → IsOrdered (rewrite_all now own o)
writes_ordered now [] o ordered = ordered
writes_ordered now (step ∷ own) o ordered = writes_ordered now own (write now step o).1 (write_ordered now step o ordered)

-- so it is of what a session sees and wrote
pub own_ordered : (first : Schema) (h : History) (i : ℕ) → IsOrdered (own_of (schema_after first h) (log first h) (log_at_begin first h i) (own first h i))
own_ordered first h i =
    writes_ordered (schema_after first h) (own first h i) (record { rows = state (log first h) (snap first h i); written = [] })
    (record { written = tt; rows = (state_matches (log first h) (snap first h i) (log_rises first h)).by_key })

-- ---- net changes

each_net_of : (P : Key → Type 0) (seen mine : State) (keys : List Key) → Each P keys → Each (λ c. P c.0) (net_of seen mine keys)
each_net_of P seen mine [] e = tt
each_net_of P seen mine (k ∷ ks) e = by (is_some (row_at mine k) || is_some (row_at seen k)) (each_net_of P seen mine ks e.1)
  where
    by : (b : Bool) → Each (λ c. P c.0) (net_of seen mine ks) → Each (λ c. P c.0) (cond b ((k, row_at mine k) ∷ net_of seen mine ks) (net_of seen mine ks))
    by true rest = (e.0, rest)
    by false rest = rest

-- each change is of a key below those after it
abbrev NetRises : Net → Type 0
NetRises [] = Unit {0}
NetRises (c ∷ net) = Each (λ d. key_cmp c.0 d.0 ≡ Less) net × NetRises net

net_rises : (seen mine : State) (keys : List Key) → Rise keys → NetRises (net_of seen mine keys)
net_rises seen mine [] rise = tt
net_rises seen mine (k ∷ ks) rise = by (is_some (row_at mine k) || is_some (row_at seen k)) (net_rises seen mine ks rise.1)
  where
    by : (b : Bool) → NetRises (net_of seen mine ks) → NetRises (cond b ((k, row_at mine k) ∷ net_of seen mine ks) (net_of seen mine ks))
    by true rest = (each_net_of (λ l. key_cmp k l ≡ Less) seen mine ks rise.0, rest)
    by false rest = rest

-- what holds of the keys of rows
has_key : (P : Key → Type 0) (m : State) (k : Key) → Each (λ e. P e.0) m → is_some (row_at m k) ≡ true → P k
has_key P [] k e at = cc
has_key P (x ∷ m) k e at = by (is_key k x.0) refl at (λ at. has_key P m k e.1 at)
  where
    by : (b : Bool) → is_key k x.0 ≡ b → is_some (cond b (Some x.1) (row_at m k)) ≡ true → (is_some (row_at m k) ≡ true → P k) → P k
    by true is at rest = subst P (sym (one_key k x.0 is)) e.0
    by false is at rest = rest at

-- holds of those of net changes
each_changed : (P : Key → Type 0) (seen mine : State) (keys : List Key) → Each (λ e. P e.0) seen → Each (λ e. P e.0) mine → Each (λ c. P c.0) (net_of seen mine keys)
each_changed P seen mine [] before after = tt
each_changed P seen mine (k ∷ ks) before after = by (is_some (row_at mine k)) (is_some (row_at seen k)) refl refl (each_changed P seen mine ks before after)
  where
    by : (a b : Bool) → is_some (row_at mine k) ≡ a → is_some (row_at seen k) ≡ b → Each (λ c. P c.0) (net_of seen mine ks) → Each (λ c. P c.0) (cond (a || b) ((k, row_at mine k) ∷ net_of seen mine ks) (net_of seen mine ks))
    by true b is_a is_b rest = (has_key P mine k after is_a, rest)
    by false true is_a is_b rest = (has_key P seen k before is_b, rest)
    by false false is_a is_b rest = rest

-- ---- their units

-- no unit is below one before it
abbrev pub UnitsRise : Periods → Net → Type 0
UnitsRise periods [] = Unit {0}
UnitsRise periods (c ∷ net) = Each (λ d. key_cmp (unit_of periods d.0) (unit_of periods c.0) ≢ Less) net × UnitsRise periods net

module _ (periods : Periods) (width : ℕ → ℕ) where
  -- in a table with a period all keys have one length
  abbrev IsWide : Key → Type 0
  IsWide k = (p : Period) → periods k.table ≡ Some p → length k.parts ≡ width k.table

  units_turned : (k l : Key) → key_cmp (unit_of periods k) (unit_of periods l) ≢ Greater → key_cmp (unit_of periods l) (unit_of periods k) ≢ Less
  units_turned k l above below = above (turned (unit_of periods l) (unit_of periods k) below)

  in_order : (k l : Key) → IsWide k → IsWide l → key_cmp k l ≡ Less → key_cmp (unit_of periods l) (unit_of periods k) ≢ Less
  in_order k l wide_k wide_l less = by (periods k.table) (periods l.table) refl refl
    where
      keys : (p q : Option Period) → p ≡ None → q ≡ None → key_cmp (elim q as (λ _. Key) [ None ↦ l | Some _ ↦ entity_of l ]) (elim p as (λ _. Key) [ None ↦ k | Some _ ↦ entity_of k ]) ≢ Less
      keys None None is_k is_l below = let no : Greater ≡ Less = sym (turned k l less) ∙ below in cc
      keys (Some p) q is_k is_l below = cc
      keys None (Some q) is_k is_l below = cc

      by : (p q : Option Period) → periods k.table ≡ p → periods l.table ≡ q → key_cmp (unit_of periods l) (unit_of periods k) ≢ Less
      by None None is_k is_l = keys (periods k.table) (periods l.table) is_k is_l
      by None (Some q) is_k is_l =
          units_turned k l (units_in_order periods k l (λ same. let no : ◌≡◌ {A = Option Period} None (Some q) = sym is_k ∙ ap periods same ∙ is_l in cc) less)
      by (Some p) q is_k is_l =
          units_turned k l (units_in_order periods k l (λ same. wide_k p is_k ∙ ap width same ∙ sym (wide_l p (sym (ap periods same) ∙ is_k))) less)

  pub units_rise : (net : Net) → NetRises net → Each (λ c. IsWide c.0) net → UnitsRise periods net
  units_rise [] rise wide = tt
  units_rise (c ∷ net) rise wide = (all net rise.0 wide.1, units_rise net rise.1 wide.1)
    where
      all : (ds : Net) → Each (λ d. key_cmp c.0 d.0 ≡ Less) ds → Each (λ d. IsWide d.0) ds → Each (λ d. key_cmp (unit_of periods d.0) (unit_of periods c.0) ≢ Less) ds
      all [] less wider = tt
      all (d ∷ ds) less wider = (in_order c.0 d.0 wide.0 wider.0 less.0, all ds less.1 wider.1)

-- ---- a session's net change

-- the length of the keys of the table
abbrev key_width : Schema → ℕ → ℕ
key_width schema number = elim (table_at schema number) [ None ↦ 0 | Some table ↦ length table.key ]

keyed_wide : (first : Schema) (e : Key × Row) → IsKeyedIn (table_at first) (periods_of first) e → IsWide (periods_of first) (key_width first) e.0
keyed_wide first e is p found = by (table_at first e.0.table) refl found
  where
    by : (o : Option Table) → table_at first e.0.table ≡ o → option_and_then (λ t. t.period) o ≡ Some p → length e.0.parts ≡ elim o as (λ _. ℕ) [ None ↦ 0 | Some table ↦ length table.key ]
    by None at has = cc
    by (Some table) at has = ap (λ (k : Key). length k.parts) (is table p at found).key_is ∙ length-map table.key (value_at e.1)

all_wide : (first : Schema) (m : State) → AreKeyed (table_at first) (periods_of first) m → Each (λ e. IsWide (periods_of first) (key_width first) e.0) m
all_wide first m keyed = each_to (IsKeyedIn (table_at first) (periods_of first)) (λ e. IsWide (periods_of first) (key_width first) e.0) (keyed_wide first) m keyed

pub own_units_rise : (first : Schema) → AreTables 1 first.tables → (h : History) (i : ℕ) → UnitsRise (periods_of first) (net first h i)
own_units_rise first good h i =
    units_rise (periods_of first) (key_width first) (net first h i)
    (net_rises seen (mine first h i) (written_keys first h i) (own_ordered first h i).written)
    (each_changed (IsWide (periods_of first) (key_width first)) seen (mine first h i) (written_keys first h i)
    (all_wide first seen (apart.log_sound first good h (snap first h i)).keyed)
    (all_wide first (mine first h i) (apart.own_sound first good h i (λ t. apart.log_sound first good h t)).keyed))
  where
    seen : State
    seen = state (log first h) (snap first h i)
