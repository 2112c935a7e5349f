-- The rows that writes leave are in the order of their keys.
use Rattle.std.proofs.Common.{◌≡◌, Bool, true, false, cond, T, List, [], ◌∷◌, refl, sym, subst, not}
use Rattle.std.specs.Prelude.{if◌then◌else◌, Option, filter, map}
use Rattle.std.specs.BTreeMap.{insert_entry}
use Rattle.std.specs.FinMap.{is_sorted}
use Rattle.std.specs.FinMap.Entries.{below_all}
use Rattle.std.specs.Ordering.{is_lt}
use Rattle.values.specs.declared.key.Key.{Key}
use Rattle.values.specs.declared.period.Period.{Period}
use Rattle.values.specs.declared.period.Span.{Span}
use Rattle.values.specs.declared.query.Keys.{Keys}
use Rattle.values.specs.declared.query.Set.{Set}
use Rattle.values.specs.declared.table.Table.{Table}
use Rattle.values.specs.Log.{Row, State}
use Rattle.values.specs.Order.{key_cmp}
use Rattle.values.specs.Portion.{all_left, change_portion, is_taken, not_taken}
use Rattle.values.specs.Tables.{full_row}
use Rattle.values.specs.Versions.{matches}
use Rattle.values.specs.Writes.{delete_rows, insert_all, insert_rows, key_of, set_all, update_rows}
use Rattle.values.proofs.LogMaps.{sorted_insert}
use Rattle.values.proofs.OrderTotal.{both, first, key_cmp_total, second}

abbrev pub Sorted : State → Type 0
Sorted m = T (is_sorted key_cmp m)

-- ---- some of the rows

below_filtered : (test : (Key × Row) → Bool) (k : Key) (m : State) → T (below_all key_cmp k m) → T (below_all key_cmp k (filter test m))
below_filtered test k [] below = tt
below_filtered test k (e ∷ m) below = by (test e) (below_filtered test k m (second (is_lt (key_cmp k e.0)) _ below))
  where
    by : (b : Bool) → T (below_all key_cmp k (filter test m)) → T (below_all key_cmp k (cond b (e ∷ filter test m) (filter test m)))
    by true rest = both (is_lt (key_cmp k e.0)) _ (first (is_lt (key_cmp k e.0)) _ below) rest
    by false rest = rest

pub sorted_filtered : (test : (Key × Row) → Bool) (m : State) → Sorted m → Sorted (filter test m)
sorted_filtered test [] sorted = tt
sorted_filtered test (e ∷ m) sorted = by (test e) (sorted_filtered test m (second (below_all key_cmp e.0 m) _ sorted))
  where
    by : (b : Bool) → Sorted (filter test m) → Sorted (cond b (e ∷ filter test m) (filter test m))
    by true rest = both (below_all key_cmp e.0 (filter test m)) _ (below_filtered test e.0 m (first (below_all key_cmp e.0 m) _ sorted)) rest
    by false rest = rest

-- ---- other rows at the same keys

module _ (change : (Key × Row) → Key × Row) (same : (e : Key × Row) → (change e).0 ≡ e.0) where
  below_mapped : (k : Key) (m : State) → T (below_all key_cmp k m) → T (below_all key_cmp k (map change m))
  below_mapped k [] below = tt
  below_mapped k (e ∷ m) below =
      both (is_lt (key_cmp k (change e).0)) _
      (subst (λ (l : Key). T (is_lt (key_cmp k l))) (sym (same e)) (first (is_lt (key_cmp k e.0)) _ below))
      (below_mapped k m (second (is_lt (key_cmp k e.0)) _ below))

  sorted_mapped : (m : State) → Sorted m → Sorted (map change m)
  sorted_mapped [] sorted = tt
  sorted_mapped (e ∷ m) sorted =
      both (below_all key_cmp (change e).0 (map change m)) _
      (subst (λ (k : Key). T (below_all key_cmp k (map change m))) (sym (same e)) (below_mapped e.0 m (first (below_all key_cmp e.0 m) _ sorted)))
      (sorted_mapped m (second (below_all key_cmp e.0 m) _ sorted))

-- ---- the rows that each write leaves

pub sorted_inserted : (table : Table) (rows : List Row) (m : State) → Sorted m → Sorted (insert_rows table rows m)
sorted_inserted table [] m sorted = sorted
sorted_inserted table (row ∷ rows) m sorted = sorted_inserted table rows (insert_entry key_cmp m (key_of table row) row) (sorted_insert key_cmp_total m (key_of table row) row sorted)

pub sorted_updated : (table : Table) (keys : Keys) (sets : List Set) (m : State) → Sorted m → Sorted (update_rows table keys sets m)
sorted_updated table keys sets m sorted =
    sorted_mapped (λ e. if matches table keys e.0 then (e.0, set_all sets (full_row table e.1)) else e) (λ e. same (matches table keys e.0) e) m sorted
  where
    same : (b : Bool) (e : Key × Row) → (cond {A = Key × Row} b (e.0, set_all sets (full_row table e.1)) e).0 ≡ e.0
    same true e = refl
    same false e = refl

pub sorted_deleted : (table : Table) (keys : Keys) (m : State) → Sorted m → Sorted (delete_rows table keys m)
sorted_deleted table keys m sorted = sorted_filtered (λ e. not (matches table keys e.0)) m sorted

sorted_all : (m es : State) → Sorted m → Sorted (insert_all m es)
sorted_all m [] sorted = sorted
sorted_all m (e ∷ es) sorted = sorted_all (insert_entry key_cmp m e.0 e.1) es (sorted_insert key_cmp_total m e.0 e.1 sorted)

pub sorted_portion : (table : Table) (p : Period) (keys : Keys) (cut : Span) (sets : Option (List Set)) (m : State) → Sorted m → Sorted (change_portion table p keys cut sets m)
sorted_portion table p keys cut sets m sorted =
    sorted_all (not_taken table p keys cut m) (all_left table p keys cut sets m) (sorted_filtered (λ e. not (is_taken table p keys cut e)) m sorted)
