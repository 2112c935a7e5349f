-- The rows that a transaction sees fit their tables, and those of keys that it wrote are as wide as these.
use Rattle.std.proofs.Common.{◌≡◌, ℕ, Bool, true, false, cond, ◌||◌, T, List, [], ◌∷◌, ◌++◌, Option, Some, None, ◌⊎◌, inl, inr, refl, sym, ap, subst, ◌∙◌, not, length, map, nat_lt}
use Rattle.std.specs.Prelude.{◌==◌, Ok, Err, filter, if◌then◌else◌}
use Rattle.std.specs.BTreeMap.{insert_entry}
use Rattle.std.specs.BTreeSet.{insert_key}
use Rattle.std.specs.FinMap.{is_sorted}
use Rattle.std.specs.FinMap.Entries.{below_all}
use Rattle.std.specs.List.{flat_map, list_any}
use Rattle.std.specs.Option.{ForSome, option_map}
use Rattle.std.specs.Ordering.{is_lt, match_ordering}
use Rattle.std.specs.declared.cmp.Ordering.{Ordering}
use Rattle.std.specs.declared.cmp.Ordering.TheVariants.{Less, Equal, Greater}
use Rattle.values.specs.declared.key.Key.{Key}
use Rattle.values.specs.declared.period.Period.{Period}
use Rattle.values.specs.declared.period.Span.{Span}
use Rattle.values.specs.declared.query.Keys.{Keys}
use Rattle.values.specs.declared.query.Set.{Set}
use Rattle.values.specs.declared.refusal.Refusal.TheVariants.{DuplicateKey, Overlap, TooManyWrites}
use Rattle.values.specs.declared.table.Table.{Table}
use Rattle.values.specs.Each.{Each}
use Rattle.values.specs.Fit.{first_of, sets_fault}
use Rattle.values.specs.Log.{Row, State, row_at}
use Rattle.values.specs.Order.{key_cmp, is_key}
use Rattle.values.specs.Period.{before, behind, common, is_span, span_of, with_span}
use Rattle.values.specs.Portion.{all_left, change_portion, changed, is_taken, not_taken, piece, pieces, portion_in, portion_keys, taken, with_start}
use Rattle.values.specs.TableRules.{HasPeriod}
use Rattle.values.specs.Tables.{Schema, full_row, table_at}
use Rattle.values.specs.Versions.{matches}
use Rattle.values.specs.Write.{rows_refusal}
use Rattle.values.specs.Writes.{Own, Written, add_keys, delete_from, delete_rows, duplicate, full_rows, insert_all, insert_into, insert_rows, key_of, keyed, matching_keys, most_written, overlapping, set_all, update_in, update_rows, write_keys}
use Rattle.values.proofs.LogMaps.{lookup-insert_entry, sorted_insert}
use Rattle.values.proofs.OrderTotal.{both, first, key_cmp_total, second}
use Rattle.periods.proofs.NoOverlapApart.{one_key, or_first, or_none, or_second}
use Rattle.periods.proofs.NoOverlapColumns.{each_to}
use Rattle.periods.proofs.NoOverlapPieces.{all_inserted, and_first, each-append, each_kept, one_table, the_table}
use Rattle.dump_steps.proofs.DumpRows.{AreKeyColumns, IsRowOf}
use Rattle.dump_steps.proofs.DumpRowsSet.{IsFullRow, IsSet, all_set, are_sets, full_of, inserted_rows, piece_of}
use Rattle.dump_steps.proofs.DumpWrites.{IsRowIn, none_above, other_by, row_found}

-- ---- keys that were added

added_key : (q k : Key) (ls : List Key) → list_any (is_key q) (insert_key key_cmp ls k) ≡ true → (is_key q k || list_any (is_key q) ls) ≡ true
added_key q k [] has = has
added_key q k (l ∷ ls) has = by (key_cmp k l) refl has (added_key q k ls)
  where
    apart : (a b c : Bool) → (b || c) ≡ true → (a || (b || c)) ≡ true
    apart true b c e = refl
    apart false b c e = e

    turned : (a b c : Bool) → (a || c) ≡ true → (a || (b || c)) ≡ true
    turned true b c e = refl
    turned false true c e = refl
    turned false false c e = e

    by : (o : Ordering) → key_cmp k l ≡ o → list_any (is_key q) (match_ordering o (k ∷ l ∷ ls) (l ∷ ls) (l ∷ insert_key key_cmp ls k)) ≡ true
        → (list_any (is_key q) (insert_key key_cmp ls k) ≡ true → (is_key q k || list_any (is_key q) ls) ≡ true)
        → (is_key q k || list_any (is_key q) (l ∷ ls)) ≡ true
    by Less at has rest = has
    by Equal at has rest = apart (is_key q k) (is_key q l) (list_any (is_key q) ls) has
    by Greater at has rest = greater (is_key q l) has
      where
        last : (a b : Bool) → (a || (true || b)) ≡ true
        last true b = refl
        last false b = refl

        greater : (b : Bool) → (b || list_any (is_key q) (insert_key key_cmp ls k)) ≡ true → (is_key q k || (b || list_any (is_key q) ls)) ≡ true
        greater true has = last (is_key q k) (list_any (is_key q) ls)
        greater false has = rest has

-- a key among those that are added is among the new or among those before
added_keys : (q : Key) (ks ls : List Key) → list_any (is_key q) (add_keys ks ls) ≡ true → list_any (is_key q) ks ≡ false → list_any (is_key q) ls ≡ true
added_keys q [] ls has none = has
added_keys q (k ∷ ks) ls has none =
    ap (λ b. b || list_any (is_key q) ls) (sym (or_first (is_key q k) _ none)) ∙ added_key q k ls (added_keys q ks (insert_key key_cmp ls k) has (or_second (is_key q k) _ none))

-- ---- rows in order

abbrev pub Sorted : State → Type 0
Sorted m = T (is_sorted key_cmp m)

module _ (test : (Key × Row) → Bool) where
  below_some : (k : Key) (m : State) → T (below_all key_cmp k m) → T (below_all key_cmp k (filter test m))
  below_some k [] below = tt
  below_some k (e ∷ m) below = by (test e) (below_some k m (second (is_lt (key_cmp k e.0)) _ below))
    where
      by : (b : Bool) → T (below_all key_cmp k (filter test m)) → T (below_all key_cmp k (cond b (e ∷ filter test m) (filter test m)))
      by true rest = both (is_lt (key_cmp k e.0)) _ (first (is_lt (key_cmp k e.0)) _ below) rest
      by false rest = rest

  some_sorted : (m : State) → Sorted m → Sorted (filter test m)
  some_sorted [] sorted = tt
  some_sorted (e ∷ m) sorted = by (test e) (some_sorted m (second (below_all key_cmp e.0 m) _ sorted))
    where
      by : (b : Bool) → Sorted (filter test m) → Sorted (cond b (e ∷ filter test m) (filter test m))
      by true rest = both (below_all key_cmp e.0 (filter test m)) _ (below_some e.0 m (first (below_all key_cmp e.0 m) _ sorted)) rest
      by false rest = rest

all_sorted : (m es : State) → Sorted m → Sorted (insert_all m es)
all_sorted m [] sorted = sorted
all_sorted m (e ∷ es) sorted = all_sorted (insert_entry key_cmp m e.0 e.1) es (sorted_insert key_cmp_total m e.0 e.1 sorted)

module _ (test : Key → Bool) (f : Row → Row) where
  abbrev change : Key × Row → Key × Row
  change e = if test e.0 then (e.0, f e.1) else e

  same_key : (b : Bool) (e : Key × Row) → (cond {A = Key × Row} b (e.0, f e.1) e).0 ≡ e.0
  same_key true e = refl
  same_key false e = refl

  below_changed : (k : Key) (m : State) → T (below_all key_cmp k m) → T (below_all key_cmp k (map change m))
  below_changed k [] below = tt
  below_changed k (e ∷ m) below =
      both (is_lt (key_cmp k (change e).0)) _ (subst (λ l. T (is_lt (key_cmp k l))) (sym (same_key (test e.0) e)) (first (is_lt (key_cmp k e.0)) _ below))
      (below_changed k m (second (is_lt (key_cmp k e.0)) _ below))

  changed_sorted : (m : State) → Sorted m → Sorted (map change m)
  changed_sorted [] sorted = tt
  changed_sorted (e ∷ m) sorted =
      both (below_all key_cmp (change e).0 (map change m)) _
      (subst (λ k. T (below_all key_cmp k (map change m))) (sym (same_key (test e.0) e)) (below_changed e.0 m (first (below_all key_cmp e.0 m) _ sorted)))
      (changed_sorted m (second (below_all key_cmp e.0 m) _ sorted))

  -- ---- the row of a key

  changed_row : (m : State) (q : Key) (b : Bool) → test q ≡ b → row_at (map change m) q ≡ option_map (λ r. if b then f r else r) (row_at m q)
  changed_row [] q b is = refl
  changed_row (e ∷ m) q b is =
      (λ i. cond (is_key q (same_key (test e.0) e i)) (Some (change e).1) (row_at (map change m) q))
      ∙ by (is_key q e.0) refl (changed_row m q b is)
    where
      value : (c : Bool) → (cond {A = Key × Row} c (e.0, f e.1) e).1 ≡ (if c then f e.1 else e.1)
      value true = refl
      value false = refl

      by : (c : Bool) → is_key q e.0 ≡ c → row_at (map change m) q ≡ option_map (λ r. if b then f r else r) (row_at m q)
          → cond c (Some (change e).1) (row_at (map change m) q) ≡ option_map (λ r. if b then f r else r) (cond c (Some e.1) (row_at m q))
      by true its rest = ap Some (value (test e.0) ∙ ap (λ c. if c then f e.1 else e.1) (ap test (sym (one_key q e.0 its)) ∙ is))
      by false its rest = rest

-- the keys of entries that pass a test are none that does not
none_passed : (test : Key → Bool) (m : State) (q : Key) → test q ≡ false → list_any (is_key q) (map (λ e. e.0) (filter (λ (e : Key × Row). test e.0) m)) ≡ false
none_passed test [] q is = refl
none_passed test (e ∷ m) q is = by (test e.0) refl (none_passed test m q is)
  where
    other : (b : Bool) → is_key q e.0 ≡ b → test e.0 ≡ true → b ≡ false
    other true its passed = let never : true ≡ false = sym passed ∙ ap test (sym (one_key q e.0 its)) ∙ is in never
    other false its passed = refl

    by : (b : Bool) → test e.0 ≡ b → list_any (is_key q) (map (λ e. e.0) (filter (λ (e : Key × Row). test e.0) m)) ≡ false
        → list_any (is_key q) (map (λ e. e.0) (cond b (e ∷ filter (λ (e : Key × Row). test e.0) m) (filter (λ (e : Key × Row). test e.0) m))) ≡ false
    by true passed rest = or_none _ _ (other (is_key q e.0) refl passed) rest
    by false passed rest = rest

module _ (test : (Key × Row) → Bool) where
  abbrev stay : State → State
  stay m = filter (λ e. not (test e)) m

  -- an entry that stays was there, and is none of those that go
  record Stays (m : State) (q : Key) (row : Row) : Type 0 where
    was : row_at m q ≡ Some row
    none : list_any (is_key q) (map (λ e. e.0) (filter test m)) ≡ false

  none_in : (k : Key) (m : State) → T (below_all key_cmp k m) → list_any (is_key k) (map (λ e. e.0) (filter test m)) ≡ false
  none_in k [] below = refl
  none_in k (e ∷ m) below = by (test e) (none_in k m (second (is_lt (key_cmp k e.0)) _ below))
    where
      by : (b : Bool) → list_any (is_key k) (map (λ e. e.0) (filter test m)) ≡ false → list_any (is_key k) (map (λ e. e.0) (cond b (e ∷ filter test m) (filter test m))) ≡ false
      by true rest = or_none _ _ (other_by (key_cmp k e.0) (first (is_lt (key_cmp k e.0)) _ below)) rest
      by false rest = rest

  stays : (m : State) (q : Key) (row : Row) → Sorted m → row_at (stay m) q ≡ Some row → Stays m q row
  stays [] q row sorted at = cc
  stays (e ∷ m) q row sorted at = by (test e) (is_key q e.0) refl refl at (λ at. stays m q row (second (below_all key_cmp e.0 m) _ sorted) at)
    where
      after : is_key q e.0 ≡ true → T (below_all key_cmp q m)
      after is = subst (λ k. T (below_all key_cmp k m)) (sym (one_key q e.0 is)) (first (below_all key_cmp e.0 m) _ sorted)

      taken_is : (b : Bool) → test e ≡ b → list_any (is_key q) (map (λ e. e.0) (cond b (e ∷ filter test m) (filter test m))) ≡ false → list_any (is_key q) (map (λ e. e.0) (filter test (e ∷ m))) ≡ false
      taken_is b tested none = ap (λ b. list_any (is_key q) (map (λ e. e.0) (cond b (e ∷ filter test m) (filter test m)))) tested ∙ none

      by : (b c : Bool) → test e ≡ b → is_key q e.0 ≡ c → row_at (cond (not b) (e ∷ stay m) (stay m)) q ≡ Some row → (row_at (stay m) q ≡ Some row → Stays m q row) → Stays (e ∷ m) q row
      by true true tested is at rest =
          let never : ◌≡◌ {A = Option Row} None (Some row) = sym (none_above q (stay m) (below_some (λ e. not (test e)) q m (after is))) ∙ at in cc
      by true false tested is at rest =
          let behind = rest at in
          record {
            was = ap (λ b. cond b (Some e.1) (row_at m q)) is ∙ behind.was;
            none = taken_is true tested (or_none _ _ is behind.none);
          }
      by false true tested is at rest = record {
        was = ap (λ b. cond b (Some e.1) (row_at m q)) is ∙ sym (ap (λ b. cond b (Some e.1) (row_at (stay m) q)) is) ∙ at;
        none = taken_is false tested (none_in q m (after is));
      }
      by false false tested is at rest =
          let behind = rest (sym (ap (λ b. cond b (Some e.1) (row_at (stay m) q)) is) ∙ at) in
          record {
            was = ap (λ b. cond b (Some e.1) (row_at m q)) is ∙ behind.was;
            none = taken_is false tested behind.none;
          }

any_none : (test : Key → Bool) (xs ys : List Key) → list_any test xs ≡ false → list_any test ys ≡ false → list_any test (xs ++ ys) ≡ false
any_none test [] ys a b = b
any_none test (x ∷ xs) ys a b = or_none _ _ (or_first (test x) _ a) (any_none test xs ys (or_second (test x) _ a) b)

-- ---- what statements leave

-- a table of these, with its key and its period of its columns
pub record IsTableNow (now : Schema) (t : Table) : Type 0 where
  pub found : table_at now t.number ≡ Some t
  pub columns : AreKeyColumns t (length t.columns) t.key
  pub has : ForSome t.period (HasPeriod t)

module _ (now : Schema) where
  -- the row is as wide as its table
  abbrev pub IsFull : Key → Row → Type 0
  IsFull k row = (t : Table) → table_at now k.table ≡ Some t → length row ≡ length t.columns

  pub record Kept (o : Own) : Type 0 where
    pub sorted : Sorted o.rows
    pub rows : Each (IsRowIn now) o.rows
    pub full : (q : Key) (row : Row) → list_any (is_key q) o.written ≡ true → row_at o.rows q ≡ Some row → IsFull q row

  -- each row is as wide as its table, or was there and its key was not written
  record Leaves (m rows : State) (keys : List Key) : Type 0 where
    sorted : Sorted rows
    rows_are : Each (IsRowIn now) rows
    full : (q : Key) (row : Row) → row_at rows q ≡ Some row → IsFull q row ⊎ ((row_at m q ≡ Some row) × (list_any (is_key q) keys ≡ false))

  written_kept : (keys : List Key) (count : ℕ) (rows : State) (o : Own) → Leaves o.rows rows keys → Kept o → Kept (write_keys keys count rows o).1
  written_kept keys count rows o leaves kept = by (nat_lt most_written (length (add_keys keys o.written)))
    where
      by : (b : Bool) → Kept (cond {A = Written} b (Err TooManyWrites, o) (Ok count, record { rows = rows; written = add_keys keys o.written })).1
      by true = kept
      by false = record {
        sorted = leaves.sorted;
        rows = leaves.rows_are;
        full = λ q row has at. elim (leaves.full q row at) [
          | inl full ↦ full
          | inr old ↦ kept.full q row (added_keys q keys o.written has old.1) old.0
        ];
      }

  module _ (t : Table) (is : IsTableNow now t) where
    full_in : (k : Key) (row : Row) → IsFullRow t k row → IsFull k row
    full_in k row full u found =
        full.wide ∙ ap (λ (t : Table). length t.columns) (the_table t u (sym is.found ∙ ap (table_at now) (sym (ap (λ (k : Key). k.table) full.row_is.key_is)) ∙ found))

    row_in : (k : Key) (row : Row) → IsFullRow t k row → IsRowIn now (k, row)
    row_in k row full = (t, (ap (table_at now) (ap (λ (k : Key). k.table) full.row_is.key_is) ∙ is.found, full.row_is))

    -- of rows of the tables, one at a key of the table is its
    its_row : (e : Key × Row) → e.0.table ≡ t.number → IsRowIn now e → IsRowOf t e
    its_row e its row = subst (λ t. IsRowOf t e) (the_table row.0 t (sym row.1.0 ∙ ap (table_at now) its ∙ is.found)) row.1.1

    -- ---- rows that are inserted in turn

    abbrev AreFull : State → Type 0
    AreFull es = Each (λ d. IsFullRow t d.0 d.1) es

    all_full : (es m : State) (q : Key) (row : Row) → AreFull es → row_at (insert_all m es) q ≡ Some row → IsFull q row ⊎ ((row_at m q ≡ Some row) × (list_any (is_key q) (map (λ e. e.0) es) ≡ false))
    all_full [] m q row full at = inr (at, refl)
    all_full (d ∷ es) m q row full at = elim (all_full es (insert_entry key_cmp m d.0 d.1) q row full.1 at) [
      | inl new ↦ inl new
      | inr old ↦ by (is_key q d.0) refl (sym (lookup-insert_entry key_cmp_total q d.0 d.1 m) ∙ old.0) old.1
    ]
      where
        the_row : (r s : Row) → ◌≡◌ {A = Option Row} (Some r) (Some s) → r ≡ s
        the_row r s e = cc

        by : (b : Bool) → is_key q d.0 ≡ b → cond b (Some d.1) (row_at m q) ≡ Some row → list_any (is_key q) (map (λ e. e.0) es) ≡ false
            → IsFull q row ⊎ ((row_at m q ≡ Some row) × (list_any (is_key q) (map (λ e. e.0) (d ∷ es)) ≡ false))
        by true same at none = inl (subst (λ k. IsFull k row) (sym (one_key q d.0 same)) (subst (IsFull d.0) (the_row d.1 row at) (full_in d.0 d.1 full.0)))
        by false other at none = inr (at, or_none _ _ other none)

    each_full : (es : State) → AreFull es → Each (IsRowIn now) es
    each_full es full = each_to (λ d. IsFullRow t d.0 d.1) (IsRowIn now) (λ d f. row_in d.0 d.1 f) es full

    -- ---- INSERT

    keyed_full : (rows : List Row) → Each (λ row. IsFullRow t (key_of t row) row) rows → AreFull (map (keyed t) rows)
    keyed_full [] full = tt
    keyed_full (row ∷ rows) full = (full.0, keyed_full rows full.1)

    keyed_keys : (rows : List Row) → map (λ e. e.0) (map (keyed t) rows) ≡ map (key_of t) rows
    keyed_keys [] = refl
    keyed_keys (row ∷ rows) = ap (λ l. key_of t row ∷ l) (keyed_keys rows)

    insert_leaves : (rows : List Row) (o : Own) → Each (λ row. IsFullRow t (key_of t row) row) rows → Kept o → Leaves o.rows (insert_rows t rows o.rows) (map (key_of t) rows)
    insert_leaves rows o full kept =
        let are = keyed_full rows full in
        record {
          sorted = all_sorted o.rows (map (keyed t) rows) kept.sorted;
          rows_are = all_inserted (IsRowIn now) o.rows (map (keyed t) rows) kept.rows (each_full (map (keyed t) rows) are);
          full = λ q row at. subst (λ ks. IsFull q row ⊎ ((row_at o.rows q ≡ Some row) × (list_any (is_key q) ks ≡ false))) (keyed_keys rows) (all_full (map (keyed t) rows) o.rows q row are at);
        }

    pub insert_kept : (rows : List Row) (o : Own) → rows_refusal t rows ≡ None → Kept o → Kept (insert_into t rows o).1
    insert_kept rows o fits kept = by (duplicate t rows o.rows) (overlapping t rows o.rows)
      where
        by : (d v : Option Key) → Kept (elim (first_of (option_map DuplicateKey d) (option_map Overlap v)) as (λ _. Written) [
          | Some refusal ↦ (Err refusal, o)
          | None ↦ write_keys (map (key_of t) rows) (length rows) (insert_rows t rows o.rows) o
        ]).1
        by (Some key) v = kept
        by None (Some key) = kept
        by None None = written_kept (map (key_of t) rows) (length rows) (insert_rows t rows o.rows) o (insert_leaves rows o (inserted_rows t rows fits) kept) kept

    -- ---- UPDATE and DELETE

    module _ (keys : Keys) (same : keys.table ≡ t.number) where
      met_own : (k : Key) → matches t keys k ≡ true → k.table ≡ t.number
      met_own k met = one_table k.table keys.table t.number same (and_first (k.table == keys.table) _ met)

      updated : (sets : List Set) → Each (IsSet t) sets → (k : Key) (row : Row) → matches t keys k ≡ true → IsRowIn now (k, row) → IsFullRow t k (set_all sets (full_row t row))
      updated sets are k row met row_is = all_set t is.columns is.has k sets (full_row t row) (full_of t k row (its_row (k, row) (met_own k met) row_is)) are

      update_each : (sets : List Set) → Each (IsSet t) sets → (m : State) → Each (IsRowIn now) m → Each (IsRowIn now) (update_rows t keys sets m)
      update_each sets are [] rows = tt
      update_each sets are (e ∷ m) rows = (by (matches t keys e.0) refl, update_each sets are m rows.1)
        where
          by : (b : Bool) → matches t keys e.0 ≡ b → IsRowIn now (cond {A = Key × Row} b (e.0, set_all sets (full_row t e.1)) e)
          by true met = row_in e.0 (set_all sets (full_row t e.1)) (updated sets are e.0 e.1 met rows.0)
          by false met = rows.0

      update_full : (sets : List Set) → Each (IsSet t) sets → (m : State) → Each (IsRowIn now) m → (q : Key) (row : Row) → row_at (update_rows t keys sets m) q ≡ Some row
          → IsFull q row ⊎ ((row_at m q ≡ Some row) × (list_any (is_key q) (matching_keys t keys m) ≡ false))
      update_full sets are m rows q row at = by (matches t keys q) refl
        where
          the_row : (r s : Row) → ◌≡◌ {A = Option Row} (Some r) (Some s) → r ≡ s
          the_row r s e = cc

          set_found : matches t keys q ≡ true → (o : Option Row) → row_at m q ≡ o → ◌≡◌ {A = Option Row} (option_map (λ r. set_all sets (full_row t r)) o) (Some row) → IsFull q row
          set_found met None was is = cc
          set_found met (Some r) was is = subst (IsFull q) (the_row (set_all sets (full_row t r)) row is) (full_in q (set_all sets (full_row t r)) (updated sets are q r met (row_found now m q r rows was)))

          unchanged : (o : Option Row) → option_map (λ r. r) o ≡ o
          unchanged None = refl
          unchanged (Some r) = refl

          by : (b : Bool) → matches t keys q ≡ b → IsFull q row ⊎ ((row_at m q ≡ Some row) × (list_any (is_key q) (matching_keys t keys m) ≡ false))
          by true met = inl (set_found met (row_at m q) refl (sym (changed_row (matches t keys) (λ r. set_all sets (full_row t r)) m q true met) ∙ at))
          by false met =
              inr (sym (changed_row (matches t keys) (λ r. set_all sets (full_row t r)) m q false met ∙ unchanged (row_at m q)) ∙ at, none_passed (matches t keys) m q met)

      pub update_kept : (sets : List Set) (o : Own) → sets_fault t [] sets ≡ None → Kept o → Kept (update_in t keys sets o).1
      update_kept sets o fits kept =
          let are = are_sets t [] sets fits in
          written_kept (matching_keys t keys o.rows) (length (matching_keys t keys o.rows)) (update_rows t keys sets o.rows) o
          (record {
            sorted = changed_sorted (matches t keys) (λ r. set_all sets (full_row t r)) o.rows kept.sorted;
            rows_are = update_each sets are o.rows kept.rows;
            full = update_full sets are o.rows kept.rows;
          }) kept

      pub delete_kept : (o : Own) → Kept o → Kept (delete_from t keys o).1
      delete_kept o kept =
          written_kept (matching_keys t keys o.rows) (length (matching_keys t keys o.rows)) (delete_rows t keys o.rows) o
          (record {
            sorted = some_sorted (λ e. not (matches t keys e.0)) o.rows kept.sorted;
            rows_are = each_kept (IsRowIn now) (λ e. not (matches t keys e.0)) o.rows kept.rows;
            full = λ q row at. let was = stays (λ e. matches t keys e.0) o.rows q row kept.sorted at in inr (was.was, was.none);
          }) kept

      -- ---- portions

      piece_full : (p : Period) (k : Key) (row : Row) (s : Span) → t.period ≡ Some p → IsFullRow t k row → AreFull (piece p k row s)
      piece_full p k row s at full = by (is_span s) refl
        where
          by : (b : Bool) → is_span s ≡ b → AreFull (if b then (with_start k s.from, with_span p s row) ∷ [] else [])
          by true proper = (piece_of t is.columns is.has k row p s at proper full, tt)
          by false proper = tt

      abbrev SetsFit : Option (List Set) → Type 0
      SetsFit None = Unit {0}
      SetsFit (Some sets) = sets_fault t [] sets ≡ None

      pieces_full : (p : Period) (cut : Span) (sets : Option (List Set)) (e : Key × Row) → t.period ≡ Some p → SetsFit sets → IsFullRow t e.0 e.1 → AreFull (pieces p cut sets e)
      pieces_full p cut sets e at fits full =
          each-append (λ d. IsFullRow t d.0 d.1) (piece p e.0 e.1 (before (span_of p e.1) cut)) _
          (piece_full p e.0 e.1 (before (span_of p e.1) cut) at full)
          (each-append (λ d. IsFullRow t d.0 d.1) (elim (changed sets e.1) [ None ↦ [] | Some row ↦ piece p e.0 row (common (span_of p e.1) cut) ]) _
          (by sets fits)
          (piece_full p e.0 e.1 (behind (span_of p e.1) cut) at full))
        where
          by : (sets : Option (List Set)) → SetsFit sets → AreFull (elim (changed sets e.1) [ None ↦ [] | Some row ↦ piece p e.0 row (common (span_of p e.1) cut) ])
          by None fits = tt
          by (Some sets) fits = piece_full p e.0 (set_all sets e.1) (common (span_of p e.1) cut) at (all_set t is.columns is.has e.0 sets e.1 full (are_sets t [] sets fits))

      left_full : (p : Period) (cut : Span) (sets : Option (List Set)) (m : State) → t.period ≡ Some p → SetsFit sets → Each (IsRowIn now) m → AreFull (all_left t p keys cut sets m)
      left_full p cut sets [] at fits rows = tt
      left_full p cut sets (e ∷ m) at fits rows = by (is_taken t p keys cut e) refl (left_full p cut sets m at fits rows.1)
        where
          by : (b : Bool) → is_taken t p keys cut e ≡ b → AreFull (all_left t p keys cut sets m) → AreFull (flat_map (pieces p cut sets) (full_rows t (cond b (e ∷ taken t p keys cut m) (taken t p keys cut m))))
          by true taken_it rest =
              each-append (λ d. IsFullRow t d.0 d.1) (pieces p cut sets (e.0, full_row t e.1)) (all_left t p keys cut sets m)
              (pieces_full p cut sets (e.0, full_row t e.1) at fits (full_of t e.0 e.1 (its_row e (met_own e.0 (and_first (matches t keys e.0) _ taken_it)) rows.0)))
              rest
          by false taken_it rest = rest

      portion_leaves : (p : Period) (cut : Span) (sets : Option (List Set)) (o : Own) → t.period ≡ Some p → SetsFit sets → Kept o → Leaves o.rows (change_portion t p keys cut sets o.rows) (portion_keys t p keys cut sets o.rows)
      portion_leaves p cut sets o at fits kept =
          let left = left_full p cut sets o.rows at fits kept.rows in
          record {
            sorted = all_sorted (not_taken t p keys cut o.rows) (all_left t p keys cut sets o.rows) (some_sorted (λ e. not (is_taken t p keys cut e)) o.rows kept.sorted);
            rows_are = all_inserted (IsRowIn now) (not_taken t p keys cut o.rows) (all_left t p keys cut sets o.rows) (each_kept (IsRowIn now) (λ e. not (is_taken t p keys cut e)) o.rows kept.rows) (each_full (all_left t p keys cut sets o.rows) left);
            full = λ q row there. elim (all_full (all_left t p keys cut sets o.rows) (not_taken t p keys cut o.rows) q row left there) [
              | inl new ↦ inl new
              | inr old ↦
                  let was = stays (is_taken t p keys cut) o.rows q row kept.sorted old.0 in
                  inr (was.was, any_none (is_key q) (map (λ e. e.0) (taken t p keys cut o.rows)) (map (λ e. e.0) (all_left t p keys cut sets o.rows)) was.none old.1)
            ];
          }

      pub portion_kept : (cut : Span) (sets : Option (List Set)) (o : Own) → SetsFit sets → Kept o → Kept (portion_in t keys cut sets o).1
      portion_kept cut sets o fits kept = by t.period refl
        where
          by : (q : Option Period) → t.period ≡ q → Kept (elim q as (λ _. Written) [ None ↦ (Ok 0, o) | Some p ↦ write_keys (portion_keys t p keys cut sets o.rows) (length (taken t p keys cut o.rows)) (change_portion t p keys cut sets o.rows) o ]).1
          by None at = kept
          by (Some p) at =
              written_kept (portion_keys t p keys cut sets o.rows) (length (taken t p keys cut o.rows)) (change_portion t p keys cut sets o.rows) o (portion_leaves p cut sets o at fits kept) kept
