-- What the calls of a transaction answer, for every list of changes that its view stands for.
use Rattle.std.proofs.Common.{◌≡◌, ℕ, ◌≤◌, Bool, true, false, cond, ◌&&◌, T, List, [], ◌∷◌, Option, Some, Result, Ok, Err, OnOk, OnErr, refl, sym, ap, subst, ◌∙◌, filter, filter_map, length, if◌then◌else◌, nat_lt, All}
use Rattle.std.proofs.lemmas.Bool.{and_parts}
use Rattle.std.proofs.lemmas.List.{length-map}
use Rattle.std.proofs.lemmas.List.Elements.{All-from_recursion, recursion_from_All}
use Rattle.std.specs.Ordering.{match_ordering}
use Rattle.std.specs.declared.cmp.Ordering.TheVariants.{Less, Equal, Greater}
use Rattle.std.specs.BTreeMap.{insert_entry}
use Rattle.std.specs.Map.{keys_of}
use Rattle.std.specs.FinMap.{is_sorted}
use Rattle.std.specs.FinMap.Entries.{is_sorted-where_key}
use Rattle.std.specs.List.{AllByRecursion}
use Rattle.std.specs.List.Sorted.{IsStrictlySortedBy}
use Rattle.values.specs.declared.key.Key.{Key}
use Rattle.values.specs.declared.table.Table.{Table}
use Rattle.values.specs.declared.query.Keys.{Keys}
use Rattle.values.specs.declared.refusal.Refusal.{Refusal}
use Rattle.values.specs.declared.refusal.Refusal.TheVariants.{TooManyWrites}
use Rattle.values.specs.Order.{key_cmp}
use Rattle.values.specs.Log.{State, Net, Row, Changes, apply_net, row_at}
use Rattle.values.specs.RowsAfter.{rows_after}
use Rattle.values.specs.Tables.{Schema, table_at}
use Rattle.values.specs.Writes.{Written, write_keys, most_written, add_keys}
use Rattle.values.specs.Versions.{matches}
use Rattle.values.specs.KeyReading.{IsKeyOf}
use Rattle.values.specs.Events.{event_cmp, events_of, AreKeysIn}
use Rattle.keyrange.specs.declared.range.KeyRange.{KeyRange}
use Rattle.keyrange.specs.Range.{is_key_in}
use Rattle.eventlist.specs.Listing.{standing, stands_at}
use Rattle.staging.proofs.ViewKeyTable.{is_of_table}
use Rattle.tsbtree.specs.View.{events, TreeState}
use Rattle.staging.specs.View.{Holds}
use Rattle.staging.specs.Own.{Reads, rows_seen, own, net_over}
use Rattle.staging.specs.Staged.{put_all, put_answer, row_in, net_in}
use Rattle.staging.proofs.ViewNarrowed.{in_search, narrowed, others, out_of_range}
use Rattle.searchrange.specs.SearchRange.{range_of_table, Covers, IsWithin}
use Rattle.searchrange.specs.Search.{IsInSearch, entry_taken}
use Rattle.staging.proofs.StagedEntries.{sorted_from, sorted_to, apply-filter, apply-put_all, keys_put_all}
use Rattle.staging.proofs.ViewBridge.{are_seen, sorted_base, key_in, net_is, seen_is}
use Rattle.staging.proofs.StagedSeen.{base_is}

-- ---- what is read of a view

-- the events that stand in the range of a search are of its table
pub stand_in_search : (schema : Schema) (table : Table) (range : KeyRange) (view : TreeState) (t : ℕ) (m : Changes) → IsWithin range (range_of_table table.number) → table_at schema table.number ≡ Some table → Holds schema view m
    → All (λ e. IsInSearch table range e.key) (standing (events view) (is_key_in range) t)
stand_in_search schema table range view t m within is_table held =
    subst (λ es. All (λ e. IsInSearch table range e.key) (standing es (is_key_in range) t)) (sym held.events_are)
    (All-from_recursion (λ e. IsInSearch table range e.key) (standing (events_of m) (is_key_in range) t)
    (in_search schema table range within is_table (λ e. is_key_in range e.key && stands_at (events_of m) t e) (λ e h. (and_parts (is_key_in range e.key) (stands_at (events_of m) t e) h).0) m held.keys))

-- the rows of the events that stand in the range of a search and that it takes
pub taken_of_view : (schema : Schema) (table : Table) (keys : Keys) (range : KeyRange) (view : TreeState) (t : ℕ) (m : Changes) (w : Net) → Reads schema table view w m → keys.table ≡ table.number → Covers table keys range
    → IsStrictlySortedBy event_cmp (events view) → All (λ e. e.at ≤ t) (events view) → filter_map (entry_taken table keys) (standing (events view) (is_key_in range) t) ≡ filter (λ e. matches table keys e.0) (rows_after [] m)
taken_of_view schema table keys range view t m w reads same covers sorted upto =
    ap (λ es. filter_map (entry_taken table keys) (standing es (is_key_in range) t)) reads.held.events_are
    ∙ narrowed table keys (is_key_in range) t (events_of m) (events_of m) (out_of_range schema table keys range covers reads.is_table m reads.held.keys)
    ∙ sym (narrowed table keys (is_of_table table.number) t (events_of m) (events_of m) (others table keys (events_of m)))
    ∙ base_is schema table keys t m reads.is_table same (are_seen schema view t m reads.held sorted upto)

-- are in order by key
pub taken_ordered : (table : Table) (keys : Keys) (m : Changes) (found : State) → found ≡ filter (λ e. matches table keys e.0) (rows_after [] m) → IsStrictlySortedBy key_cmp (keys_of found)
taken_ordered table keys m found is = subst (λ (s : State). IsStrictlySortedBy key_cmp (keys_of s)) (sym is) (sorted_to (filter (λ e. matches table keys e.0) (rows_after [] m)) (is_sorted-where_key key_cmp (matches table keys) (rows_after [] m) (sorted_base m)))

-- and with the writes that it takes over them are the rows that the transaction sees
pub rows_of_view : (table : Table) (keys : Keys) (m : Changes) (w : Net) (found : State) → found ≡ filter (λ e. matches table keys e.0) (rows_after [] m) → IsStrictlySortedBy key_cmp (keys_of w)
    → apply_net found (filter (λ c. matches table keys c.0) w) ≡ filter (λ e. matches table keys e.0) (rows_seen m w)
rows_of_view table keys m w found is ordered =
    ap (λ s. apply_net s (filter (λ c. matches table keys c.0) w)) is ∙ apply-filter (matches table keys) w (rows_after [] m) (sorted_base m) (sorted_from w ordered)

pub row_of_view : (schema : Schema) (table : Table) (view : TreeState) (t : ℕ) (m : Changes) (w : Net) (key : Key) → Reads schema table view w m → IsKeyOf table key → IsStrictlySortedBy event_cmp (events view) → All (λ e. e.at ≤ t) (events view)
    → IsStrictlySortedBy key_cmp (keys_of w) → row_in (events view) t w key ≡ row_at (rows_seen m w) key
row_of_view schema table view t m w key reads own sorted upto ordered =
    ap (λ es. row_in es t w key) reads.held.events_are
    ∙ seen_is schema t m w key (are_seen schema view t m reads.held sorted upto) (sorted_from w ordered) (key_in schema table key reads.is_table own)

pub net_of_view : (schema : Schema) (view : TreeState) (t : ℕ) (m : Changes) (w : Net) → Holds schema view m → AreKeysIn schema w → IsStrictlySortedBy event_cmp (events view) → All (λ e. e.at ≤ t) (events view) → IsStrictlySortedBy key_cmp (keys_of w)
    → net_in (events view) t w ≡ net_over m w
net_of_view schema view t m w held keys sorted upto ordered =
    ap (λ es. net_in es t w) held.events_are ∙ net_is schema t m w (are_seen schema view t m held sorted upto) (sorted_from w ordered) keys

-- ---- what holds of each key

module _ {X : Type 0} (P : Key → Type 0) where
  pub all_entry : (es : List (Key × X)) (k : Key) (x : X) → P k → AllByRecursion (λ e. P e.0) es → AllByRecursion (λ e. P e.0) (insert_entry key_cmp es k x)
  all_entry [] k x p h = (p, tt)
  all_entry (e ∷ es) k x p h =
      elim (key_cmp k e.0) as (λ o. AllByRecursion (λ e. P e.0) (match_ordering o ((k, x) ∷ e ∷ es) ((e.0, x) ∷ es) (e ∷ insert_entry key_cmp es k x))) [
        | Less ↦ (p, h)
        | Equal ↦ (h.0, h.1)
        | Greater ↦ (h.0, all_entry es k x p h.1)
      ]

  pub all_chosen : (p : Key × X → Bool) (es : List (Key × X)) → AllByRecursion (λ e. P e.0) es → AllByRecursion (λ e. P e.0) (filter p es)
  all_chosen p [] h = tt
  all_chosen p (e ∷ es) h = elim (p e) as (λ b. AllByRecursion (λ e. P e.0) (cond b (e ∷ filter p es) (filter p es))) [ true ↦ (h.0, all_chosen p es h.1) | false ↦ all_chosen p es h.1 ]

module _ (P : Key → Type 0) where
  all_keys : (w : Net) → AllByRecursion (λ c. P c.0) w → AllByRecursion P (keys_of w)
  all_keys [] h = tt
  all_keys (c ∷ w) h = (h.0, all_keys w h.1)

  keys_all : (w : Net) → AllByRecursion P (keys_of w) → AllByRecursion (λ c. P c.0) w
  keys_all [] h = tt
  keys_all (c ∷ w) h = (h.0, keys_all w h.1)

  all_put_all : (cs w : Net) → AllByRecursion (λ c. P c.0) cs → AllByRecursion (λ c. P c.0) w → AllByRecursion (λ c. P c.0) (put_all cs w)
  all_put_all [] w h k = k
  all_put_all (c ∷ cs) w h k = all_put_all cs _ h.1 (all_entry {X = Option Row} P w c.0 c.1 h.0 k)

  pub put_entries : (cs w : Net) → All (λ c. P c.0) cs → All (λ c. P c.0) w → All (λ c. P c.0) (put_all cs w)
  put_entries cs w h k =
      All-from_recursion (λ c. P c.0) (put_all cs w) (all_put_all cs w (recursion_from_All (λ c. P c.0) cs h) (recursion_from_All (λ c. P c.0) w k))

  pub put_keys : (cs w : Net) → All (λ c. P c.0) cs → All P (keys_of w) → All P (keys_of (put_all cs w))
  put_keys cs w h k =
      All-from_recursion P (keys_of (put_all cs w)) (all_keys (put_all cs w) (all_put_all cs w (recursion_from_All (λ c. P c.0) cs h) (keys_all w (recursion_from_All P (keys_of w) k))))

  pub kept_entries : (p : Key × Option Row → Bool) (w : Net) → All (λ c. P c.0) w → All (λ c. P c.0) (filter p w)
  kept_entries p w h = All-from_recursion (λ c. P c.0) (filter p w) (all_chosen {X = Option Row} P p w (recursion_from_All (λ c. P c.0) w h))

  pub kept_keys : (p : Key × Option Row → Bool) (w : Net) → All P (keys_of w) → All P (keys_of (filter p w))
  kept_keys p w h = All-from_recursion P (keys_of (filter p w)) (all_keys (filter p w) (all_chosen {X = Option Row} P p w (keys_all w (recursion_from_All P (keys_of w) h))))

-- ---- what is kept is in order

pub kept_ordered : (p : Key × Option Row → Bool) (w : Net) → IsStrictlySortedBy key_cmp (keys_of w) → IsStrictlySortedBy key_cmp (keys_of (filter p w))
unfolding IsStrictlySortedBy
kept_ordered p [] h = tt
kept_ordered p (c ∷ w) h =
    elim (p c) as (λ b. IsStrictlySortedBy key_cmp (keys_of (cond b (c ∷ filter p w) (filter p w)))) [
      | true ↦ (above w h.0, kept_ordered p w h.1)
      | false ↦ kept_ordered p w h.1
    ]
  where
    above : (ds : Net) → AllByRecursion (λ k. key_cmp c.0 k ≡ Less) (keys_of ds) → AllByRecursion (λ k. key_cmp c.0 k ≡ Less) (keys_of (filter p ds))
    above [] h = tt
    above (d ∷ ds) h =
        elim (p d) as (λ b. AllByRecursion (λ k. key_cmp c.0 k ≡ Less) (keys_of (cond b (d ∷ filter p ds) (filter p ds)))) [ true ↦ (h.0, above ds h.1) | false ↦ above ds h.1 ]

-- ---- what is put

-- a write of changes, over what was seen
pub put_is : (m : Changes) (cs : Net) (count : ℕ) (w new : Net) (r : Result ℕ Refusal) → T (is_sorted key_cmp w) → r ≡ put_answer count cs w → OnOk r (new ≡ put_all cs w) → OnErr r (new ≡ w)
    → ◌≡◌ {A = Written} (r, own m new) (write_keys (keys_of cs) count (apply_net (rows_seen m w) cs) (own m w))
put_is m cs count w new r sorted is ok err = by (nat_lt most_written (length (put_all cs w))) refl
  where
    same_length : length (put_all cs w) ≡ length (add_keys (keys_of cs) (keys_of w))
    same_length = sym (length-map (put_all cs w) (λ c. c.0)) ∙ ap length (keys_put_all cs w)

    own_put : own m (put_all cs w) ≡ record { rows = apply_net (rows_seen m w) cs; written = add_keys (keys_of cs) (keys_of w) }
    own_put = λ i. record { rows = apply-put_all cs w (rows_after [] m) (sorted_base m) sorted i; written = keys_put_all cs w i }

    at : (b : Bool) → nat_lt most_written (length (put_all cs w)) ≡ b → write_keys (keys_of cs) count (apply_net (rows_seen m w) cs) (own m w)
        ≡ (if b then (Err TooManyWrites, own m w) else (Ok count, record { rows = apply_net (rows_seen m w) cs; written = add_keys (keys_of cs) (keys_of w) }))
    at b h = ap (λ (b : Bool). if b then (Err TooManyWrites, own m w) else (Ok count, record { rows = apply_net (rows_seen m w) cs; written = add_keys (keys_of cs) (keys_of w) })) (ap (nat_lt most_written) (sym same_length) ∙ h)

    answer : (b : Bool) → nat_lt most_written (length (put_all cs w)) ≡ b → r ≡ (if b then Err TooManyWrites else Ok count)
    answer b h = is ∙ ap (λ (b : Bool). if b then Err TooManyWrites else Ok count) h

    by : (b : Bool) → nat_lt most_written (length (put_all cs w)) ≡ b → ◌≡◌ {A = Written} (r, own m new) (write_keys (keys_of cs) count (apply_net (rows_seen m w) cs) (own m w))
    by true h =
        let same : new ≡ w = subst (λ r. OnErr r (new ≡ w)) (answer true h) err in
        (λ i. (answer true h i, own m (same i))) ∙ sym (at true h)
    by false h =
        let same : new ≡ put_all cs w = subst (λ r. OnOk r (new ≡ put_all cs w)) (answer false h) ok in
        (λ i. (answer false h i, (ap (own m) same ∙ own_put) i)) ∙ sym (at false h)
