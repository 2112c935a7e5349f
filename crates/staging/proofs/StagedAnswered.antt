-- What INSERT, UPDATE and DELETE answer and leave.
use Rattle.std.proofs.Common.{◌≡◌, ℕ, ◌<◌, ◌≤◌, Bool, true, false, cond, ◌||◌, T, List, [], ◌∷◌, ◌++◌, Option, Some, None, Result, Ok, Err, OnOk, OnErr, refl, sym, ap, subst, ◌∙◌, arith, map, filter, length, is_some, All, get_or, zero, suc}
use Rattle.std.proofs.lemmas.List.{length-map}
use Rattle.std.proofs.lemmas.List.Elements.{All-from_recursion, recursion_from_All, All-weaker}
use Rattle.std.specs.BTreeMap.{is_at}
use Rattle.std.specs.Map.{keys_of, remove_entry}
use Rattle.std.specs.FinMap.{is_sorted}
use Rattle.std.specs.List.{AllByRecursion, list_any}
use Rattle.std.specs.List.Sorted.{IsStrictlySortedBy}
use Rattle.values.specs.declared.key.Key.{Key}
use Rattle.values.specs.Event.{Event}
use Rattle.values.specs.declared.table.Table.{Table}
use Rattle.values.specs.declared.query.Keys.{Keys}
use Rattle.values.specs.declared.query.Set.{Set}
use Rattle.values.specs.declared.refusal.Refusal.{Refusal}
use Rattle.values.specs.declared.refusal.Refusal.TheVariants.{DuplicateKey, Overlap}
use Rattle.values.specs.Order.{key_cmp, is_key}
use Rattle.values.specs.Log.{State, Net, Row, Changes, row_at, set_row, apply_net}
use Rattle.values.specs.RowsAfter.{rows_after}
use Rattle.values.specs.Tables.{Schema, full_row}
use Rattle.values.specs.TableRules.{IsTable}
use Rattle.std.specs.Option.{option_map}
use Rattle.values.specs.Fit.{rows_fault, row_fault, key_fault, first_of}
use Rattle.values.specs.Writes.{Own, Written, write_keys, key_of, insert_into, update_in, delete_from, insert_rows, duplicate, overlapping, duplicate_from, matching_keys, set_all, full_rows}
use Rattle.values.specs.Versions.{matches}
use Rattle.values.specs.KeyEncoding.{IsShortKey}
use Rattle.values.specs.RowEncoding.{IsHeld}
use Rattle.values.specs.KeyReading.{IsKeyOf}
use Rattle.values.specs.Events.{event_cmp, events_of, IsKeyIn, AreKeysIn}
use Rattle.values.proofs.KeyLengths.{first_none}
use Rattle.values.proofs.RowKeys.{fitting_key, keys_are_short}
use Rattle.tsbtree.specs.View.{events, TreeState}
use Rattle.staging.specs.Own.{Reads, rows_seen, own}
use Rattle.staging.specs.Staged.{put_all, put_answer, insertions, updates, deletions, sees, first_seen}
use Rattle.staging.proofs.StagedEntries.{sorted_from, sorted_apply, changed_to, apply-updates, apply-deletions}
use Rattle.staging.proofs.ViewBridge.{are_seen, keyed_changes, sorted_base, sees_is, key_in}
use Rattle.staging.proofs.StagedWide.{updates_wide}
use Rattle.staging.proofs.StagedCalls.{put_is, put_keys, all_entry, all_chosen}

-- ---- the keys of rows that fit

rows_at : (table : Table) (rows : List Row) (i : ℕ) (d : Row) → rows_fault table rows ≡ None → i < length rows → row_fault table (get_or rows i d) ≡ None
rows_at table [] i d h lt = absurd (omega arith)
rows_at table (row ∷ rows) zero d h lt = (first_none (row_fault table row) (rows_fault table rows) h).0
rows_at table (row ∷ rows) (suc i) d h lt = rows_at table rows i d (first_none (row_fault table row) (rows_fault table rows) h).1 (omega arith)

pub own_of_row : (table : Table) (rows : List Row) (i : ℕ) (row : Row) (k : Key) → IsTable table.number table → rows_fault table rows ≡ None → i < length rows → row ≡ get_or rows i row → k ≡ key_of table row → All IsHeld k.parts → IsKeyOf table k
own_of_row table rows i row k is fits lt at same held = record {
  own = ap (λ (k : Key). k.table) same;
  fits =
      ap (λ (k : Key). key_fault table k.parts) same
      ∙ fitting_key table.number table row is (subst (λ row. row_fault table row ≡ None) (sym at) (rows_at table rows i row fits lt));
  held = held;
}

pub short_keys : (table : Table) (keys : List Key) → IsTable table.number table → All (IsKeyOf table) keys → All IsShortKey keys
short_keys table keys is h = All-weaker (IsKeyOf table) IsShortKey (λ k own. keys_are_short table.number table k is own) keys h

-- ---- INSERT

module _ (P : Key → Type 0) where
  inserted_all : (ks : List Key) (rows : List Row) → AllByRecursion P ks → AllByRecursion (λ c. P c.0) (insertions ks rows)
  inserted_all [] rows h = tt
  inserted_all (k ∷ ks) [] h = tt
  inserted_all (k ∷ ks) (row ∷ rows) h = (h.0, inserted_all ks rows h.1)

  pub inserted_entries : (ks : List Key) (rows : List Row) → All P ks → All (λ c. P c.0) (insertions ks rows)
  inserted_entries ks rows h = All-from_recursion (λ c. P c.0) (insertions ks rows) (inserted_all ks rows (recursion_from_All P ks h))

insertion_keys : (table : Table) (rows : List Row) → keys_of (insertions (map (key_of table) rows) rows) ≡ map (key_of table) rows
insertion_keys table [] = refl
insertion_keys table (row ∷ rows) = ap (λ l. key_of table row ∷ l) (insertion_keys table rows)

apply_insertions : (table : Table) (rows : List Row) (s : State) → apply_net s (insertions (map (key_of table) rows) rows) ≡ insert_rows table rows s
apply_insertions table [] s = refl
apply_insertions table (row ∷ rows) s = apply_insertions table rows _

duplicates : (schema : Schema) (es : List Event) (t : ℕ) (s : State) (w : Net) (ks earlier : List Key) → AllByRecursion (IsKeyIn schema) ks → ((k : Key) → IsKeyIn schema k → sees es t w k ≡ is_some (row_at s k))
    → first_seen (sees es t w) earlier ks ≡ duplicate_from s earlier ks
duplicates schema es t s w [] earlier h same = refl
duplicates schema es t s w (k ∷ ks) earlier h same =
    λ i. cond (same k h.0 i || list_any (is_key k) earlier) (Some k) (duplicates schema es t s w ks (earlier ++ k ∷ []) h.1 same i)

-- the first key that is seen is the first duplicate
pub duplicate_is : (schema : Schema) (table : Table) (view : TreeState) (t : ℕ) (m : Changes) (w : Net) (rows : List Row) (keys : List Key) → Reads schema table view w m → IsStrictlySortedBy event_cmp (events view) → All (λ e. e.at ≤ t) (events view)
    → IsStrictlySortedBy key_cmp (keys_of w) → keys ≡ map (key_of table) rows → All (IsKeyOf table) keys → first_seen (sees (events view) t w) [] keys ≡ duplicate table rows (rows_seen m w)
duplicate_is schema table view t m w rows keys reads sorted upto ordered same own =
    ap (λ es. first_seen (sees es t w) [] keys) reads.held.events_are
    ∙ duplicates schema (events_of m) t (rows_seen m w) w keys [] (recursion_from_All (IsKeyIn schema) keys (All-weaker (IsKeyOf table) (IsKeyIn schema) (λ k h. key_in schema table k reads.is_table h) keys own))
    (λ k h. sees_is schema t m w k (are_seen schema view t m reads.held sorted upto) (sorted_from w ordered) h)
    ∙ ap (duplicate_from (rows_seen m w) []) same

abbrev unless_refused : Table → List Row → Own → Option Refusal → Written
unless_refused table rows o found = elim found [
  | Some refusal ↦ (Err refusal, o)
  | None ↦ write_keys (map (key_of table) rows) (length rows) (insert_rows table rows o.rows) o
]

abbrev refusal_of : Option Key → Option Key → Option Refusal
refusal_of twice over = first_of (option_map DuplicateKey twice) (option_map Overlap over)

pub insert_duplicate : (table : Table) (rows : List Row) (o : Own) (key : Key) → duplicate table rows o.rows ≡ Some key → ◌≡◌ {A = Written} (Err (DuplicateKey key), o) (insert_into table rows o)
insert_duplicate table rows o key is = sym (ap (λ found. unless_refused table rows o (refusal_of found (overlapping table rows o.rows))) is)

pub insert_overlap : (table : Table) (rows : List Row) (o : Own) (key : Key) → duplicate table rows o.rows ≡ None → overlapping table rows o.rows ≡ Some key → ◌≡◌ {A = Written} (Err (Overlap key), o) (insert_into table rows o)
insert_overlap table rows o key none is = sym (λ i. unless_refused table rows o (refusal_of (none i) (is i)))

pub insert_done : (table : Table) (rows : List Row) (m : Changes) (w new : Net) (r : Result ℕ Refusal) (cs : Net) → duplicate table rows (rows_seen m w) ≡ None → overlapping table rows (rows_seen m w) ≡ None → cs ≡ insertions (map (key_of table) rows) rows
    → T (is_sorted key_cmp w) → r ≡ put_answer (length rows) cs w → OnOk r (new ≡ put_all cs w) → OnErr r (new ≡ w) → ◌≡◌ {A = Written} (r, own m new) (insert_into table rows (own m w))
insert_done table rows m w new r cs none free is sorted answer ok err =
    put_is m cs (length rows) w new r sorted answer ok err
    ∙ ap (λ cs. write_keys (keys_of cs) (length rows) (apply_net (rows_seen m w) cs) (own m w)) is
    ∙ (λ i. write_keys (insertion_keys table rows i) (length rows) (apply_insertions table rows (rows_seen m w) i) (own m w))
    ∙ sym (λ i. unless_refused table rows (own m w) (refusal_of (none i) (free i)))

-- ---- what is put has keys of the schema

pub keys_after : (schema : Schema) (cs w new : Net) (r : Result ℕ Refusal) → OnOk r (new ≡ put_all cs w) → OnErr r (new ≡ w) → AreKeysIn schema w → All (λ c. IsKeyIn schema c.0) cs → AreKeysIn schema new
keys_after schema cs w new (Ok n) ok err h k = subst (AreKeysIn schema) (sym ok) (put_keys (IsKeyIn schema) cs w k h)
keys_after schema cs w new (Err e) ok err h k = subst (AreKeysIn schema) (sym err) h

module _ {X : Type 0} (P : Key → Type 0) where
  all_removed : (p : Key → Bool) (es : List (Key × X)) → AllByRecursion (λ e. P e.0) es → AllByRecursion (λ e. P e.0) (remove_entry p es)
  all_removed p [] h = tt
  all_removed p (e ∷ es) h = elim (p e.0) as (λ b. AllByRecursion (λ e. P e.0) (cond b es (e ∷ remove_entry p es))) [ true ↦ h.1 | false ↦ (h.0, all_removed p es h.1) ]

module _ (P : Key → Type 0) where
  all_set : (k : Key) (v : Option Row) (s : State) → P k → AllByRecursion (λ e. P e.0) s → AllByRecursion (λ e. P e.0) (set_row k v s)
  all_set k (Some row) s p h = all_entry {X = Row} P s k row p h
  all_set k None s p h = all_removed {X = Row} P (is_at (key_cmp k)) s h

  all_applied : (w : Net) (s : State) → AllByRecursion (λ c. P c.0) w → AllByRecursion (λ e. P e.0) s → AllByRecursion (λ e. P e.0) (apply_net s w)
  all_applied [] s h k = k
  all_applied (c ∷ w) s h k = all_applied w _ h.1 (all_set c.0 c.1 s h.0 k)

  all_after : (m : Changes) (s : State) → AllByRecursion (λ c. P c.0.key) m → AllByRecursion (λ e. P e.0) s → AllByRecursion (λ e. P e.0) (rows_after s m)
  all_after [] s h k = k
  all_after (c ∷ cs) s h k = all_after cs _ h.1 (all_set c.0.key c.1 s h.0 k)

  net_keys : (w : Net) → AllByRecursion P (keys_of w) → AllByRecursion (λ c. P c.0) w
  net_keys [] h = tt
  net_keys (c ∷ w) h = (h.0, net_keys w h.1)

  updated_all : (sets : List Set) (es : State) → AllByRecursion (λ e. P e.0) es → AllByRecursion (λ c. P c.0) (updates sets es)
  updated_all sets [] h = tt
  updated_all sets (e ∷ es) h = (h.0, updated_all sets es h.1)

  deleted_all : (es : State) → AllByRecursion (λ e. P e.0) es → AllByRecursion (λ c. P c.0) (deletions es)
  deleted_all [] h = tt
  deleted_all (e ∷ es) h = (h.0, deleted_all es h.1)

  pub updated_entries : (sets : List Set) (es : State) → All (λ e. P e.0) es → All (λ c. P c.0) (updates sets es)
  updated_entries sets es h = All-from_recursion (λ c. P c.0) (updates sets es) (updated_all sets es (recursion_from_All (λ e. P e.0) es h))

  pub deleted_entries : (es : State) → All (λ e. P e.0) es → All (λ c. P c.0) (deletions es)
  deleted_entries es h = All-from_recursion (λ c. P c.0) (deletions es) (deleted_all es (recursion_from_All (λ e. P e.0) es h))

-- the keys of the rows that are seen are of the schema
pub all_seen : (schema : Schema) (table : Table) (view : TreeState) (m : Changes) (w : Net) → Reads schema table view w m → AllByRecursion (λ e. IsKeyIn schema e.0) (rows_seen m w)
all_seen schema table view m w reads =
    all_applied (IsKeyIn schema) w (rows_after [] m) (net_keys (IsKeyIn schema) w (recursion_from_All (IsKeyIn schema) (keys_of w) reads.keys))
    (all_after (IsKeyIn schema) m [] (keyed_changes schema m reads.held.keys) tt)

pub seen_keys : (schema : Schema) (table : Table) (view : TreeState) (m : Changes) (w : Net) (p : Key × Row → Bool) → Reads schema table view w m → All (λ e. IsKeyIn schema e.0) (filter p (rows_seen m w))
seen_keys schema table view m w p reads =
    All-from_recursion (λ e. IsKeyIn schema e.0) (filter p (rows_seen m w))
    (all_chosen {X = Row} (IsKeyIn schema) p (rows_seen m w) (all_seen schema table view m w reads))

-- ---- UPDATE and DELETE

delete_keys : (es : State) → keys_of (deletions es) ≡ map (λ e. e.0) es
delete_keys [] = refl
delete_keys (e ∷ es) = ap (λ l. e.0 ∷ l) (delete_keys es)

pub update_done : (table : Table) (keys : Keys) (sets : List Set) (m : Changes) (w new : Net) (r : Result ℕ Refusal) (cs : Net) (found : State)
    → found ≡ filter (λ e. matches table keys e.0) (rows_seen m w) → cs ≡ updates sets (full_rows table found) → T (is_sorted key_cmp w) → r ≡ put_answer (length found) cs w → OnOk r (new ≡ put_all cs w) → OnErr r (new ≡ w)
    → ◌≡◌ {A = Written} (r, own m new) (update_in table keys sets (own m w))
update_done table keys sets m w new r cs found found_is is sorted answer ok err =
    put_is m cs (length found) w new r sorted answer ok err
    ∙ ap (λ cs. write_keys (keys_of cs) (length found) (apply_net (rows_seen m w) cs) (own m w)) (is ∙ ap (λ m. updates sets (full_rows table m)) found_is ∙ updates_wide table sets kept)
    ∙ (λ i. write_keys (changed_keys kept i) (count i) (apply-updates (matches table keys) set_wide (rows_seen m w) (sorted_apply w (rows_after [] m) (sorted_base m)) i) (own m w))
  where
    set_wide : Row → Row
    set_wide row = set_all sets (full_row table row)

    kept : State
    kept = filter (λ e. matches table keys e.0) (rows_seen m w)

    changed_keys : (m : State) → keys_of (changed_to set_wide m) ≡ map (λ e. e.0) m
    changed_keys [] = refl
    changed_keys (e ∷ m) = ap (λ l. e.0 ∷ l) (changed_keys m)

    count : length found ≡ length (matching_keys table keys (rows_seen m w))
    count = ap length found_is ∙ sym (length-map kept (λ e. e.0))

pub delete_done : (table : Table) (keys : Keys) (m : Changes) (w new : Net) (r : Result ℕ Refusal) (cs : Net) (found : State)
    → found ≡ filter (λ e. matches table keys e.0) (rows_seen m w) → cs ≡ deletions found → T (is_sorted key_cmp w) → r ≡ put_answer (length found) cs w → OnOk r (new ≡ put_all cs w) → OnErr r (new ≡ w)
    → ◌≡◌ {A = Written} (r, own m new) (delete_from table keys (own m w))
delete_done table keys m w new r cs found found_is is sorted answer ok err =
    put_is m cs (length found) w new r sorted answer ok err
    ∙ ap (λ cs. write_keys (keys_of cs) (length found) (apply_net (rows_seen m w) cs) (own m w)) (is ∙ ap deletions found_is)
    ∙ (λ i. write_keys (delete_keys kept i) (count i) (apply-deletions (matches table keys) (rows_seen m w) (sorted_apply w (rows_after [] m) (sorted_base m)) i) (own m w))
  where
    kept : State
    kept = filter (λ e. matches table keys e.0) (rows_seen m w)

    count : length found ≡ length (matching_keys table keys (rows_seen m w))
    count = ap length found_is ∙ sym (length-map kept (λ e. e.0))
