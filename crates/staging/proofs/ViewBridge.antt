-- What events say of keys by their bytes is what the changes say of them.
use Rattle.std.proofs.Common.{◌≡◌, ℕ, ◌≤◌, Bool, true, false, cond, ◌&&◌, ◌||◌, T, List, [], ◌∷◌, Option, Some, None, refl, sym, ap, subst, ◌∙◌, arith, map, filter, is_some, if◌then◌else◌, nat_le, All, option_and_then}
use Rattle.std.proofs.lemmas.Bool.Decides.{nat_tests}
use Rattle.std.proofs.lemmas.List.Elements.{All-head, All-tail, All-weaker}
use Rattle.std.specs.Ordering.{is_eq, is_lt}
use Rattle.std.specs.declared.cmp.Ordering.{Ordering}
use Rattle.std.specs.declared.cmp.Ordering.TheVariants.{Less, Equal, Greater}
use Rattle.std.specs.Option.{option_map}
use Rattle.std.specs.BTreeMap.{is_at}
use Rattle.std.specs.Map.{lookup, keys_of}
use Rattle.std.specs.FinMap.{is_sorted}
use Rattle.std.specs.FinMap.Entries.{below_all}
use Rattle.std.specs.List.{AllByRecursion}
use Rattle.std.specs.List.Sorted.{IsStrictlySortedBy}
use Rattle.values.specs.declared.value.Value.{Value}
use Rattle.values.specs.declared.value.Value.TheVariants.{Int, Text, Bool as Truth, Null}
use Rattle.values.specs.declared.key.Key.{Key}
use Rattle.values.specs.declared.key.Point.{Point}
use Rattle.values.specs.Event.{Event}
use Rattle.values.specs.declared.table.Table.{Table}
use Rattle.values.specs.Order.{key_cmp, is_key}
use Rattle.values.specs.Log.{State, Net, Row, Changes, row_at, apply_net}
use Rattle.values.specs.RowsAfter.{rows_after}
use Rattle.values.specs.Tables.{Schema, table_at}
use Rattle.values.specs.KeyEncoding.{bytes_of_key}
use Rattle.values.specs.KeyEncodingLaw.{IsStorable, AreKeyParts}
use Rattle.values.specs.RowEncoding.{IsHeld}
use Rattle.values.specs.KeyReading.{IsKeyOf}
use Rattle.values.specs.Events.{bytes_cmp, is_bytes, event_cmp, event_of, events_of, IsKeyOfAny, IsKeyIn, AreKeysIn, AreChangesIn, later, event_until, row_until}
use Rattle.values.proofs.OrderTotal.{key_cmp_total, first, second}
use Rattle.values.proofs.LogStates.{row_at-set_row, sorted_set_row}
use Rattle.values.proofs.KeyOrder.{byte_order_is_key_order}
use Rattle.tsbtree.specs.View.{events, TreeState}
use Rattle.staging.specs.View.{Holds}
use Rattle.staging.specs.Own.{rows_seen, net_over}
use Rattle.staging.specs.Staged.{row_in, sees, net_in}
use Rattle.eventlist.proofs.PlaceOrder.{sorted_tail}
use Rattle.staging.proofs.StagedEntries.{upon, row_at-apply}

-- ---- keys and their bytes

parts_of : (table : Table) (k : Key) → IsKeyOf table k → AreKeyParts table k.parts
parts_of table k h = record { fit = h.fits; storable = All-weaker IsHeld IsStorable storable k.parts h.held }
  where
    storable : (v : Value) → IsHeld v → IsStorable v
    storable (Int n) h = h
    storable (Text t) h = tt
    storable (Truth t) h = tt
    storable Null h = tt

pub keys_compare : (schema : Schema) (k l : Key) → IsKeyIn schema k → IsKeyIn schema l → bytes_cmp (bytes_of_key k) (bytes_of_key l) ≡ key_cmp k l
keys_compare schema k l hk hl = by (table_at schema k.table) refl hk
  where
    by : (o : Option Table) → table_at schema k.table ≡ o → IsKeyOfAny o k → bytes_cmp (bytes_of_key k) (bytes_of_key l) ≡ key_cmp k l
    by None at h = absurd h
    by (Some table) at h =
        byte_order_is_key_order table k l (λ same. (parts_of table k h, parts_of table l (subst (λ o. IsKeyOfAny o l) (ap (table_at schema) (sym same) ∙ at) hl)))

pub is_bytes_is_key : (schema : Schema) (k l : Key) → IsKeyIn schema k → IsKeyIn schema l → is_bytes (bytes_of_key k) (bytes_of_key l) ≡ is_key k l
is_bytes_is_key schema k l hk hl = ap is_eq (keys_compare schema k l hk hl)

-- a key of a table in the schema is one of that table's
pub own_key : (schema : Schema) (table : Table) (k : Key) → table_at schema table.number ≡ Some table → k.table ≡ table.number → IsKeyIn schema k → IsKeyOf table k
own_key schema table k at same h = subst (λ o. IsKeyOfAny o k) (ap (table_at schema) same ∙ at) h

pub key_in : (schema : Schema) (table : Table) (k : Key) → table_at schema table.number ≡ Some table → IsKeyOf table k → IsKeyIn schema k
key_in schema table k at h = subst (λ o. IsKeyOfAny o k) (sym (ap (table_at schema) h.own ∙ at)) h

-- ---- the changes of a view

-- the changes' keys are of the schema, and none is past the instant
pub record AreSeen (schema : Schema) (t : ℕ) (m : Changes) : Type 0 where
  pub keys : AllByRecursion (λ c. IsKeyIn schema c.0.key) m
  pub upto : AllByRecursion (λ c. c.0.instant ≤ t) m
  pub sorted : IsStrictlySortedBy event_cmp (events_of m)

pub keyed_changes : (schema : Schema) (cs : Changes) → AreChangesIn schema cs → AllByRecursion (λ c. IsKeyIn schema c.0.key) cs
keyed_changes schema [] h = tt
keyed_changes schema (c ∷ cs) h = (All-head (λ (p : Point). IsKeyIn schema p.key) c.0 (keys_of cs) h, keyed_changes schema cs (All-tail (λ (p : Point). IsKeyIn schema p.key) c.0 (keys_of cs) h))

pub are_seen : (schema : Schema) (view : TreeState) (t : ℕ) (m : Changes) → Holds schema view m → IsStrictlySortedBy event_cmp (events view) → All (λ e. e.at ≤ t) (events view) → AreSeen schema t m
are_seen schema view t m held sorted upto = record {
  keys = keyed_changes schema m held.keys;
  upto = timed m (subst (All (λ e. e.at ≤ t)) held.events_are upto);
  sorted = subst (IsStrictlySortedBy event_cmp) held.events_are sorted;
}
  where
    timed : (cs : Changes) → All (λ e. e.at ≤ t) (events_of cs) → AllByRecursion (λ c. c.0.instant ≤ t) cs
    timed [] h = tt
    timed (c ∷ cs) h = (All-head (λ (e : Event). e.at ≤ t) (event_of c) (events_of cs) h, timed cs (All-tail (λ (e : Event). e.at ≤ t) (event_of c) (events_of cs) h))

pub rest_seen : (schema : Schema) (t : ℕ) (c : Point × Option Row) (cs : Changes) → AreSeen schema t (c ∷ cs) → AreSeen schema t cs
rest_seen schema t c cs h = record { keys = h.keys.1; upto = h.upto.1; sorted = sorted_tail event_cmp (event_of c) (events_of cs) h.sorted }

pub in_time : (i t : ℕ) → i ≤ t → nat_le i t ≡ true
in_time i t h = grind (arith, nat_tests)

-- ---- the last change of a key

abbrev pub last_change : Changes → Key → Option (Option Row)
last_change [] q = None
last_change (c ∷ cs) q = later (last_change cs q) (cond (is_key q c.0.key) (Some c.1) None)

-- what the changes leave is what the last one says
pub after_is : (m : Changes) (s : State) (q : Key) → T (is_sorted key_cmp s) → row_at (rows_after s m) q ≡ upon (last_change m q) (row_at s q)
after_is [] s q h = refl
after_is (c ∷ cs) s q h =
    after_is cs _ q (sorted_set_row c.0.key c.1 s h) ∙ ap (upon (last_change cs q)) (row_at-set_row q c.0.key c.1 s h) ∙ by (is_key q c.0.key) (last_change cs q)
  where
    by : (b : Bool) (x : Option (Option Row)) → upon x (cond b c.1 (row_at s q)) ≡ upon (later x (cond b (Some c.1) None)) (row_at s q)
    by true None = refl
    by true (Some x) = refl
    by false None = refl
    by false (Some x) = refl

sorted_after : (m : Changes) (s : State) → T (is_sorted key_cmp s) → T (is_sorted key_cmp (rows_after s m))
sorted_after [] s h = h
sorted_after (c ∷ cs) s h = sorted_after cs _ (sorted_set_row c.0.key c.1 s h)

pub sorted_base : (m : Changes) → T (is_sorted key_cmp (rows_after [] m))
sorted_base m = sorted_after m [] tt

until_is : (schema : Schema) (t : ℕ) (m : Changes) (q : Key) → AreSeen schema t m → IsKeyIn schema q → option_map (λ e. e.row) (event_until (events_of m) (bytes_of_key q) t) ≡ last_change m q
until_is schema t [] q h hq = refl
until_is schema t (c ∷ cs) q h hq =
    ap (λ b. option_map (λ e. e.row) (later (event_until (events_of cs) (bytes_of_key q) t) (if b then Some (event_of c) else None)))
    ((λ i. is_bytes_is_key schema q c.0.key hq h.keys.0 i && in_time c.0.instant t h.upto.0 i) ∙ certain (is_key q c.0.key))
    ∙ by (event_until (events_of cs) (bytes_of_key q) t) (is_key q c.0.key)
    ∙ ap (λ x. later x (cond (is_key q c.0.key) (Some c.1) None)) (until_is schema t cs q (rest_seen schema t c cs h) hq)
  where
    certain : (b : Bool) → (b && true) ≡ b
    certain true = refl
    certain false = refl

    by : (o : Option Event) (b : Bool) → option_map (λ e. e.row) (later o (if b then Some (event_of c) else None)) ≡ later (option_map (λ e. e.row) o) (cond b (Some c.1) None)
    by None true = refl
    by None false = refl
    by (Some e) true = refl
    by (Some e) false = refl

-- a key of the schema has what its last event says
pub row_until_is : (schema : Schema) (t : ℕ) (m : Changes) (q : Key) → AreSeen schema t m → IsKeyIn schema q → row_until (events_of m) (bytes_of_key q) t ≡ row_at (rows_after [] m) q
row_until_is schema t m q h hq = by (event_until (events_of m) (bytes_of_key q) t) ∙ ap (λ o. upon o None) (until_is schema t m q h hq) ∙ sym (after_is m [] q tt)
  where
    by : (o : Option Event) → option_and_then (λ e. e.row) o ≡ upon (option_map (λ e. e.row) o) None
    by None = refl
    by (Some e) = refl

-- ---- what a transaction sees of a key

pub sees_is : (schema : Schema) (t : ℕ) (m : Changes) (w : Net) (q : Key) → AreSeen schema t m → T (is_sorted key_cmp w) → IsKeyIn schema q → sees (events_of m) t w q ≡ is_some (row_at (rows_seen m w) q)
sees_is schema t m w q h sorted hq = by (lookup (is_at (key_cmp q)) w) ∙ ap is_some (sym (row_at-apply w (rows_after [] m) q (sorted_base m) sorted))
  where
    by : (o : Option (Option Row)) → elim o [ Some row ↦ is_some row | None ↦ is_some (row_until (events_of m) (bytes_of_key q) t) ] ≡ is_some (upon o (row_at (rows_after [] m) q))
    by None = ap is_some (row_until_is schema t m q h hq)
    by (Some row) = refl

-- and its row
pub seen_is : (schema : Schema) (t : ℕ) (m : Changes) (w : Net) (q : Key) → AreSeen schema t m → T (is_sorted key_cmp w) → IsKeyIn schema q → row_in (events_of m) t w q ≡ row_at (rows_seen m w) q
seen_is schema t m w q h sorted hq = by (lookup (is_at (key_cmp q)) w) ∙ sym (row_at-apply w (rows_after [] m) q (sorted_base m) sorted)
  where
    by : (o : Option (Option Row)) → elim o [ Some row ↦ row | None ↦ row_until (events_of m) (bytes_of_key q) t ] ≡ upon o (row_at (rows_after [] m) q)
    by None = row_until_is schema t m q h hq
    by (Some row) = refl

-- ---- net changes

-- each entry is found at its key
pub each_found : {X : Type 0} (ds : List (Key × X)) → T (is_sorted key_cmp ds) → AllByRecursion (λ c. lookup (is_at (key_cmp c.0)) ds ≡ Some c.1) ds
each_found [] k = tt
each_found {X = X} (d ∷ ds) k = (ap (λ b. cond b (Some d.1) (lookup (is_at (key_cmp d.0)) ds)) (itself d.0), more ds (each_found ds (second _ _ k)) (first _ _ k))
  where
    itself : (k : Key) → is_key k k ≡ true
    itself k = level (key_cmp k k) (key_cmp_total.antisymm k k)
      where
        level : (o : Ordering) → o ≡ Rattle.std.specs.Ordering.ordering_reverse o → is_eq o ≡ true
        level Less e = cc
        level Equal e = refl
        level Greater e = cc

    more : (es : List (Key × X)) → AllByRecursion (λ c. lookup (is_at (key_cmp c.0)) ds ≡ Some c.1) es → T (below_all key_cmp d.0 es) → AllByRecursion (λ c. lookup (is_at (key_cmp c.0)) (d ∷ ds) ≡ Some c.1) es
    more [] f b = tt
    more (e ∷ es) f b = (ap (λ b. cond b (Some d.1) (lookup (is_at (key_cmp e.0)) ds)) (above d.0 e.0 (first _ _ b)) ∙ f.0, more es f.1 (second _ _ b))
      where
        above : (x y : Key) → T (is_lt (key_cmp x y)) → is_key y x ≡ false
        above x y lt = by (key_cmp x y) refl lt
          where
            by : (o : Ordering) → key_cmp x y ≡ o → T (is_lt o) → is_key y x ≡ false
            by Less is lt = ap is_eq (key_cmp_total.antisymm y x ∙ ap Rattle.std.specs.Ordering.ordering_reverse is)
            by Equal is lt = absurd lt
            by Greater is lt = absurd lt

own_values : (s : State) (w : Net) → T (is_sorted key_cmp s) → T (is_sorted key_cmp w) → map (λ k. (k, row_at (apply_net s w) k)) (keys_of w) ≡ w
own_values s w h sorted = all w w sorted (λ c is. row_at-apply w s c.0 h sorted ∙ ap (λ o. upon o (row_at s c.0)) is) (each_found w sorted)
  where
    all : (w ds : Net) → T (is_sorted key_cmp w) → ((c : Key × Option Row) → lookup (is_at (key_cmp c.0)) w ≡ Some c.1 → row_at (apply_net s w) c.0 ≡ c.1) → AllByRecursion (λ c. lookup (is_at (key_cmp c.0)) w ≡ Some c.1) ds
        → map (λ k. (k, row_at (apply_net s w) k)) (keys_of ds) ≡ ds
    all w [] k value f = refl
    all w (d ∷ ds) k value f = λ i. (d.0, value d f.0 i) ∷ all w ds k value f.1 i

pub net_is : (schema : Schema) (t : ℕ) (m : Changes) (w : Net) → AreSeen schema t m → T (is_sorted key_cmp w) → AreKeysIn schema w → net_in (events_of m) t w ≡ net_over m w
net_is schema t m w h sorted keys =
    each w keys ∙ ap (filter (λ c. is_some c.1 || is_some (row_at (rows_after [] m) c.0))) (sym (own_values (rows_after [] m) w (sorted_base m) sorted))
  where
    each : (ds : Net) → AreKeysIn schema ds → net_in (events_of m) t ds ≡ filter (λ c. is_some c.1 || is_some (row_at (rows_after [] m) c.0)) ds
    each [] k = refl
    each (d ∷ ds) k =
        λ i. cond (is_some d.1 || is_some (row_until_is schema t m d.0 h (All-head (IsKeyIn schema) d.0 (keys_of ds) k) i)) (d ∷ each ds (All-tail (IsKeyIn schema) d.0 (keys_of ds) k) i) (each ds (All-tail (IsKeyIn schema) d.0 (keys_of ds) k) i)
