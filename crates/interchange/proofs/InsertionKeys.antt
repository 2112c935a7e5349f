-- Keys that come one after another, and the set of their bytes.
use Rattle.std.proofs.Common.{◌≡◌, ◌≤◌, ◌||◌, Bool, true, false, List, [], ◌∷◌, ◌++◌, Option, Some, None, All, refl, sym, ap, ◌∙◌, subst, arith, length, map, append-nil, append_assoc, if◌then◌else◌}
use Rattle.std.proofs.lemmas.List.{map-append}
use Rattle.std.proofs.lemmas.List.Elements.{All-head, All-tail, All-cons, All-nil}
use Rattle.std.specs.List.{AllByRecursion, list_any}
use Rattle.std.specs.List.Sorted.{IsStrictlySortedBy}
use Rattle.std.specs.BTreeSet.{insert_key}
use Rattle.std.specs.Ordering.{match_ordering, is_eq}
use Rattle.std.specs.declared.cmp.Ordering.{Ordering}
use Rattle.std.specs.declared.cmp.Ordering.TheVariants.{Less, Equal, Greater}
use Rattle.values.specs.declared.key.Key.{Key}
use Rattle.values.specs.declared.table.Table.{Table}
use Rattle.values.specs.declared.value.Value.{Value}
use Rattle.values.specs.declared.value.Value.TheVariants.{Int, Text, Bool as Truth, Null}
use Rattle.values.specs.Order.{key_cmp, is_key}
use Rattle.values.specs.Events.{bytes_cmp}
use Rattle.values.specs.KeyEncoding.{bytes_of_key}
use Rattle.values.specs.KeyEncodingLaw.{AreKeyParts, IsStorable}
use Rattle.values.specs.KeyReading.{IsKeyOf}
use Rattle.values.specs.RowEncoding.{IsHeld}
use Rattle.values.specs.Log.{Row}
use Rattle.values.specs.Writes.{add_keys, duplicate_from, key_of}
use Rattle.values.proofs.KeyOrder.{byte_order_is_key_order}
use Rattle.values.proofs.OrderTotal.{key_cmp_total, key_cmp-IsAntisymmetric}
use Rattle.interchange.specs.Insertion.{keys_of}
use Rattle.interchange.proofs.KeySetOrder.{sorted_inserted}

-- ---- a key among the earlier ones

apart_at : (b r s : Bool) → (b || (r || s)) ≡ (r || (b || s))
apart_at true true s = refl
apart_at true false s = refl
apart_at false true s = refl
apart_at false false s = refl

twice : (b r : Bool) → (b || r) ≡ (b || (b || r))
twice true r = refl
twice false r = refl

any_inserted : (q k : Key) (ls : List Key) → list_any (is_key q) (insert_key key_cmp ls k) ≡ (is_key q k || list_any (is_key q) ls)
any_inserted q k [] = refl
any_inserted q k (x ∷ ls) = by (key_cmp k x) refl (any_inserted q k ls)
  where
    by : (o : Ordering) → key_cmp k x ≡ o → list_any (is_key q) (insert_key key_cmp ls k) ≡ (is_key q k || list_any (is_key q) ls)
        → list_any (is_key q) (match_ordering o (k ∷ x ∷ ls) (x ∷ ls) (x ∷ insert_key key_cmp ls k)) ≡ (is_key q k || (is_key q x || list_any (is_key q) ls))
    by Less is ih = refl
    by Equal is ih = twice (is_key q x) (list_any (is_key q) ls) ∙ ap (λ y. is_key q y || (is_key q x || list_any (is_key q) ls)) (sym (key_cmp-IsAntisymmetric k x is))
    by Greater is ih = ap (λ r. is_key q x || r) ih ∙ apart_at (is_key q x) (is_key q k) (list_any (is_key q) ls)

any_added : (q : Key) (ks ls : List Key) → list_any (is_key q) (add_keys ks ls) ≡ (list_any (is_key q) ks || list_any (is_key q) ls)
any_added q [] ls = refl
any_added q (k ∷ ks) ls =
    any_added q ks (insert_key key_cmp ls k) ∙ ap (λ r. list_any (is_key q) ks || r) (any_inserted q k ls)
    ∙ turned (list_any (is_key q) ks) (is_key q k) (list_any (is_key q) ls)
  where
    turned : (a b s : Bool) → (a || (b || s)) ≡ ((b || a) || s)
    turned true true s = refl
    turned true false s = refl
    turned false true s = refl
    turned false false s = refl

or_false : (b : Bool) → (b || false) ≡ b
or_false true = refl
or_false false = refl

pub any_of : (q : Key) (ks : List Key) → list_any (is_key q) (add_keys ks []) ≡ list_any (is_key q) ks
any_of q ks = any_added q ks [] ∙ or_false (list_any (is_key q) ks)

pub added_last : (ks ls : List Key) (k : Key) → add_keys (ks ++ k ∷ []) ls ≡ insert_key key_cmp (add_keys ks ls) k
added_last [] ls k = refl
added_last (x ∷ ks) ls k = added_last ks (insert_key key_cmp ls x) k

pub own_inserted : (P : Key → Type 0) (ls : List Key) (k : Key) → All P ls → P k → All P (insert_key key_cmp ls k)
own_inserted P [] k h p = All-cons P k [] p h
own_inserted P (x ∷ ls) k h p = by (key_cmp k x) (own_inserted P ls k (All-tail P x ls h) p)
  where
    by : (o : Ordering) → All P (insert_key key_cmp ls k) → All P (match_ordering o (k ∷ x ∷ ls) (x ∷ ls) (x ∷ insert_key key_cmp ls k))
    by Less more = All-cons P k (x ∷ ls) p h
    by Equal more = h
    by Greater more = All-cons P x (insert_key key_cmp ls k) (All-head P x ls h) more

longer : (ls : List Key) (k : Key) → length ls ≤ length (insert_key key_cmp ls k)
longer [] k = omega arith
longer (x ∷ ls) k = by (key_cmp k x) (longer ls k)
  where
    by : (o : Ordering) → length ls ≤ length (insert_key key_cmp ls k) → length (x ∷ ls) ≤ length (match_ordering o (k ∷ x ∷ ls) (x ∷ ls) (x ∷ insert_key key_cmp ls k))
    by Less more = omega arith
    by Equal more = omega arith
    by Greater more = omega arith

pub no_fewer : (ks : List Key) (k : Key) → length (add_keys ks []) ≤ length (add_keys (ks ++ k ∷ []) [])
no_fewer ks k = subst (λ (l : List Key). length (add_keys ks []) ≤ length l) (sym (added_last ks [] k)) (longer (add_keys ks []) k)

-- ---- keys by their bytes

storable : (v : Value) → IsHeld v → IsStorable v
storable (Int n) h = h
storable (Text t) h = tt
storable (Truth t) h = tt
storable Null h = tt

all_storable : (vs : List Value) → All IsHeld vs → All IsStorable vs
all_storable [] h = All-nil IsStorable
all_storable (v ∷ vs) h = All-cons IsStorable v vs (storable v (All-head IsHeld v vs h)) (all_storable vs (All-tail IsHeld v vs h))

parts_of : (table : Table) (k : Key) → IsKeyOf table k → AreKeyParts table k.parts
parts_of table k h = record { fit = h.fits; storable = all_storable k.parts h.held }

same_order : (table : Table) (k l : Key) → IsKeyOf table k → IsKeyOf table l → bytes_cmp (bytes_of_key k) (bytes_of_key l) ≡ key_cmp k l
same_order table k l h g = byte_order_is_key_order table k l (λ _. (parts_of table k h, parts_of table l g))

pub inserted_bytes : (table : Table) (ls : List Key) (k : Key) → All (IsKeyOf table) ls → IsKeyOf table k
    → insert_key bytes_cmp (map bytes_of_key ls) (bytes_of_key k) ≡ map bytes_of_key (insert_key key_cmp ls k)
inserted_bytes table [] k h own = refl
inserted_bytes table (x ∷ ls) k h own =
    ap (λ o. match_ordering o (bytes_of_key k ∷ bytes_of_key x ∷ map bytes_of_key ls) (bytes_of_key x ∷ map bytes_of_key ls) (bytes_of_key x ∷ insert_key bytes_cmp (map bytes_of_key ls) (bytes_of_key k)))
    (same_order table k x own (All-head (IsKeyOf table) x ls h))
    ∙ by (key_cmp k x) (inserted_bytes table ls k (All-tail (IsKeyOf table) x ls h) own)
  where
    by : (o : Ordering) → insert_key bytes_cmp (map bytes_of_key ls) (bytes_of_key k) ≡ map bytes_of_key (insert_key key_cmp ls k)
        → match_ordering o (bytes_of_key k ∷ bytes_of_key x ∷ map bytes_of_key ls) (bytes_of_key x ∷ map bytes_of_key ls) (bytes_of_key x ∷ insert_key bytes_cmp (map bytes_of_key ls) (bytes_of_key k))
        ≡ map bytes_of_key (match_ordering o (k ∷ x ∷ ls) (x ∷ ls) (x ∷ insert_key key_cmp ls k))
    by Less more = refl
    by Equal more = refl
    by Greater more = ap (λ l. bytes_of_key x ∷ l) more

pub any_bytes : (table : Table) (ls : List Key) (k : Key) → All (IsKeyOf table) ls → IsKeyOf table k
    → list_any (λ b. is_eq (bytes_cmp (bytes_of_key k) b)) (map bytes_of_key ls) ≡ list_any (is_key k) ls
any_bytes table [] k h own = refl
any_bytes table (x ∷ ls) k h own = λ i. is_eq (same_order table k x own (All-head (IsKeyOf table) x ls h) i) || any_bytes table ls k (All-tail (IsKeyOf table) x ls h) own i

sorted_added : (ks ls : List Key) → IsStrictlySortedBy key_cmp ls → IsStrictlySortedBy key_cmp (add_keys ks ls)
sorted_added [] ls h = h
sorted_added (k ∷ ks) ls h = sorted_added ks (insert_key key_cmp ls k) (sorted_inserted key_cmp_total ls k h)

bytes_below : (table : Table) (k : Key) (ls : List Key) → IsKeyOf table k → All (IsKeyOf table) ls → AllByRecursion (λ l. key_cmp k l ≡ Less) ls
    → AllByRecursion (λ b. bytes_cmp (bytes_of_key k) b ≡ Less) (map bytes_of_key ls)
bytes_below table k [] own h below = tt
bytes_below table k (x ∷ ls) own h below =
    (same_order table k x own (All-head (IsKeyOf table) x ls h) ∙ below.0, bytes_below table k ls own (All-tail (IsKeyOf table) x ls h) below.1)

bytes_sorted : (table : Table) (ls : List Key) → All (IsKeyOf table) ls → IsStrictlySortedBy key_cmp ls → IsStrictlySortedBy bytes_cmp (map bytes_of_key ls)
unfolding IsStrictlySortedBy
bytes_sorted table [] h sorted = tt
bytes_sorted table (x ∷ ls) h sorted =
    (bytes_below table x ls (All-head (IsKeyOf table) x ls h) (All-tail (IsKeyOf table) x ls h) sorted.0, bytes_sorted table ls (All-tail (IsKeyOf table) x ls h) sorted.1)

none_sorted : IsStrictlySortedBy key_cmp []
unfolding IsStrictlySortedBy
none_sorted = tt

-- the bytes of a set of keys are in their order
pub added_sorted : (table : Table) (keys : List Key) → All (IsKeyOf table) (add_keys keys []) → IsStrictlySortedBy bytes_cmp (map bytes_of_key (add_keys keys []))
added_sorted table keys h = bytes_sorted table (add_keys keys []) h (sorted_added keys [] none_sorted)

-- ---- the first key that an earlier one repeats

pub repeated_stays : (ks earlier : List Key) (k d : Key) → duplicate_from [] earlier ks ≡ Some d → duplicate_from [] earlier (ks ++ k ∷ []) ≡ Some d
repeated_stays [] earlier k d h = cc h
repeated_stays (x ∷ ks) earlier k d h = by (list_any (is_key x) earlier) h (repeated_stays ks (earlier ++ x ∷ []) k d)
  where
    by : (b : Bool) → ◌≡◌ {A = Option Key} (if b then Some x else duplicate_from [] (earlier ++ x ∷ []) ks) (Some d)
        → (duplicate_from [] (earlier ++ x ∷ []) ks ≡ Some d → duplicate_from [] (earlier ++ x ∷ []) (ks ++ k ∷ []) ≡ Some d)
        → ◌≡◌ {A = Option Key} (if b then Some x else duplicate_from [] (earlier ++ x ∷ []) (ks ++ k ∷ [])) (Some d)
    by true h more = h
    by false h more = more h

repeated_from : (ks earlier : List Key) (k : Key) → duplicate_from [] earlier ks ≡ None → duplicate_from [] earlier (ks ++ k ∷ []) ≡ (if list_any (is_key k) (earlier ++ ks) then Some k else None)
repeated_from [] earlier k h = ap (λ (l : List Key). chosen (list_any (is_key k) l)) (sym (append-nil earlier))
  where
    chosen : Bool → Option Key
    chosen b = if b then Some k else None
repeated_from (x ∷ ks) earlier k h = by (list_any (is_key x) earlier) h (repeated_from ks (earlier ++ x ∷ []) k)
  where
    by : (b : Bool) → ◌≡◌ {A = Option Key} (if b then Some x else duplicate_from [] (earlier ++ x ∷ []) ks) None
        → (duplicate_from [] (earlier ++ x ∷ []) ks ≡ None → duplicate_from [] (earlier ++ x ∷ []) (ks ++ k ∷ []) ≡ (if list_any (is_key k) ((earlier ++ x ∷ []) ++ ks) then Some k else None))
        → ◌≡◌ {A = Option Key} (if b then Some x else duplicate_from [] (earlier ++ x ∷ []) (ks ++ k ∷ [])) (if list_any (is_key k) (earlier ++ x ∷ ks) then Some k else None)
    by true h more = cc h
    by false h more = more h ∙ ap (λ (l : List Key). if list_any (is_key k) l then Some k else None) (append_assoc earlier (x ∷ []) ks)

pub repeated_last : (ks : List Key) (k : Key) (b : Bool) → duplicate_from [] [] ks ≡ None → list_any (is_key k) ks ≡ b → duplicate_from [] [] (ks ++ k ∷ []) ≡ (if b then Some k else None)
repeated_last ks k b h is = repeated_from ks [] k h ∙ ap chosen is
  where
    chosen : Bool → Option Key
    chosen b = if b then Some k else None

pub keys_last : (table : Table) (rows : List Row) (row : Row) → keys_of table (rows ++ row ∷ []) ≡ keys_of table rows ++ key_of table row ∷ []
keys_last table rows row = map-append (key_of table) rows (row ∷ [])
