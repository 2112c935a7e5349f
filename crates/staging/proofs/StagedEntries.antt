-- Rows and writes as finite maps: what a key has after changes, one after the other.
use Rattle.std.proofs.Common.{◌≡◌, Bool, true, false, cond, T, List, [], ◌∷◌, Option, Some, None, refl, sym, ap, subst, ◌∙◌, not, map, filter, if◌then◌else◌}
use Rattle.std.specs.Ordering.{is_eq, is_lt, match_ordering}
use Rattle.std.specs.declared.cmp.Ordering.{Ordering}
use Rattle.std.specs.declared.cmp.Ordering.TheVariants.{Less, Equal, Greater}
use Rattle.std.specs.Option.{option_map}
use Rattle.std.specs.BTreeMap.{insert_entry, is_at}
use Rattle.std.specs.BTreeSet.{insert_key}
use Rattle.std.specs.Map.{lookup, keys_of}
use Rattle.std.specs.FinMap.{is_sorted}
use Rattle.std.specs.FinMap.Entries.{below_all, is_sorted-where_key}
use Rattle.std.specs.List.{AllByRecursion}
use Rattle.std.specs.List.Sorted.{IsStrictlySortedBy}
use Rattle.values.specs.declared.key.Key.{Key}
use Rattle.values.specs.Order.{key_cmp, is_key}
use Rattle.values.specs.Log.{State, Net, Row, row_at, set_row, apply_net}
use Rattle.values.specs.Writes.{add_keys}
use Rattle.values.proofs.OrderTotal.{key_cmp_total, key_cmp-IsAntisymmetric, both, first, second}
use Rattle.values.proofs.LogMaps.{same_map, sorted_insert, lookup-insert_entry}
use Rattle.values.proofs.OrderSorted.{is_less, is_equal, sorted_from as sorted_by_key}
use Rattle.values.proofs.LogStates.{row_at-set_row, sorted_set_row}
use Rattle.staging.specs.Staged.{put_all, deletions}

pub same_key : (q k : Key) → is_key q k ≡ true → q ≡ k
same_key q k e = key_cmp-IsAntisymmetric q k (is_equal (key_cmp q k) e)

-- a map's keys are in order
pub sorted_from : {X : Type 0} (es : List (Key × X)) → IsStrictlySortedBy key_cmp (keys_of es) → T (is_sorted key_cmp es)
sorted_from es h = sorted_by_key key_cmp es h

pub sorted_to : {X : Type 0} (es : List (Key × X)) → T (is_sorted key_cmp es) → IsStrictlySortedBy key_cmp (keys_of es)
unfolding IsStrictlySortedBy
sorted_to [] h = tt
sorted_to {X = X} (e ∷ es) h = (below es (first _ _ h), sorted_to es (second _ _ h))
  where
    below : (ds : List (Key × X)) → T (below_all key_cmp e.0 ds) → AllByRecursion (λ k. key_cmp e.0 k ≡ Less) (keys_of ds)
    below [] h = tt
    below (d ∷ ds) h = (is_less (key_cmp e.0 d.0) (first _ _ h), below ds (second _ _ h))

-- what is above a key is not that key
pub none_below : {X : Type 0} (es : List (Key × X)) (k q : Key) → key_cmp q k ≡ Equal → T (below_all key_cmp k es) → lookup (is_at (key_cmp q)) es ≡ None
none_below [] k q e h = refl
none_below (x ∷ es) k q e h = ap (λ o. cond (is_eq o) (Some x.1) (lookup (is_at (key_cmp q)) es)) (key_cmp_total.congr q k x.0 e ∙ is_less _ (first _ _ h)) ∙ none_below es k q e (second _ _ h)

pub lookup-filter : {X : Type 0} (p : Key → Bool) (q : Key) (es : List (Key × X)) → lookup (is_at (key_cmp q)) (filter (λ e. p e.0) es) ≡ cond (p q) (lookup (is_at (key_cmp q)) es) None
lookup-filter {X = X} p q [] = nothing (p q)
  where
    nothing : (b : Bool) → ◌≡◌ {A = Option X} None (cond b None None)
    nothing true = refl
    nothing false = refl
lookup-filter {X = X} p q (e ∷ es) = by (p e.0) (is_key q e.0) refl refl (lookup-filter p q es)
  where
    by : (b c : Bool) → p e.0 ≡ b → is_key q e.0 ≡ c → lookup (is_at (key_cmp q)) (filter (λ e. p e.0) es) ≡ cond (p q) (lookup (is_at (key_cmp q)) es) None
        → lookup (is_at (key_cmp q)) (cond b (e ∷ filter (λ e. p e.0) es) (filter (λ e. p e.0) es)) ≡ cond (p q) (cond c (Some e.1) (lookup (is_at (key_cmp q)) es)) None
    by true true is at ih =
        ap (λ c. cond c (Some e.1) (lookup (is_at (key_cmp q)) (filter (λ e. p e.0) es))) at
        ∙ sym (ap (λ b. cond b (Some e.1) None) (ap p (same_key q e.0 at) ∙ is))
    by true false is at ih = ap (λ c. cond c (Some e.1) (lookup (is_at (key_cmp q)) (filter (λ e. p e.0) es))) at ∙ ih
    by false true is at ih =
        let other : p q ≡ false = ap p (same_key q e.0 at) ∙ is in
        ih ∙ ap (λ b. cond b (lookup (is_at (key_cmp q)) es) None) other ∙ sym (ap (λ b. cond b (Some e.1) None) other)
    by false false is at ih = ih

pub lookup-map : {X Y : Type 0} (f : X → Y) (q : Key) (es : List (Key × X)) → lookup (is_at (key_cmp q)) (map (λ e. (e.0, f e.1)) es) ≡ option_map f (lookup (is_at (key_cmp q)) es)
lookup-map f q [] = refl
lookup-map {X = X} {Y = Y} f q (e ∷ es) = ap (cond (is_key q e.0) (Some (f e.1))) (lookup-map f q es) ∙ moved (is_key q e.0) (lookup (is_at (key_cmp q)) es)
  where
    moved : (b : Bool) (o : Option X) → cond b (Some (f e.1)) (option_map f o) ≡ option_map f (cond b (Some e.1) o)
    moved true o = refl
    moved false o = refl

pub sorted_map : {X Y : Type 0} (f : X → Y) (es : List (Key × X)) → T (is_sorted key_cmp es) → T (is_sorted key_cmp (map (λ e. (e.0, f e.1)) es))
sorted_map f [] h = tt
sorted_map {X = X} {Y = Y} f (e ∷ es) h = both _ _ (below es (first _ _ h)) (sorted_map f es (second _ _ h))
  where
    below : (ds : List (Key × X)) → T (below_all key_cmp e.0 ds) → T (below_all key_cmp e.0 (map (λ d. (d.0, f d.1)) ds))
    below [] h = tt
    below (d ∷ ds) h = both _ _ (first _ _ h) (below ds (second _ _ h))

-- ---- changes, one after the other

abbrev pub upon : Option (Option Row) → Option Row → Option Row
upon None row = row
upon (Some change) row = change

pub sorted_apply : (w : Net) (s : State) → T (is_sorted key_cmp s) → T (is_sorted key_cmp (apply_net s w))
sorted_apply [] s h = h
sorted_apply (c ∷ w) s h = sorted_apply w _ (sorted_set_row c.0 c.1 s h)

pub row_at-apply : (w : Net) (s : State) (q : Key) → T (is_sorted key_cmp s) → T (is_sorted key_cmp w) → row_at (apply_net s w) q ≡ upon (lookup (is_at (key_cmp q)) w) (row_at s q)
row_at-apply [] s q h k = refl
row_at-apply (c ∷ w) s q h k =
    row_at-apply w _ q (sorted_set_row c.0 c.1 s h) (second _ _ k) ∙ ap (upon (lookup (is_at (key_cmp q)) w)) (row_at-set_row q c.0 c.1 s h) ∙ by (is_key q c.0) refl
  where
    by : (b : Bool) → is_key q c.0 ≡ b → upon (lookup (is_at (key_cmp q)) w) (cond b c.1 (row_at s q)) ≡ upon (cond b (Some c.1) (lookup (is_at (key_cmp q)) w)) (row_at s q)
    by true is = ap (λ o. upon o c.1) (none_below w c.0 q (is_equal (key_cmp q c.0) is) (first _ _ k))
    by false is = refl

-- a change that is put over earlier ones comes after them
pub apply-put : (w : Net) (s : State) (k : Key) (v : Option Row) → T (is_sorted key_cmp s) → T (is_sorted key_cmp w) → apply_net s (insert_entry key_cmp w k v) ≡ set_row k v (apply_net s w)
apply-put w s k v h sorted =
    same_map key_cmp_total key_cmp-IsAntisymmetric (apply_net s (insert_entry key_cmp w k v)) (set_row k v (apply_net s w)) (sorted_apply (insert_entry key_cmp w k v) s h) (sorted_set_row k v (apply_net s w) (sorted_apply w s h))
    (λ q. row_at-apply (insert_entry key_cmp w k v) s q h (sorted_insert key_cmp_total w k v sorted) ∙ ap (λ o. upon o (row_at s q)) (lookup-insert_entry key_cmp_total q k v w) ∙ by q (is_key q k)
    ∙ ap (cond (is_key q k) v) (sym (row_at-apply w s q h sorted)) ∙ sym (row_at-set_row q k v (apply_net s w) (sorted_apply w s h)))
  where
    by : (q : Key) (b : Bool) → upon (cond b (Some v) (lookup (is_at (key_cmp q)) w)) (row_at s q) ≡ cond b v (upon (lookup (is_at (key_cmp q)) w) (row_at s q))
    by q true = refl
    by q false = refl

pub apply-put_all : (cs w : Net) (s : State) → T (is_sorted key_cmp s) → T (is_sorted key_cmp w) → apply_net s (put_all cs w) ≡ apply_net (apply_net s w) cs
apply-put_all [] w s h sorted = refl
apply-put_all (c ∷ cs) w s h sorted =
    apply-put_all cs _ s h (sorted_insert key_cmp_total w c.0 c.1 sorted) ∙ ap (λ s. apply_net s cs) (apply-put w s c.0 c.1 h sorted)

-- and its key is one of theirs
keys_put : (w : Net) (k : Key) (v : Option Row) → keys_of (insert_entry key_cmp w k v) ≡ insert_key key_cmp (keys_of w) k
keys_put [] k v = refl
keys_put (e ∷ w) k v = by (key_cmp k e.0) (keys_put w k v)
  where
    by : (o : Ordering) → keys_of (insert_entry key_cmp w k v) ≡ insert_key key_cmp (keys_of w) k
        → keys_of (match_ordering o ((k, v) ∷ e ∷ w) ((e.0, v) ∷ w) (e ∷ insert_entry key_cmp w k v)) ≡ match_ordering o (k ∷ e.0 ∷ keys_of w) (e.0 ∷ keys_of w) (e.0 ∷ insert_key key_cmp (keys_of w) k)
    by Less ih = refl
    by Equal ih = refl
    by Greater ih = ap (λ l. e.0 ∷ l) ih

pub keys_put_all : (cs w : Net) → keys_of (put_all cs w) ≡ add_keys (keys_of cs) (keys_of w)
keys_put_all [] w = refl
keys_put_all (c ∷ cs) w = keys_put_all cs _ ∙ ap (add_keys (keys_of cs)) (keys_put w c.0 c.1)

-- ---- what an UPDATE and a DELETE put

-- rows of keys, changed alike
abbrev pub changed_to : (Row → Row) → State → Net
changed_to f m = map (λ e. (e.0, Some (f e.1))) m

pub apply-updates : (p : Key → Bool) (f : Row → Row) (m : State) → T (is_sorted key_cmp m) → apply_net m (changed_to f (filter (λ e. p e.0) m)) ≡ map (λ e. if p e.0 then (e.0, f e.1) else e) m
apply-updates p f m h =
    same_map key_cmp_total key_cmp-IsAntisymmetric (apply_net m (changed_to f kept)) (map (λ e. if p e.0 then (e.0, f e.1) else e) m) (sorted_apply (changed_to f kept) m h) (sorted_changed m h)
    (λ q. row_at-apply (changed_to f kept) m q h (sorted_map (λ row. Some (f row)) kept sorted_kept)
    ∙ ap (λ o. upon o (row_at m q)) (lookup-map (λ row. Some (f row)) q kept ∙ ap (option_map (λ row. Some (f row))) (lookup-filter p q m))
    ∙ by q (p q) (row_at m q) ∙ sym (changed_at q m))
  where
    kept : State
    kept = filter (λ e. p e.0) m

    sorted_kept : T (is_sorted key_cmp kept)
    sorted_kept = is_sorted-where_key key_cmp p m h

    changed : (b : Bool) → Key × Row → Key × Row
    changed b e = if b then (e.0, f e.1) else e

    same : (b : Bool) (e : Key × Row) → (if b then (e.0, f e.1) else e).0 ≡ e.0
    same true e = refl
    same false e = refl

    sorted_changed : (es : State) → T (is_sorted key_cmp es) → T (is_sorted key_cmp (map (λ e. if p e.0 then (e.0, f e.1) else e) es))
    sorted_changed [] h = tt
    sorted_changed (e ∷ es) h =
        both _ _ (subst (λ k. T (below_all key_cmp k (map (λ e. if p e.0 then (e.0, f e.1) else e) es))) (sym (same (p e.0) e)) (below es (first _ _ h))) (sorted_changed es (second _ _ h))
      where
        below : (ds : State) → T (below_all key_cmp e.0 ds) → T (below_all key_cmp e.0 (map (λ e. if p e.0 then (e.0, f e.1) else e) ds))
        below [] h = tt
        below (d ∷ ds) h = both _ _ (subst (λ k. T (is_lt (key_cmp e.0 k))) (sym (same (p d.0) d)) (first _ _ h)) (below ds (second _ _ h))

    by : (q : Key) (b : Bool) (o : Option Row) → upon (option_map (λ row. Some (f row)) (cond b o None)) o ≡ option_map (λ row. cond b (f row) row) o
    by q true None = refl
    by q true (Some row) = refl
    by q false None = refl
    by q false (Some row) = refl

    changed_at : (q : Key) (es : State) → row_at (map (λ e. if p e.0 then (e.0, f e.1) else e) es) q ≡ option_map (λ row. cond (p q) (f row) row) (row_at es q)
    changed_at q [] = refl
    changed_at q (e ∷ es) =
        one (p e.0) ∙ ap (cond (is_key q e.0) (Some (cond (p e.0) (f e.1) e.1))) (changed_at q es) ∙ at (is_key q e.0) refl
      where
        one : (b : Bool) → row_at ((if b then (e.0, f e.1) else e) ∷ map (λ e. if p e.0 then (e.0, f e.1) else e) es) q
            ≡ cond (is_key q e.0) (Some (cond b (f e.1) e.1)) (row_at (map (λ e. if p e.0 then (e.0, f e.1) else e) es) q)
        one true = refl
        one false = refl

        at : (b : Bool) → is_key q e.0 ≡ b → cond b (Some (cond (p e.0) (f e.1) e.1)) (option_map (λ row. cond (p q) (f row) row) (row_at es q))
            ≡ option_map (λ row. cond (p q) (f row) row) (cond b (Some e.1) (row_at es q))
        at true is = ap (λ k. Some (cond (p k) (f e.1) e.1)) (sym (same_key q e.0 is))
        at false is = refl

pub apply-deletions : (p : Key → Bool) (m : State) → T (is_sorted key_cmp m) → apply_net m (deletions (filter (λ e. p e.0) m)) ≡ filter (λ e. not (p e.0)) m
apply-deletions p m h =
    same_map key_cmp_total key_cmp-IsAntisymmetric (apply_net m (deletions kept)) (filter (λ e. not (p e.0)) m) (sorted_apply (deletions kept) m h) (is_sorted-where_key key_cmp (λ k. not (p k)) m h)
    (λ q. row_at-apply (deletions kept) m q h (sorted_map none kept (is_sorted-where_key key_cmp p m h))
    ∙ ap (λ o. upon o (row_at m q)) (lookup-map none q kept ∙ ap (option_map none) (lookup-filter p q m))
    ∙ by q (p q) (row_at m q) ∙ sym (lookup-filter (λ k. not (p k)) q m))
  where
    none : Row → Option Row
    none row = None

    kept : State
    kept = filter (λ e. p e.0) m

    by : (q : Key) (b : Bool) (o : Option Row) → upon (option_map none (cond b o None)) o ≡ cond (not b) o None
    by q true None = refl
    by q true (Some row) = refl
    by q false None = refl
    by q false (Some row) = refl

-- changes of the keys that a test takes
pub apply-filter : (p : Key → Bool) (w : Net) (s : State) → T (is_sorted key_cmp s) → T (is_sorted key_cmp w) → apply_net (filter (λ e. p e.0) s) (filter (λ c. p c.0) w) ≡ filter (λ e. p e.0) (apply_net s w)
apply-filter p w s h sorted =
    same_map key_cmp_total key_cmp-IsAntisymmetric (apply_net (filter (λ e. p e.0) s) (filter (λ c. p c.0) w)) (filter (λ e. p e.0) (apply_net s w)) (sorted_apply (filter (λ c. p c.0) w) (filter (λ e. p e.0) s) kept) (is_sorted-where_key key_cmp p (apply_net s w) (sorted_apply w s h))
    (λ q. row_at-apply (filter (λ c. p c.0) w) (filter (λ e. p e.0) s) q kept (is_sorted-where_key key_cmp p w sorted)
    ∙ (λ i. upon (lookup-filter p q w i) (lookup-filter p q s i)) ∙ by q (p q)
    ∙ ap (λ o. cond (p q) o None) (sym (row_at-apply w s q h sorted)) ∙ sym (lookup-filter p q (apply_net s w)))
  where
    kept : T (is_sorted key_cmp (filter (λ e. p e.0) s))
    kept = is_sorted-where_key key_cmp p s h

    by : (q : Key) (b : Bool) → upon (cond b (lookup (is_at (key_cmp q)) w) None) (cond b (row_at s q) None) ≡ cond b (upon (lookup (is_at (key_cmp q)) w) (row_at s q)) None
    by q true = refl
    by q false = refl
