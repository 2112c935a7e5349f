-- The keys that a transaction wrote that is made again are those of the net changes.
use Rattle.std.proofs.Common.{◌≡◌, Bool, true, false, cond, ◌&&◌, ◌||◌, T, List, [], ◌∷◌, Option, Some, None, refl, sym, ap, ◌∙◌}
use Rattle.std.specs.Prelude.{is_some, if◌then◌else◌}
use Rattle.std.specs.List.{AllByRecursion, list_any}
use Rattle.std.specs.Ordering.{is_eq}
use Rattle.std.specs.declared.cmp.Ordering.{Ordering}
use Rattle.std.specs.declared.cmp.Ordering.TheVariants.{Less, Equal, Greater}
use Rattle.std.specs.BTreeSet.{insert_key}
use Rattle.std.specs.Map.{keys_of}
use Rattle.std.specs.FinMap.{is_sorted}
use Rattle.std.specs.FinMap.Entries.{below_all}
use Rattle.values.specs.declared.key.Key.{Key}
use Rattle.values.specs.Order.{key_cmp, is_key}
use Rattle.values.specs.Log.{Net, Row, State, row_at}
use Rattle.values.specs.Writes.{Own}
use Rattle.values.proofs.OrderTotal.{key_cmp_total, key_cmp-IsAntisymmetric, first, second, both}
use Rattle.values.proofs.LogStates.{row_at-set_row, sorted_set_row}
use Rattle.restoring.specs.Rebuilt.{clear, fill, with_change, without, rebuilt, untouched, IsNetOver}
use Rattle.restoring.proofs.RebuiltRows.{is_in}
use Rattle.restoring.proofs.RebuiltSets as sets

abbrev among : Key → List Key → Bool
among q ks = list_any (is_key q) ks

inserted : (q k : Key) (ls : List Key) → among q (insert_key key_cmp ls k) ≡ (is_key q k || among q ls)
inserted = sets.inserted key_cmp key_cmp_total key_cmp-IsAntisymmetric

same_key : {P : Type 0} (q k : Key) (b : Bool) → is_key q k ≡ b → (q ≡ k → b ≡ true → P) → (b ≡ false → P) → P
same_key q k true e is no_more = is (by (key_cmp q k) refl e) refl
  where
    by : (o : Ordering) → key_cmp q k ≡ o → is_eq o ≡ true → q ≡ k
    by Less is e = cc
    by Equal is e = key_cmp-IsAntisymmetric q k is
    by Greater is e = cc
same_key q k false e is no_more = no_more refl

-- ---- which keys were written

one : (q k : Key) (there : Bool) (ls : List Key) → among q (if there then insert_key key_cmp ls k else ls) ≡ (among q ls || (is_key q k && there))
one q k true ls = inserted q k ls ∙ by (is_key q k) (among q ls)
  where
    by : (a r : Bool) → (a || r) ≡ (r || (a && true))
    by true true = refl
    by true false = refl
    by false true = refl
    by false false = refl
one q k false ls = by (is_key q k) (among q ls)
  where
    by : (a r : Bool) → r ≡ (r || (a && false))
    by true true = refl
    by true false = refl
    by false true = refl
    by false false = refl

cleared_keys : (net : Net) (o : Own) (q : Key) → T (is_sorted key_cmp o.rows) → among q (clear net o).written ≡ (among q o.written || (is_in net q && is_some (row_at o.rows q)))
cleared_keys [] o q h = none (among q o.written)
  where
    none : (r : Bool) → r ≡ (r || false)
    none true = refl
    none false = refl
cleared_keys (c ∷ net) o q h =
    cleared_keys net (without c.0 o) q (sorted_set_row c.0 None o.rows h)
    ∙ (λ i. one q c.0 (is_some (row_at o.rows c.0)) o.written i || (is_in net q && is_some (row_at-set_row q c.0 None o.rows h i)))
    ∙ same_key q c.0 (is_key q c.0) refl
    (λ same e. (λ i. (among q o.written || (e i && is_some (row_at o.rows (sym same i)))) || (is_in net q && is_some (cond (e i) None (row_at o.rows q))))
    ∙ here (among q o.written) (is_some (row_at o.rows q)) (is_in net q)
    ∙ (λ i. among q o.written || ((sym e i || is_in net q) && is_some (row_at o.rows q))))
    (λ e. (λ i. (among q o.written || (e i && is_some (row_at o.rows c.0))) || (is_in net q && is_some (cond (e i) None (row_at o.rows q))))
    ∙ there (among q o.written) (is_in net q && is_some (row_at o.rows q))
    ∙ (λ i. among q o.written || ((sym e i || is_in net q) && is_some (row_at o.rows q))))
  where
    here : (r s n : Bool) → ((r || (true && s)) || (n && false)) ≡ (r || ((true || n) && s))
    here true s true = refl
    here true s false = refl
    here false true true = refl
    here false true false = refl
    here false false true = refl
    here false false false = refl

    there : (r x : Bool) → ((r || false) || x) ≡ (r || x)
    there true x = refl
    there false x = refl

abbrev has_row : Net → Key → Bool
has_row [] q = false
has_row (c ∷ net) q = (is_key q c.0 && is_some c.1) || has_row net q

changed_keys : (q k : Key) (v : Option Row) (o : Own) → among q (with_change k v o).written ≡ (among q o.written || (is_key q k && is_some v))
changed_keys q k None o = one q k false o.written
changed_keys q k (Some row) o = one q k true o.written

filled_keys : (net : Net) (o : Own) (q : Key) → among q (fill net o).written ≡ (among q o.written || has_row net q)
filled_keys [] o q = none (among q o.written)
  where
    none : (r : Bool) → r ≡ (r || false)
    none true = refl
    none false = refl
filled_keys (c ∷ net) o q =
    filled_keys net (with_change c.0 c.1 o) q ∙ ap (λ r. r || has_row net q) (changed_keys q c.0 c.1 o)
    ∙ joined (among q o.written) (is_key q c.0 && is_some c.1) (has_row net q)
  where
    joined : (a b c : Bool) → ((a || b) || c) ≡ (a || (b || c))
    joined true b c = refl
    joined false b c = refl

-- each key that was removed was there, so every key was written
all_written : (m : State) (net : Net) (q : Key) → AllByRecursion (λ c. (is_some c.1 || is_some (row_at m c.0)) ≡ true) net → ((is_in net q && is_some (row_at m q)) || has_row net q) ≡ is_in net q
all_written m [] q there = refl
all_written m (c ∷ net) q there =
    same_key q c.0 (is_key q c.0) refl
    (λ same e. (λ i. ((e i || is_in net q) && is_some (row_at m q)) || ((e i && is_some c.1) || has_row net q))
    ∙ its (is_some (row_at m q)) (is_some c.1) (has_row net q) (ap (λ k. is_some c.1 || is_some (row_at m k)) same ∙ there.0)
    ∙ (λ i. sym e i || is_in net q))
    (λ e. (λ i. ((e i || is_in net q) && is_some (row_at m q)) || ((e i && is_some c.1) || has_row net q)) ∙ all_written m net q there.1 ∙ (λ i. sym e i || is_in net q))
  where
    its : (s v r : Bool) → (v || s) ≡ true → ((true && s) || ((true && v) || r)) ≡ true
    its true v r e = refl
    its false true r e = refl
    its false false r e = cc

keys_among : (net : Net) (q : Key) → among q (keys_of net) ≡ is_in net q
keys_among [] q = refl
keys_among (c ∷ net) q = ap (λ r. is_key q c.0 || r) (keys_among net q)

same_members : (m : State) (net : Net) (q : Key) → T (is_sorted key_cmp m) → IsNetOver m net → among q (rebuilt m net).written ≡ among q (keys_of net)
same_members m net q h is =
    filled_keys net (clear net (untouched m)) q ∙ ap (λ r. r || has_row net q) (cleared_keys net (untouched m) q h)
    ∙ all_written m net q is.there ∙ sym (keys_among net q)

-- ---- a set of keys in order

abbrev units : List Key → List (Key × Unit {0})
units ks = sets.units key_cmp key_cmp_total key_cmp-IsAntisymmetric ks

abbrev InOrder : List Key → Type 0
InOrder ks = sets.InOrder key_cmp key_cmp_total key_cmp-IsAntisymmetric ks

in_order_inserted : (ks : List Key) (k : Key) → InOrder ks → InOrder (insert_key key_cmp ks k)
in_order_inserted = sets.in_order_inserted key_cmp key_cmp_total key_cmp-IsAntisymmetric

in_order_if : (b : Bool) (ks : List Key) (k : Key) → InOrder ks → InOrder (if b then insert_key key_cmp ks k else ks)
in_order_if true ks k h = in_order_inserted ks k h
in_order_if false ks k h = h

cleared_in_order : (net : Net) (o : Own) → InOrder o.written → InOrder (clear net o).written
cleared_in_order [] o h = h
cleared_in_order (c ∷ net) o h = cleared_in_order net (without c.0 o) (in_order_if (is_some (row_at o.rows c.0)) o.written c.0 h)

changed_in_order : (k : Key) (v : Option Row) (o : Own) → InOrder o.written → InOrder (with_change k v o).written
changed_in_order k None o h = h
changed_in_order k (Some row) o h = in_order_inserted o.written k h

filled_in_order : (net : Net) (o : Own) → InOrder o.written → InOrder (fill net o).written
filled_in_order [] o h = h
filled_in_order (c ∷ net) o h = filled_in_order net (with_change c.0 c.1 o) (changed_in_order c.0 c.1 o h)

below_units : (k : Key) (net : Net) → T (below_all key_cmp k net) → T (below_all key_cmp k (units (keys_of net)))
below_units k [] h = tt
below_units k (c ∷ net) h = both _ _ (first _ _ h) (below_units k net (second _ _ h))

pub net_in_order : (net : Net) → T (is_sorted key_cmp net) → InOrder (keys_of net)
net_in_order [] h = tt
net_in_order (c ∷ net) h = both _ _ (below_units c.0 net (first _ _ h)) (net_in_order net (second _ _ h))

pub written_keys : (m : State) (net : Net) → T (is_sorted key_cmp m) → IsNetOver m net → (rebuilt m net).written ≡ keys_of net
written_keys m net h is =
    sets.same_set key_cmp key_cmp_total key_cmp-IsAntisymmetric (rebuilt m net).written (keys_of net)
    (filled_in_order net (clear net (untouched m)) (cleared_in_order net (untouched m) tt))
    (net_in_order net is.in_order)
    (λ q. same_members m net q h is)
