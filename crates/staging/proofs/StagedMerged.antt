-- Writes in order by key are put over rows in order by key in one pass.
use Rattle.std.proofs.Common.{◌≡◌, false, cond, List, [], ◌∷◌, ◌++◌, Option, Some, None, All, refl, sym, ap, subst, ◌∙◌, append_assoc}
use Rattle.std.proofs.lemmas.Cmp.{tied_itself}
use Rattle.std.proofs.lemmas.List.Elements.{All-push, All-head, All-tail}
use Rattle.std.specs.BTreeMap.{insert_entry, is_at}
use Rattle.std.specs.List.{AllByRecursion, cons_option}
use Rattle.std.specs.List.Sorted.{IsStrictlySortedBy}
use Rattle.std.specs.Map.{keys_of, remove_entry}
use Rattle.std.specs.Option.{option_map}
use Rattle.std.specs.Ordering.{is_eq, is_le, match_ordering, ordering_reverse}
use Rattle.std.specs.declared.cmp.Ordering.{Ordering}
use Rattle.std.specs.declared.cmp.Ordering.TheVariants.{Less, Equal, Greater}
use Rattle.values.specs.declared.key.Key.{Key}
use Rattle.values.specs.KeyEncoding.{IsShortKey}
use Rattle.values.specs.Log.{Net, Row, State, apply_net, set_row}
use Rattle.values.specs.Order.{key_cmp}
use Rattle.values.proofs.OrderTotal.{key_cmp_total, key_cmp-IsAntisymmetric}
use Rattle.eventlist.proofs.PlaceOrder.{sorted_head, sorted_tail}
use Rattle.staging.specs.Staged.{starts_upto, AreShort, PutsNext}

-- each of the keys is above one
abbrev pub Above : Key → List Key → Type 0
Above key keys = AllByRecursion (λ k. key_cmp key k ≡ Less) keys

after : (k l : Key) → key_cmp k l ≡ Less → key_cmp l k ≡ Greater
after k l less = key_cmp_total.antisymm l k ∙ ap ordering_reverse less

above_more : (k l : Key) (keys : List Key) → key_cmp k l ≡ Less → Above l keys → Above k keys
above_more k l [] less h = tt
above_more k l (x ∷ keys) less h = (key_cmp_total.trans k l x less h.0, above_more k l keys less h.1)

-- ---- one write

set_behind : (e : Key × Row) (m : State) (k : Key) (v : Option Row) → key_cmp k e.0 ≡ Greater → set_row k v (e ∷ m) ≡ e ∷ set_row k v m
set_behind e m k (Some row) is = ap (λ o. match_ordering o ((k, row) ∷ e ∷ m) ((e.0, row) ∷ m) (e ∷ insert_entry key_cmp m k row)) is
set_behind e m k None is = ap (λ (o : Ordering). cond (is_eq o) m (e ∷ remove_entry (is_at (key_cmp k)) m)) is

none_removed : (k : Key) (m : State) → Above k (keys_of m) → remove_entry (is_at (key_cmp k)) m ≡ m
none_removed k [] h = refl
none_removed k (e ∷ m) h =
    ap (λ (o : Ordering). cond (is_eq o) m (e ∷ remove_entry (is_at (key_cmp k)) m)) h.0 ∙ ap (λ l. e ∷ l) (none_removed k m h.1)

-- before rows of greater keys a row goes first
set_first : (k : Key) (v : Option Row) (m : State) → Above k (keys_of m) → set_row k v m ≡ cons_option (option_map (λ row. (k, row)) v) m
set_first k None m h = none_removed k m h
set_first k (Some row) [] h = refl
set_first k (Some row) (e ∷ m) h = ap (λ o. match_ordering o ((k, row) ∷ e ∷ m) ((e.0, row) ∷ m) (e ∷ insert_entry key_cmp m k row)) h.0

-- the key's own row does not matter
set_own : (e : Key × Row) (m : State) (v : Option Row) → Above e.0 (keys_of m) → set_row e.0 v (e ∷ m) ≡ set_row e.0 v m
set_own e m None h =
    ap (λ (o : Ordering). cond (is_eq o) m (e ∷ remove_entry (is_at (key_cmp e.0)) m)) (tied_itself key_cmp_total e.0) ∙ sym (none_removed e.0 m h)
set_own e m (Some row) h =
    ap (λ o. match_ordering o ((e.0, row) ∷ e ∷ m) ((e.0, row) ∷ m) (e ∷ insert_entry key_cmp m e.0 row)) (tied_itself key_cmp_total e.0) ∙ sym (set_first e.0 (Some row) m h)

-- ---- many

-- writes of greater keys leave a row first
apply_behind : (e : Key × Row) (m : State) (w : Net) → Above e.0 (keys_of w) → apply_net (e ∷ m) w ≡ e ∷ apply_net m w
apply_behind e m [] h = refl
apply_behind e m (c ∷ w) h = ap (λ s. apply_net s w) (set_behind e m c.0 c.1 (after e.0 c.0 h.0)) ∙ apply_behind e (set_row c.0 c.1 m) w h.1

-- ---- rows up to a key are moved

-- the rows and the rest are in all the same as before, once the key's write and writes of greater keys are put over the rest
pub record MovesUpto (k : Key) (v : Option Row) (rows rest new_rows new_rest : State) : Type 0 where
  pub put : (w : Net) → IsStrictlySortedBy key_cmp (k ∷ keys_of w) → new_rows ++ apply_net new_rest ((k, v) ∷ w) ≡ rows ++ apply_net rest ((k, v) ∷ w)
  pub ordered : IsStrictlySortedBy key_cmp (keys_of new_rest)

pub moved_none : (k : Key) (v : Option Row) (rows rest : State) → IsStrictlySortedBy key_cmp (keys_of rest) → MovesUpto k v rows rest rows rest
moved_none k v rows rest sorted = record { put = λ w h. refl; ordered = sorted }

module _ (k : Key) (v : Option Row) (rows rest old_rows old_rest new_rest : State) (e : Key × Row) (is : old_rest ≡ e ∷ new_rest) (moves : MovesUpto k v rows rest old_rows old_rest) where
  ordered : IsStrictlySortedBy key_cmp (keys_of (e ∷ new_rest))
  ordered = subst (λ m. IsStrictlySortedBy key_cmp (keys_of m)) is moves.ordered

  -- a row of a lesser key goes behind the rows
  pub moved_below : (new_rows : State) → key_cmp e.0 k ≡ Less → new_rows ≡ old_rows ++ e ∷ [] → MovesUpto k v rows rest new_rows new_rest
  moved_below new_rows less pushed = record {
    put = λ w h.
        ap (λ l. l ++ apply_net new_rest ((k, v) ∷ w)) pushed
        ∙ append_assoc old_rows (e ∷ []) (apply_net new_rest ((k, v) ∷ w))
        ∙ ap (λ l. old_rows ++ l) (sym (apply_behind e new_rest ((k, v) ∷ w) (less, above_more e.0 k (keys_of w) less (sorted_head key_cmp k (keys_of w) h))))
        ∙ sym (ap (λ m. old_rows ++ apply_net m ((k, v) ∷ w)) is)
        ∙ moves.put w h;
    ordered = sorted_tail key_cmp e.0 (keys_of new_rest) ordered;
  }

  -- the key's own row is dropped
  pub moved_own : key_cmp e.0 k ≡ Equal → MovesUpto k v rows rest old_rows new_rest
  moved_own tied = record {
    put = λ w h.
        ap (λ s. old_rows ++ apply_net s w) (sym own) ∙ sym (ap (λ m. old_rows ++ apply_net m ((k, v) ∷ w)) is) ∙ moves.put w h;
    ordered = sorted_tail key_cmp e.0 (keys_of new_rest) ordered;
  }
    where
      own : set_row k v (e ∷ new_rest) ≡ set_row k v new_rest
      own = subst (λ q. set_row q v (e ∷ new_rest) ≡ set_row q v new_rest) (key_cmp-IsAntisymmetric e.0 k tied) (set_own e new_rest v (sorted_head key_cmp e.0 (keys_of new_rest) ordered))

-- a rest that does not start up to the key is above it
rest_above : (k : Key) (m : State) → IsStrictlySortedBy key_cmp (keys_of m) → starts_upto k m ≡ false → Above k (keys_of m)
rest_above k [] h past = tt
rest_above k (e ∷ m) h past =
    let less : key_cmp k e.0 ≡ Less = key_cmp_total.antisymm k e.0 ∙ ap ordering_reverse (greater (key_cmp e.0 k) past) in
    (less, above_more k e.0 (keys_of m) less (sorted_head key_cmp e.0 (keys_of m) h))
  where
    greater : (o : Ordering) → is_le o ≡ false → o ≡ Greater
    greater Less h = cc
    greater Equal h = cc
    greater Greater h = refl

-- and the key's row goes before it
pub put_there : (k : Key) (v : Option Row) (rows rest old_rows new_rows new_rest : State) → MovesUpto k v rows rest old_rows new_rest → starts_upto k new_rest ≡ false → new_rows ≡ old_rows ++ cons_option (option_map (λ row. (k, row)) v) []
    → PutsNext k v rows rest new_rows new_rest
put_there k v rows rest old_rows new_rows new_rest moves past pushed = record {
  put = λ w h.
      ap (λ l. l ++ apply_net new_rest w) pushed
      ∙ by v w (sorted_head key_cmp k (keys_of w) h)
      ∙ ap (λ s. old_rows ++ apply_net s w) (sym (set_first k v new_rest (rest_above k new_rest moves.ordered past)))
      ∙ moves.put w h;
  ordered = moves.ordered;
}
  where
    by : (v : Option Row) (w : Net) → Above k (keys_of w) → (old_rows ++ cons_option (option_map (λ row. (k, row)) v) []) ++ apply_net new_rest w ≡ old_rows ++ apply_net (cons_option (option_map (λ row. (k, row)) v) new_rest) w
    by None w h = append_assoc old_rows [] (apply_net new_rest w)
    by (Some row) w h =
        append_assoc old_rows ((k, row) ∷ []) (apply_net new_rest w) ∙ ap (λ l. old_rows ++ l) (sym (apply_behind (k, row) new_rest w h))

-- ---- the writes that a search takes

-- rows and the rest of them, once the writes to come are put over the rest, are in all as before
pub record MovesAll (rows rest new_rows new_rest : State) (writes left : Net) : Type 0 where
  pub put : new_rows ++ apply_net new_rest left ≡ rows ++ apply_net rest writes
  pub ordered : IsStrictlySortedBy key_cmp (keys_of new_rest)

-- one more of them is put
pub moved_more : (k : Key) (v : Option Row) (rows rest old_rows old_rest new_rows new_rest : State) (writes left : Net) → MovesAll rows rest old_rows old_rest writes ((k, v) ∷ left) → IsStrictlySortedBy key_cmp (k ∷ keys_of left)
    → (IsStrictlySortedBy key_cmp (keys_of old_rest) → PutsNext k v old_rows old_rest new_rows new_rest) → MovesAll rows rest new_rows new_rest writes left
moved_more k v rows rest old_rows old_rest new_rows new_rest writes left moves sorted puts = record {
  put = (puts moves.ordered).put left sorted ∙ moves.put;
  ordered = (puts moves.ordered).ordered;
}

-- a write that is not taken is passed over
pub moved_same : (rows rest old_rows old_rest : State) (writes left more : Net) → left ≡ more → MovesAll rows rest old_rows old_rest writes left → MovesAll rows rest old_rows old_rest writes more
moved_same rows rest old_rows old_rest writes left more is moves = subst (λ w. MovesAll rows rest old_rows old_rest writes w) is moves

-- ---- short keys

module _ (rows rest new_rows : State) (e : Key × Row) where
  -- a row goes from the rest behind the rows
  pub short_moved : (old_rest : State) → old_rest ≡ e ∷ rest → new_rows ≡ rows ++ e ∷ [] → AreShort rows old_rest → AreShort new_rows rest
  short_moved old_rest is pushed h =
      let all : All (λ e. IsShortKey e.0) (e ∷ rest) = subst (All (λ e. IsShortKey e.0)) is h.of_rest in
      record {
        of_rows = subst (All (λ e. IsShortKey e.0)) (sym pushed) (All-push (λ e. IsShortKey e.0) rows e h.of_rows (All-head (λ (e : Key × Row). IsShortKey e.0) e rest all));
        of_rest = All-tail (λ (e : Key × Row). IsShortKey e.0) e rest all;
      }

  -- or is dropped
  pub short_dropped : (old_rest : State) → old_rest ≡ e ∷ rest → AreShort rows old_rest → AreShort rows rest
  short_dropped old_rest is h =
      record { of_rows = h.of_rows; of_rest = All-tail (λ (e : Key × Row). IsShortKey e.0) e rest (subst (All (λ e. IsShortKey e.0)) is h.of_rest) }

  -- a new row goes behind the rows
  pub short_put : IsShortKey e.0 → new_rows ≡ rows ++ e ∷ [] → AreShort rows rest → AreShort new_rows rest
  short_put short pushed h =
      record { of_rows = subst (All (λ e. IsShortKey e.0)) (sym pushed) (All-push (λ e. IsShortKey e.0) rows e h.of_rows short); of_rest = h.of_rest }
