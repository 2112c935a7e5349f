-- The rows of a transaction that is made again: each key of the net changes has its row, or none.
use Rattle.std.proofs.Common.{◌≡◌, Bool, true, false, cond, ◌||◌, T, [], ◌∷◌, Option, Some, None, refl, ap, ◌∙◌}
use Rattle.std.specs.List.{AllByRecursion}
use Rattle.std.specs.Ordering.{is_eq, is_lt, ordering_reverse}
use Rattle.std.specs.declared.cmp.Ordering.{Ordering}
use Rattle.std.specs.declared.cmp.Ordering.TheVariants.{Less, Equal, Greater}
use Rattle.std.specs.FinMap.{is_sorted}
use Rattle.std.specs.FinMap.Entries.{below_all}
use Rattle.values.specs.declared.key.Key.{Key}
use Rattle.values.specs.Order.{key_cmp, is_key}
use Rattle.values.specs.Log.{Net, Row, State, row_at}
use Rattle.values.specs.Writes.{Own}
use Rattle.values.proofs.OrderTotal.{key_cmp_total, first, second}
use Rattle.values.proofs.LogStates.{row_at-set_row, sorted_set_row}
use Rattle.restoring.specs.Rebuilt.{clear, fill, with_change, without}

-- a key is among those of net changes
abbrev pub is_in : Net → Key → Bool
is_in [] q = false
is_in (c ∷ net) q = is_key q c.0 || is_in net q

gone : (a b : Bool) (x : Option Row) → cond a None (cond b None x) ≡ cond (b || a) None x
gone true true x = refl
gone true false x = refl
gone false true x = refl
gone false false x = refl

pub cleared_order : (net : Net) (o : Own) → T (is_sorted key_cmp o.rows) → T (is_sorted key_cmp (clear net o).rows)
cleared_order [] o h = h
cleared_order (c ∷ net) o h = cleared_order net (without c.0 o) (sorted_set_row c.0 None o.rows h)

pub cleared : (net : Net) (o : Own) (q : Key) → T (is_sorted key_cmp o.rows) → row_at (clear net o).rows q ≡ cond (is_in net q) None (row_at o.rows q)
cleared [] o q h = refl
cleared (c ∷ net) o q h =
    cleared net (without c.0 o) q (sorted_set_row c.0 None o.rows h)
    ∙ ap (cond (is_in net q) None) (row_at-set_row q c.0 None o.rows h)
    ∙ gone (is_in net q) (is_key q c.0) (row_at o.rows q)

-- a key below another is not that key, either way round
other_by : (o : Ordering) → T (is_lt o) → is_eq o ≡ false
other_by Less h = refl
other_by Equal h = absurd h
other_by Greater h = absurd h

other : (k q : Key) → T (is_lt (key_cmp k q)) → is_key k q ≡ false
other k q h = other_by (key_cmp k q) h

other_back_by : (o : Ordering) → T (is_lt o) → is_eq (ordering_reverse o) ≡ false
other_back_by Less h = refl
other_back_by Equal h = absurd h
other_back_by Greater h = absurd h

other_back : (k q : Key) → T (is_lt (key_cmp k q)) → is_key q k ≡ false
other_back k q h = ap is_eq (key_cmp_total.antisymm q k) ∙ other_back_by (key_cmp k q) h

pub itself : (k : Key) → is_key k k ≡ true
itself k = by (key_cmp k k) (key_cmp_total.antisymm k k)
  where
    by : (o : Ordering) → o ≡ ordering_reverse o → is_eq o ≡ true
    by Less e = cc
    by Equal e = refl
    by Greater e = cc

changed_order : (key : Key) (v : Option Row) (o : Own) → T (is_sorted key_cmp o.rows) → T (is_sorted key_cmp (with_change key v o).rows)
changed_order key None o h = h
changed_order key (Some row) o h = sorted_set_row key (Some row) o.rows h

pub filled_order : (net : Net) (o : Own) → T (is_sorted key_cmp o.rows) → T (is_sorted key_cmp (fill net o).rows)
filled_order [] o h = h
filled_order (c ∷ net) o h = filled_order net (with_change c.0 c.1 o) (changed_order c.0 c.1 o h)

-- what a change leaves at another key
kept : (key : Key) (v : Option Row) (o : Own) (q : Key) → T (is_sorted key_cmp o.rows) → is_key q key ≡ false → row_at (with_change key v o).rows q ≡ row_at o.rows q
kept key None o q h e = refl
kept key (Some row) o q h e = row_at-set_row q key (Some row) o.rows h ∙ ap (λ b. cond b (Some row) (row_at o.rows q)) e

-- and at its own, where there was none
its : (key : Key) (v : Option Row) (o : Own) → T (is_sorted key_cmp o.rows) → row_at o.rows key ≡ None → row_at (with_change key v o).rows key ≡ v
its key None o h none = none
its key (Some row) o h none = row_at-set_row key key (Some row) o.rows h ∙ ap (λ b. cond b (Some row) (row_at o.rows key)) (itself key)

-- net changes above a key leave it
above : (net : Net) (o : Own) (k : Key) → T (is_sorted key_cmp o.rows) → T (below_all key_cmp k net) → row_at (fill net o).rows k ≡ row_at o.rows k
above [] o k h below = refl
above (c ∷ net) o k h below =
    above net (with_change c.0 c.1 o) k (changed_order c.0 c.1 o h) (second _ _ below)
    ∙ kept c.0 c.1 o k h (other k c.0 (first _ _ below))

abbrev AreAbsent : State → Net → Type 0
AreAbsent m net = AllByRecursion (λ c. row_at m c.0 ≡ None) net

still_absent : (key : Key) (v : Option Row) (o : Own) (net : Net) → T (is_sorted key_cmp o.rows) → T (below_all key_cmp key net) → AreAbsent o.rows net → AreAbsent (with_change key v o).rows net
still_absent key v o [] h below absent = tt
still_absent key v o (c ∷ net) h below absent =
    (kept key v o c.0 h (other_back key c.0 (first _ _ below)) ∙ absent.0, still_absent key v o net h (second _ _ below) absent.1)

pub filled : (net : Net) (o : Own) → T (is_sorted key_cmp o.rows) → T (is_sorted key_cmp net) → AreAbsent o.rows net → AllByRecursion (λ c. row_at (fill net o).rows c.0 ≡ c.1) net
filled [] o h in_order absent = tt
filled (c ∷ net) o h in_order absent = (
  above net (with_change c.0 c.1 o) c.0 (changed_order c.0 c.1 o h) (first _ _ in_order) ∙ its c.0 c.1 o h absent.0,
  filled net (with_change c.0 c.1 o) (changed_order c.0 c.1 o h) (second _ _ in_order) (still_absent c.0 c.1 o net h (first _ _ in_order) absent.1),
)

-- after all keys are deleted none is there
all_gone : (m : State) (net more : Net) → ((q : Key) → row_at m q ≡ cond (is_in net q) None (row_at m q)) → ((q : Key) → is_in more q ≡ true → is_in net q ≡ true) → AreAbsent m more
all_gone m net [] says inside = tt
all_gone m net (c ∷ more) says inside = (
  says c.0 ∙ ap (λ b. cond b None (row_at m c.0)) (inside c.0 (ap (λ b. b || is_in more c.0) (itself c.0))),
  all_gone m net more says (λ q e. inside q (later (is_key q c.0) (is_in more q) e)),
)
  where
    later : (a b : Bool) → b ≡ true → (a || b) ≡ true
    later true b e = refl
    later false b e = e

pub none_left : (net : Net) (o : Own) → T (is_sorted key_cmp o.rows) → AreAbsent (clear net o).rows net
none_left net o h = all_gone (clear net o).rows net net (λ q. again (is_in net q) (row_at o.rows q) (row_at (clear net o).rows q) (cleared net o q h)) (λ q e. e)
  where
    again : (b : Bool) (x y : Option Row) → y ≡ cond b None x → y ≡ cond b None y
    again true x y e = e
    again false x y e = refl
