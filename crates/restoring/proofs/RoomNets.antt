-- What is written on the way are keys of the net changes, so there is room for them.
use Rattle.std.proofs.Common.{◌≡◌, ◌≤◌, Bool, true, false, ◌||◌, T, List, [], ◌∷◌, Option, Some, None, refl, sym, ap, subst, ◌∙◌, length, arith, is_some}
use Rattle.std.specs.Prelude.{if◌then◌else◌, suc}
use Rattle.std.specs.Ordering.{is_eq, is_lt, ordering_reverse}
use Rattle.std.specs.declared.cmp.Ordering.{Ordering}
use Rattle.std.specs.declared.cmp.Ordering.TheVariants.{Less, Equal, Greater}
use Rattle.std.specs.BTreeSet.{insert_key}
use Rattle.std.specs.Map.{keys_of}
use Rattle.std.specs.FinMap.Entries.{below_all}
use Rattle.values.specs.declared.key.Key.{Key}
use Rattle.values.specs.Order.{key_cmp, is_key}
use Rattle.values.specs.Log.{Net, Row, row_at}
use Rattle.values.specs.Writes.{Own, most_written}
use Rattle.values.proofs.OrderTotal.{key_cmp_total, key_cmp-IsAntisymmetric, first, second, both}
use Rattle.restoring.specs.Rebuilt.{clear, untouched, with_change, without}
use Rattle.restoring.specs.Room.{HasRoomToClear, HasRoomToFill, FewNetsHaveRoom}
use Rattle.restoring.proofs.RebuiltSets.{InOrder, among, in_order_inserted, inserted, units}
use Rattle.restoring.proofs.RebuiltKeys.{net_in_order}
use Rattle.restoring.proofs.RebuiltRows.{itself}

abbrev Sorted : List Key → Type 0
Sorted ks = InOrder key_cmp key_cmp_total key_cmp-IsAntisymmetric ks

abbrev has : Key → List Key → Bool
has q ks = among key_cmp key_cmp_total key_cmp-IsAntisymmetric q ks

abbrev below : Key → List Key → Type 0
below k ks = T (below_all key_cmp k (units key_cmp key_cmp_total key_cmp-IsAntisymmetric ks))

abbrev Inside : List Key → List Key → Type 0
Inside ks ls = (q : Key) → has q ks ≡ true → has q ls ≡ true

not_equal : (o : Ordering) → T (is_lt o) → is_eq o ≡ false
not_equal Less h = refl
not_equal Equal h = absurd h
not_equal Greater h = absurd h

-- a key below others is none of them
absent : (k : Key) (ks : List Key) → below k ks → has k ks ≡ false
absent k [] h = refl
absent k (x ∷ ks) h = (λ i. not_equal (key_cmp k x) (first _ _ h) i || has k ks) ∙ absent k ks (second _ _ h)

lower : (k l : Key) (ls : List Key) → T (is_lt (key_cmp k l)) → below l ls → below k ls
lower k l [] h rest = tt
lower k l (x ∷ ls) h rest = both _ _ (through (key_cmp k l) (key_cmp l x) refl refl h (first _ _ rest)) (lower k l ls h (second _ _ rest))
  where
    through : (a b : Ordering) → key_cmp k l ≡ a → key_cmp l x ≡ b → T (is_lt a) → T (is_lt b) → T (is_lt (key_cmp k x))
    through Less Less e f h i = subst (λ o. T (is_lt o)) (sym (key_cmp_total.trans k l x e f)) tt
    through Less Equal e f h i = absurd i
    through Less Greater e f h i = absurd i
    through Equal b e f h i = absurd h
    through Greater b e f h i = absurd h

here : (k : Key) (ks : List Key) → has k (k ∷ ks) ≡ true
here k ks = ap (λ b. b || has k ks) (itself k)

behind : (q k : Key) (ks : List Key) → has q ks ≡ true → has q (k ∷ ks) ≡ true
behind q k ks e = by (is_key q k) (has q ks) e
  where
    by : (a b : Bool) → b ≡ true → (a || b) ≡ true
    by true b e = refl
    by false b e = e

-- of two keys that are not the same, one is none of the others
apart : (q l : Key) (rest : List Key) → has q (l ∷ rest) ≡ true → (q ≡ l → ⊥) → has q rest ≡ true
apart q l rest e other = by (key_cmp q l) refl e
  where
    by : (o : Ordering) → key_cmp q l ≡ o → (is_eq o || has q rest) ≡ true → has q rest ≡ true
    by Less is e = e
    by Equal is e = absurd (other (key_cmp-IsAntisymmetric q l is))
    by Greater is e = e

clash : (b : Bool) → b ≡ true → b ≡ false → ⊥
clash true e f = cc
clash false e f = cc

-- a part of a set is not longer
not_longer : (ls ks : List Key) → Sorted ks → Sorted ls → Inside ks ls → length ks ≤ length ls
not_longer [] [] sk sl inside = omega arith
not_longer [] (k ∷ ks) sk sl inside = absurd (clash false (inside k (here k ks)) refl)
not_longer (l ∷ ls) [] sk sl inside = omega arith
not_longer (l ∷ ls) (k ∷ ks) sk sl inside =
    by (key_cmp k l) refl
    (λ more. not_longer ls ks (second _ _ sk) (second _ _ sl) more)
    (λ more. not_longer ls (k ∷ ks) sk (second _ _ sl) more)
  where
    gone : (q : Key) (front : Key) (rest : List Key) → below front rest → has q rest ≡ true → q ≡ front → ⊥
    gone q front rest h e same = clash (has front rest) (subst (λ x. has x rest ≡ true) same e) (absent front rest h)

    by : (o : Ordering) → key_cmp k l ≡ o → (Inside ks ls → length ks ≤ length ls) → (Inside (k ∷ ks) ls → length (k ∷ ks) ≤ length ls) → length (k ∷ ks) ≤ length (l ∷ ls)
    by Equal e tails whole =
        let same : k ≡ l = key_cmp-IsAntisymmetric k l e in
        let le : length ks ≤ length ls = tails (λ q is. apart q l ls (inside q (behind q k ks is)) (λ at. gone q k ks (first _ _ sk) is (at ∙ sym same))) in
        omega arith
    by Less e tails whole =
        let lt : T (is_lt (key_cmp k l)) = subst (λ o. T (is_lt o)) (sym e) tt in
        absurd (clash (has k (l ∷ ls)) (inside k (here k ks)) ((λ i. not_equal (key_cmp k l) lt i || has k ls) ∙ absent k ls (lower k l ls lt (first _ _ sl))))
    by Greater e tails whole =
        let lt : T (is_lt (key_cmp l k)) = subst (λ o. T (is_lt o)) (sym (key_cmp_total.antisymm l k ∙ ap ordering_reverse e)) tt in
        let all : below l (k ∷ ks) = both _ _ lt (lower l k ks lt (first _ _ sk)) in
        let le : length (k ∷ ks) ≤ length ls = whole (λ q is. apart q l ls (inside q is) (λ at. gone q l (k ∷ ks) all is at)) in
        omega arith

-- ---- what is written on the way

record Within (ks : List Key) (all : List Key) : Type 0 where
  in_order : Sorted ks
  inside : Inside ks all

one_more : (ks all : List Key) (k : Key) → Within ks all → has k all ≡ true → Within (insert_key key_cmp ks k) all
one_more ks all k w is = record {
  in_order = in_order_inserted key_cmp key_cmp_total key_cmp-IsAntisymmetric ks k w.in_order;
  inside = λ q e. by q (key_cmp q k) refl (sym (inserted key_cmp key_cmp_total key_cmp-IsAntisymmetric q k ks) ∙ e);
}
  where
    by : (q : Key) (o : Ordering) → key_cmp q k ≡ o → (is_key q k || has q ks) ≡ true → has q all ≡ true
    by q Less e is_in = w.inside q (ap (λ o. is_eq o || has q ks) (sym e) ∙ is_in)
    by q Equal e is_in = subst (λ x. has x all ≡ true) (sym (key_cmp-IsAntisymmetric q k e)) is
    by q Greater e is_in = w.inside q (ap (λ o. is_eq o || has q ks) (sym e) ∙ is_in)

one_or_none : (b : Bool) (ks all : List Key) (k : Key) → Within ks all → has k all ≡ true → Within (if b then insert_key key_cmp ks k else ks) all
one_or_none true ks all k w is = one_more ks all k w is
one_or_none false ks all k w is = w

few : (ks all : List Key) → Within ks all → Sorted all → length all ≤ most_written → length ks ≤ most_written
few ks all w sorted small = let le : length ks ≤ length all = not_longer all ks w.in_order sorted w.inside in omega arith

module _ (all : List Key) (sorted : Sorted all) (small : length all ≤ most_written) where
  abbrev AreIn : Net → Type 0
  AreIn [] = Unit {0}
  AreIn (c ∷ net) = (has c.0 all ≡ true) × AreIn net

  to_clear : (net : Net) (o : Own) → AreIn net → Within o.written all → HasRoomToClear net o
  to_clear [] o are w = tt
  to_clear (c ∷ net) o are w = (
    (few o.written all w sorted small, few (insert_key key_cmp o.written c.0) all (one_more o.written all c.0 w are.0) sorted small),
    to_clear net (without c.0 o) are.1 (one_or_none (is_some (row_at o.rows c.0)) o.written all c.0 w are.0),
  )

  after_clear : (net : Net) (o : Own) → AreIn net → Within o.written all → Within (clear net o).written all
  after_clear [] o are w = w
  after_clear (c ∷ net) o are w = after_clear net (without c.0 o) are.1 (one_or_none (is_some (row_at o.rows c.0)) o.written all c.0 w are.0)

  changed : (k : Key) (v : Option Row) (o : Own) → has k all ≡ true → Within o.written all → Within (with_change k v o).written all
  changed k None o is w = w
  changed k (Some row) o is w = one_more o.written all k w is

  to_fill : (net : Net) (o : Own) → AreIn net → Within o.written all → HasRoomToFill net o
  to_fill [] o are w = tt
  to_fill (c ∷ net) o are w =
      (few (insert_key key_cmp o.written c.0) all (one_more o.written all c.0 w are.0) sorted small, to_fill net (with_change c.0 c.1 o) are.1 (changed c.0 c.1 o are.0 w))

more_in : (k : Key) (all : List Key) (sorted : Sorted all) (small : length all ≤ most_written) (net : Net) → (b : Sorted (k ∷ all)) → (s : length (k ∷ all) ≤ most_written) → AreIn all sorted small net → AreIn (k ∷ all) b s net
more_in k all sorted small [] b s are = tt
more_in k all sorted small (c ∷ net) b s are = (behind c.0 k all are.0, more_in k all sorted small net b s are.1)

all_in : (net : Net) (sorted : Sorted (keys_of net)) (small : length (keys_of net) ≤ most_written) → AreIn (keys_of net) sorted small net
all_in [] sorted small = tt
all_in (c ∷ net) sorted small = (here c.0 (keys_of net), more_in c.0 (keys_of net) (second _ _ sorted) (omega arith) net sorted small (all_in net (second _ _ sorted) (omega arith)))

as_many : (net : Net) → length (keys_of net) ≡ length net
as_many [] = refl
as_many (c ∷ net) = ap (λ n. suc n) (as_many net)

pub few_nets_have_room : FewNetsHaveRoom
few_nets_have_room m net in_order le =
    let sorted : Sorted (keys_of net) = net_in_order net in_order in
    let small : length (keys_of net) ≤ most_written = subst (λ n. n ≤ most_written) (sym (as_many net)) le in
    let empty : Within [] (keys_of net) = record { in_order = tt; inside = λ q e. cc } in
    let are = all_in net sorted small in (
      to_clear (keys_of net) sorted small net (untouched m) are empty,
      to_fill (keys_of net) sorted small net (clear net (untouched m)) are (after_clear (keys_of net) sorted small net (untouched m) are empty),
    )
