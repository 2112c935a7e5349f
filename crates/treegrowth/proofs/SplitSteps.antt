-- The current data node of a key, and the way to it.
use Rattle.std.proofs.Common.{◌≡◌, ℕ, ◌-◌, ◌<◌, ◌≤◌, Bool, true, false, cond, List, length, get_or, Some, None, refl, sym, ap, subst, ◌∙◌, arith}
use Rattle.std.specs.Prelude.{nat_le}
use Rattle.std.proofs.lemmas.Bool.{and_from, leb-true, le-leb, false≢true}
use Rattle.std.proofs.lemmas.Option.{slice_get_within, get_or_from_slice_get}
use Rattle.values.specs.Commits.{max_instant}
use Rattle.keyrange.specs.Rect.{Area, IsArea}
use Rattle.keyrange.specs.Range.{is_early}
use Rattle.keyrange.specs.Cut.{halves_by_key, halves_by_time, is_key_inside, is_time_inside}
use Rattle.keyrange.proofs.RectInside.{facts_of}
use Rattle.datanode.specs.Node.{Node, capacity}
use Rattle.datanode.specs.Cut.{in_cut}
use Rattle.treenodes.specs.Node.{TreeNode, IsAt, IsDataNode, data_node, count_of}
use Rattle.treenodes.specs.Tree.{IsTree}
use Rattle.treenodes.specs.Lookup.{IsData, IsLeafAt, IsWayTo}
use Rattle.treenodes.specs.Split.{CanSplitKey, CanSplitTime}
use Rattle.treenodes.proofs.NodeNumbers.{one_at}
use Rattle.treegrowth.specs.declared.point.SplitPoint.{SplitPoint}
use Rattle.treegrowth.specs.declared.point.SplitPoint.TheVariants.{Key, Time}
use Rattle.treegrowth.specs.Growth.{IsSplittable, IsWayDown}
use Rattle.treegrowth.specs.Leaves.{IsCurrentLeaf, halves_upto}
use Rattle.treegrowth.specs.Point.{CanSplitAt}
use Rattle.treegrowth.proofs.PointOneKey.{filter_at_most}

module _ (nodes : List TreeNode) (key : List ℕ) (instant : ℕ) (way : List ℕ) (w : IsWayTo nodes key instant way) where
  some_way : 0 < length way
  some_way = let lt = slice_get_within way (length way - 1) w.number w.last in omega (arith, lt)

  pub way_down : IsWayDown nodes way (length way - 1)
  way_down = record { within = (let some = some_way in omega (arith, some)); from_root = w.from_root; leads = λ k d lt. w.leads k d (omega (arith, lt)) }

  pub leaf_at_end : (d : ℕ) → IsLeafAt nodes key instant (get_or way (length way - 1) d)
  leaf_at_end d = subst (IsLeafAt nodes key instant) (sym (get_or_from_slice_get way (length way - 1) w.number d w.last)) w.leaf

-- the data node at the last instant is the current one
module _ (nodes : List TreeNode) (tree : IsTree nodes) (key : List ℕ) (number : ℕ) (at : IsLeafAt nodes key max_instant number) (n : TreeNode) (now : IsCurrentLeaf nodes key n) where
  pub is_leaf : IsAt nodes number n
  is_leaf = subst (λ i. IsAt nodes i n) (sym same) now.there
    where
      area : IsArea n.rect
      area = tree.areas now.number n now.there

      same : number ≡ now.number
      same = tree.apart number now.number at.leaf.node n at.leaf.there now.there (at.leaf.bottom ∙ sym now.bottom) (record {
        key = key;
        instant = max_instant;
        is_first = omega arith;
        is_last = omega arith;
        in_first = at.holds;
        in_second = and_from _ _ now.has (and_from _ _ (facts_of n.rect area).to_last (ap (is_early max_instant) now.current));
      })

  data_leaf : IsDataNode n.content
  data_leaf = subst (λ (n : TreeNode). IsDataNode n.content) (one_at nodes number at.leaf.node n at.leaf.there is_leaf) at.leaf.is_data

  abbrev found : IsData nodes number
  found = record { node = n; there = is_leaf; bottom = now.bottom; is_data = data_leaf }

  no_halves : {A : Type 0} (x : A) (b : Bool) → (b ≡ true → ⊥) → cond b (Some x) None ≡ None
  no_halves x true not = absurd (not refl)
  no_halves x false not = refl

  -- where it can't be split there are no halves
  pub no_key : (CanSplitKey nodes number key → ⊥) → halves_by_key n.rect key ≡ None
  no_key not = no_halves _ (is_key_inside n.rect key) (λ inside. not (record { leaf = found; current = now.current; inside = inside }))

  pub no_time : (t : ℕ) → (CanSplitTime nodes number t → ⊥) → halves_by_time n.rect t ≡ None
  no_time t not = no_halves _ (is_time_inside n.rect t) (λ inside. not (record { leaf = found; current = now.current; inside = inside }))

  made : {A : Type 0} (x : A) (b : Bool) → b ≡ true → cond b (Some x) None ≡ Some x
  made x true is = refl
  made x false is = absurd (false≢true is)

  pub key_halves : CanSplitKey nodes number key → (h : Area × Area) × (halves_by_key n.rect key ≡ Some h)
  key_halves can = (_, made _ (is_key_inside n.rect key) (subst (λ (n : TreeNode). is_key_inside n.rect key ≡ true) (one_at nodes number can.leaf.node n can.leaf.there is_leaf) can.inside))

  pub time_halves : (t : ℕ) → CanSplitTime nodes number t → (h : Area × Area) × (halves_by_time n.rect t ≡ Some h)
  time_halves t can = (_, made _ (is_time_inside n.rect t) (subst (λ (n : TreeNode). is_time_inside n.rect t ≡ true) (one_at nodes number can.leaf.node n can.leaf.there is_leaf) can.inside))

-- ---- a data node within capacity has halves within it

pub splittable : (nodes : List TreeNode) (number : ℕ) (node : Node) → IsAt nodes number (data_node node) → ((i : ℕ) (n : TreeNode) → IsAt nodes i n → count_of n.content ≤ capacity) → (point : SplitPoint) → CanSplitAt nodes number point → IsSplittable nodes number point
splittable nodes number node at small point can = record {
  node = node;
  there = at;
  others = λ i n other there. small i n there;
  can = can;
  fit = λ h made. (
      let most = small number (data_node node) at in
      let below = filter_at_most (in_cut h.0 node.events) node.events in
      let above = filter_at_most (in_cut h.1 node.events) node.events in
      (omega (arith, most, below), omega (arith, most, above))
      );
}

pub can_leaf : (nodes : List TreeNode) (number : ℕ) (point : SplitPoint) → CanSplitAt nodes number point → IsData nodes number
can_leaf nodes number (Key key) can = can.leaf
can_leaf nodes number (Time t) can = can.leaf

pub can_current : (nodes : List TreeNode) (number : ℕ) (point : SplitPoint) → CanSplitAt nodes number point → (n : TreeNode) → IsAt nodes number n → n.rect.time.to ≡ None
can_current nodes number (Key key) can n at = subst (λ (q : TreeNode). q.rect.time.to ≡ None) (one_at nodes number can.leaf.node n can.leaf.there at) can.current
can_current nodes number (Time t) can n at = subst (λ (q : TreeNode). q.rect.time.to ≡ None) (one_at nodes number can.leaf.node n can.leaf.there at) can.current

-- ---- an instant that is not after the last

pub upto_is : (last : ℕ) (r : Area) (t : ℕ) → t ≤ last → halves_upto last r t ≡ halves_by_time r t
upto_is last r t le = ap (λ b. cond b (halves_by_time r t) None) (le-leb t last le)

pub upto_none : (last : ℕ) (r : Area) (t : ℕ) → (t ≤ last → halves_by_time r t ≡ None) → halves_upto last r t ≡ None
upto_none last r t none = by (nat_le t last) refl
  where
    by : (b : Bool) → nat_le t last ≡ b → cond b (halves_by_time r t) None ≡ None
    by true is = none (leb-true t last is)
    by false is = refl
