-- A data node that is split, and what its halves are.
use Rattle.std.proofs.Common.{◌≡◌, ℕ, ◌≤◌, Bool, true, false, cond, List, Some, None, refl, sym, ap, subst, ◌∙◌}
use Rattle.std.specs.Prelude.{is_some}
use Rattle.keyrange.specs.Rect.{Area}
use Rattle.keyrange.specs.Cut.{is_key_inside, is_time_inside}
use Rattle.datanode.specs.Node.{Node}
use Rattle.datanode.proofs.CutMembers.{some_is}
use Rattle.treenodes.specs.Node.{TreeNode, IsAt, data_node, count_of}
use Rattle.treenodes.specs.Tree.{IsTree}
use Rattle.treenodes.specs.Lookup.{IsParent}
use Rattle.treenodes.specs.Sound.{AreWithinCapacity}
use Rattle.treenodes.specs.Split.{Halved, part}
use Rattle.treenodes.proofs.NodeNumbers.{one_at}
use Rattle.treegrowth.specs.declared.point.SplitPoint.{SplitPoint}
use Rattle.treegrowth.specs.declared.point.SplitPoint.TheVariants.{Key, Time}
use Rattle.treegrowth.specs.Growth.{AreOthersSmall, IsSplittable, IsGrownIndex}
use Rattle.treegrowth.specs.Leaves.{IsLeafSplit}
use Rattle.treegrowth.specs.Point.{CanSplitAt, halves_at}
use Rattle.treegrowth.proofs.GrowthHalved.{others_small, grown_parent}
use Rattle.treegrowth.proofs.GrowthRaised.{all_within}
use Rattle.treegrowth.proofs.LeavesKept.{leaf_split}

-- a point strictly inside has halves
made_by : (nodes : List TreeNode) (number : ℕ) (n : Node) → IsAt nodes number (data_node n) → (point : SplitPoint) → CanSplitAt nodes number point → (n.rect.time.to ≡ None) × ((h : Area × Area) × (halves_at n.rect point ≡ Some h))
made_by nodes number n at (Key key) can =
    let same = one_at nodes number can.leaf.node (data_node n) can.leaf.there at in
    let inside : is_key_inside n.rect key ≡ true = subst (λ (n : TreeNode). is_key_inside n.rect key ≡ true) same can.inside in
    (subst (λ (n : TreeNode). n.rect.time.to ≡ None) same can.current, (_, ap (λ b. cond b (Some (record { keys = record { lo = n.rect.keys.lo; hi = Some key }; time = n.rect.time }, record { keys = record { lo = key; hi = n.rect.keys.hi }; time = n.rect.time })) None) inside))
made_by nodes number n at (Time t) can =
    let same = one_at nodes number can.leaf.node (data_node n) can.leaf.there at in
    let inside : is_time_inside n.rect t ≡ true = subst (λ (n : TreeNode). is_time_inside n.rect t ≡ true) same can.inside in
    (subst (λ (n : TreeNode). n.rect.time.to ≡ None) same can.current, (_, ap (λ b. cond b (Some (record { keys = n.rect.keys; time = record { from = n.rect.time.from; to = Some t } }, record { keys = n.rect.keys; time = record { from = t; to = n.rect.time.to } })) None) inside))

-- a current data node can be split where its rectangle has halves
pub can_of : (nodes : List TreeNode) (number : ℕ) (n : Node) → IsAt nodes number (data_node n) → n.rect.time.to ≡ None → (point : SplitPoint) → is_some (halves_at n.rect point) ≡ true → CanSplitAt nodes number point
can_of nodes number n at current (Key key) some = record { leaf = record { node = data_node n; there = at; bottom = refl; is_data = tt }; current = current; inside = inside_key _ (is_key_inside n.rect key) some }
  where
    inside_key : {A : Type 0} (x : A) (b : Bool) → is_some (cond b (Some x) None) ≡ true → b ≡ true
    inside_key x true h = refl
    inside_key x false h = h
can_of nodes number n at current (Time t) some = record { leaf = record { node = data_node n; there = at; bottom = refl; is_data = tt }; current = current; inside = inside_time _ (is_time_inside n.rect t) some }
  where
    inside_time : {A : Type 0} (x : A) (b : Bool) → is_some (cond b (Some x) None) ≡ true → b ≡ true
    inside_time x true h = refl
    inside_time x false h = h

-- the same node at another number
pub can_there : (before after : List TreeNode) (i j : ℕ) (n : TreeNode) → IsAt before i n → IsAt after j n → (point : SplitPoint) → CanSplitAt before i point → CanSplitAt after j point
can_there before after i j n at_i at_j (Key key) can = record {
  leaf = record { node = can.leaf.node; there = at_j ∙ ap Some (one_at before i n can.leaf.node at_i can.leaf.there); bottom = can.leaf.bottom; is_data = can.leaf.is_data };
  current = can.current;
  inside = can.inside;
}
can_there before after i j n at_i at_j (Time t) can = record {
  leaf = record { node = can.leaf.node; there = at_j ∙ ap Some (one_at before i n can.leaf.node at_i can.leaf.there); bottom = can.leaf.bottom; is_data = can.leaf.is_data };
  current = can.current;
  inside = can.inside;
}

abbrev pub splittable_there : (before after : List TreeNode) (i j : ℕ) (point : SplitPoint) → (h : IsSplittable before i point) → IsAt after j (data_node h.node) → AreOthersSmall after j → IsSplittable after j point
splittable_there before after i j point h at others = record { node = h.node; there = at; others = others; can = can_there before after i j (data_node h.node) h.there at point h.can; fit = h.fit }

pub same_node : (nodes : List TreeNode) (i : ℕ) (n p : Node) → IsAt nodes i (data_node n) → IsAt nodes i (data_node p) → data_node n ≡ data_node p
same_node nodes i n p at there = one_at nodes i (data_node n) (data_node p) at there

pub there_too : (nodes : List TreeNode) (i : ℕ) (n p : Node) → data_node n ≡ data_node p → IsAt nodes i (data_node n) → IsAt nodes i (data_node p)
there_too nodes i n p same at = at ∙ ap Some same

module _ (before : List TreeNode) (number : ℕ) (point : SplitPoint) (h : IsSplittable before number point) where
  pub current : h.node.rect.time.to ≡ None
  current = (made_by before number h.node h.there point h.can).0

  pub areas : Area × Area
  areas = (made_by before number h.node h.there point h.can).1.0

  pub are : halves_at h.node.rect point ≡ Some areas
  unfolding areas
  are = (made_by before number h.node h.there point h.can).1.1

  abbrev pub first : TreeNode
  first = part h.node areas.0

  abbrev pub second : TreeNode
  second = part h.node areas.1

  module _ (after : List TreeNode) (parent : ℕ) (tree : IsTree before) (above : IsParent before parent number) (halved : Halved before after parent number first second) where
    pub leaf_others : AreOthersSmall after parent
    leaf_others = others_small before after parent number first second halved h.others (h.fit areas are).0 (h.fit areas are).1

    pub leaf_parent : IsGrownIndex after parent
    leaf_parent = grown_parent before after parent number first second halved tree above h.others (data_node h.node) h.there current

    pub leaf_within : count_of above.node.content ≤ 63 → AreWithinCapacity after
    leaf_within room = all_within before after parent number first second halved tree above h.others (h.fit areas are).0 (h.fit areas are).1 room

    pub leaf_leaves : (n : Node) (pair : Area × Area) → IsAt before number (data_node n) → halves_at n.rect point ≡ Some pair → IsLeafSplit before after n.rect pair
    leaf_leaves n pair at made =
        let same : data_node h.node ≡ data_node n = one_at before number (data_node h.node) (data_node n) h.there at in
        let pairs : areas ≡ pair = some_is areas pair (sym are ∙ (λ t. halves_at (same t).rect point) ∙ made) in
        subst (IsLeafSplit before after n.rect) pairs (subst (λ r. IsLeafSplit before after r areas) (λ t. (same t).rect)
        (leaf_split before after parent number first second halved tree above (data_node h.node) h.there refl areas refl refl refl refl))
