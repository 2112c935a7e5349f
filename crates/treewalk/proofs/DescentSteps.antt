-- The way down to the node around a rectangle.
use Rattle.std.proofs.Common.{◌≡◌, ℕ, ◌+◌, ◌<◌, ◌≤◌, List, true, Option, Some, None, sym, ap, subst, arith}
use Rattle.std.specs.Prelude.{slice_get, Contains, nat_le}
use Rattle.std.proofs.lemmas.Bool.{and_parts, and_from, leb-true}
use Rattle.std.proofs.lemmas.List.Elements.{All-contains}
use Rattle.keyrange.specs.declared.range.KeyRange.{KeyRange}
use Rattle.keyrange.specs.declared.range.TimeRange.{TimeRange}
use Rattle.keyrange.specs.Range.{is_key_in}
use Rattle.keyrange.specs.Rect.{Area, has_point, IsArea, IsInside}
use Rattle.keyrange.proofs.RectInside.{facts_of, first_key_in, first_instant_in}
use Rattle.indexnode.specs.declared.reference.Reference.{Reference}
use Rattle.indexnode.specs.declared.node.IndexNode.{IndexNode}
use Rattle.treenodes.specs.declared.node.Child.{Child}
use Rattle.treenodes.specs.declared.node.Child.TheVariants.{Index}
use Rattle.treenodes.specs.Node.{seen, TreeNode, IsAt}
use Rattle.treenodes.specs.Tree.{RefersTo, IsIndex, IsTree}
use Rattle.treenodes.proofs.LookupSteps.{whole_holds, shown_at, index_at}
use Rattle.treenodes.proofs.NodeNumbers.{one_at}
use Rattle.treewalk.specs.Ends.{ends_within}
use Rattle.treewalk.specs.Level.{IsAround}
use Rattle.treewalk.proofs.DescentEnds.{inside_by_ends}

-- the level of the node that has the number
abbrev pub level_at : List TreeNode → ℕ → ℕ
level_at nodes number = elim (slice_get nodes number) [ None ↦ 0 | Some n ↦ n.level ]

pub level_is : (nodes : List TreeNode) (number : ℕ) (n : TreeNode) → IsAt nodes number n → level_at nodes number ≡ n.level
level_is nodes number n at = ap (λ (o : Option TreeNode). elim o [ None ↦ 0 | Some n ↦ n.level ]) at

-- the node that a reference names is a level lower
pub child_lower : (nodes : List TreeNode) → IsTree nodes → (number : ℕ) (n : TreeNode) (shown : Child) (x : IndexNode ℕ) → slice_get nodes number ≡ Some n → n ≡ seen n.level shown → shown ≡ Index x
    → (r : Reference ℕ) → Contains x.references.items r → level_at nodes r.child < level_at nodes number
child_lower nodes tree number n shown x at is same r among =
    let index : IsIndex nodes n.level x.rect x.references.items = index_at nodes tree number n.level x.rect x.references.items (shown_at nodes number n shown (Index x) at is same) in
    let refers : RefersTo nodes n.level r = All-contains (RefersTo nodes n.level) x.references.items r index.below among in
    let under : n.level ≡ refers.node.level + 1 = refers.below in
    let below = level_is nodes r.child refers.node refers.there in
    let above = level_is nodes number n at in
    omega arith

module _ (nodes : List TreeNode) (tree : IsTree nodes) (area : Area) (is_area : IsArea area) where
  -- all points of a rectangle are at instants from the first on
  pub root_around : IsAround nodes area 0
  root_around = record {
    node = tree.root.root;
    there = tree.root.first;
    inside = λ key instant h. subst (λ a. has_point a key instant ≡ true) (sym tree.root.covers) (whole_holds key instant (begun instant (and_parts (nat_le area.time.from instant) _ (and_parts (is_key_in area.keys key) _ h).1).0));
  }
    where
      begun : (t : ℕ) → nat_le area.time.from t ≡ true → 1 ≤ t
      begun t h =
          let a : area.time.from ≤ t = leb-true area.time.from t h in
          let b : 1 ≤ area.time.from = leb-true 1 area.time.from (facts_of area is_area).from_first in
          omega arith

  -- the first point
  pub first_point : has_point area area.keys.lo area.time.from ≡ true
  first_point = and_from _ _ (first_key_in area is_area) (first_instant_in area is_area)

  module _ (number : ℕ) (n : TreeNode) (shown : Child) (x : IndexNode ℕ) (at : slice_get nodes number ≡ Some n) (is : n ≡ seen n.level shown) (same : shown ≡ Index x) (around : IsAround nodes area number) where
    here : around.node ≡ seen n.level (Index x)
    here = one_at nodes number around.node (seen n.level (Index x)) around.there (shown_at nodes number n shown (Index x) at is same)

    pub in_index : IsInside area x.rect
    in_index = subst (λ (p : TreeNode). IsInside area p.rect) here around.inside

    pub has_first : has_point x.rect area.keys.lo area.time.from ≡ true
    has_first = in_index area.keys.lo area.time.from first_point

    pub index_is : IsIndex nodes n.level x.rect x.references.items
    index_is = index_at nodes tree number n.level x.rect x.references.items (shown_at nodes number n shown (Index x) at is same)

    pub child_around : (r : Reference ℕ) → Contains x.references.items r → IsInside area r.rect → IsAround nodes area r.child
    child_around r among inside =
        let refers : RefersTo nodes n.level r = All-contains (RefersTo nodes n.level) x.references.items r index_is.below among in
        record { node = refers.node; there = refers.there; inside = subst (IsInside area) refers.same inside }

    pub child_below : (r : Reference ℕ) → Contains x.references.items r → level_at nodes r.child < level_at nodes number
    child_below r among = child_lower nodes tree number n shown x at is same r among

    -- the child at the first point, where the rectangle ends in it
    pub child_at_first : (r : Reference ℕ) (keys : KeyRange) (time : TimeRange) → keys ≡ area.keys → time ≡ area.time → Contains x.references.items r → has_point r.rect keys.lo time.from ≡ true → ends_within area r.rect ≡ true → IsAround nodes area r.child
    child_at_first r keys time keys_are time_is among holds ends =
        child_around r among (inside_by_ends area r.rect ends (subst (λ (k : KeyRange). has_point r.rect k.lo area.time.from ≡ true) keys_are (subst (λ (t : TimeRange). has_point r.rect keys.lo t.from ≡ true) time_is holds)))

    pub first_there : (keys : KeyRange) (time : TimeRange) → keys ≡ area.keys → time ≡ area.time → has_point x.rect keys.lo time.from ≡ true
    first_there keys time keys_are time_is =
        subst (λ (t : TimeRange). has_point x.rect keys.lo t.from ≡ true) (sym time_is) (subst (λ (k : KeyRange). has_point x.rect k.lo area.time.from ≡ true) (sym keys_are) has_first)
