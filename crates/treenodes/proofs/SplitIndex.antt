-- Index nodes that are split.
use Rattle.std.proofs.Common.{◌≡◌, ℕ, Bool, List, Option, Some, None, true, refl, sym, ap, subst, ◌∙◌}
use Rattle.std.specs.Prelude.{All, IsTrue}
use Rattle.std.specs.List.{filter}
use Rattle.std.proofs.lemmas.List.Elements.{All-filter}
use Rattle.values.specs.Event.{Event}
use Rattle.keyrange.specs.Rect.{Area}
use Rattle.keyrange.specs.Cut.{is_key_inside, is_time_inside, AreHalves}
use Rattle.indexnode.specs.declared.node.IndexNode.{IndexNode}
use Rattle.indexnode.specs.Node.{Tiles, AllMeet}
use Rattle.indexnode.specs.Split.{AreCurrentIn, IsBeforeCurrent, IsUncrossed}
use Rattle.treenodes.specs.declared.node.Child.TheVariants.{Index}
use Rattle.treenodes.specs.Node.{TreeNode, References, IsAt, seen, references_of}
use Rattle.treenodes.specs.Tree.{RefersTo, IsIndex, IsTree}
use Rattle.treenodes.specs.Split.{AreSplit, HoldCuts, CanSplitIndexTime, CanSplitIndexKey, part_of}
use Rattle.datanode.proofs.CutMembers.{some_is}
use Rattle.treenodes.proofs.NodeNumbers.{one_at}

module _ (nodes : List TreeNode) (tree : IsTree nodes) (number : ℕ) (top : TreeNode) (at : IsAt nodes number top) (x : IndexNode ℕ) (is : top ≡ seen top.level (Index x)) where
  abbrev node : TreeNode
  node = seen top.level (Index x)

  pub node_at : IsAt nodes number node
  node_at = at ∙ ap Some is

  pub index_of : IsIndex nodes top.level x.rect x.references.items
  index_of = tree.contents number node node_at

  -- what is asked of the node
  pub record CanKey (key : List ℕ) : Type 0 where
    pub current : x.rect.time.to ≡ None
    pub inside : IsTrue (is_key_inside x.rect key)
    pub uncrossed : IsUncrossed key x.references.items

  pub key_in : (key : List ℕ) → CanSplitIndexKey nodes number key → CanKey key
  key_in key can =
      let same = one_at nodes number can.node node can.there node_at in
      record {
        current = subst (λ (q : TreeNode). q.rect.time.to ≡ None) same can.current;
        inside = subst (λ (q : TreeNode). is_key_inside q.rect key ≡ true) same can.inside;
        uncrossed = subst (λ (q : TreeNode). IsUncrossed key (references_of q.content)) same can.uncrossed;
      }

  pub record CanTime (instant : ℕ) : Type 0 where
    pub current : x.rect.time.to ≡ None
    pub inside : IsTrue (is_time_inside x.rect instant)
    pub before : IsBeforeCurrent instant x.references.items

  pub time_in : (instant : ℕ) → CanSplitIndexTime nodes number instant → CanTime instant
  time_in instant can =
      let same = one_at nodes number can.node node can.there node_at in
      record {
        current = subst (λ (q : TreeNode). q.rect.time.to ≡ None) same can.current;
        inside = subst (λ (q : TreeNode). is_time_inside q.rect instant ≡ true) same can.inside;
        before = subst (λ (q : TreeNode). IsBeforeCurrent instant (references_of q.content)) same can.before;
      }

  -- halves are parts
  module _ (a b : IndexNode ℕ) (halves : Area → Option (Area × Area)) (are : halves x.rect ≡ Some (a.rect, b.rect)) (p q : Area → Bool)
      (are_a : a.references.items ≡ filter (λ r. p r.rect) x.references.items) (are_b : b.references.items ≡ filter (λ r. q r.rect) x.references.items) where
    pub are_parts : (n : TreeNode) (h : Area × Area) → IsAt nodes number n → halves n.rect ≡ Some h
        → (seen top.level (Index a) ≡ part_of n h.0 (filter (λ r. p r.rect))) × (seen top.level (Index b) ≡ part_of n h.1 (filter (λ r. q r.rect)))
    are_parts n h here made =
        let same : node ≡ n = one_at nodes number node n node_at here in
        let rects : (a.rect, b.rect) ≡ h = some_is (a.rect, b.rect) h (sym are ∙ ap (λ (c : TreeNode). halves c.rect) same ∙ made) in
        let kept_a : a.references.items ≡ filter (λ r. p r.rect) (references_of n.content) = are_a ∙ ap (λ (c : TreeNode). filter (λ r. p r.rect) (references_of c.content)) same in
        let kept_b : b.references.items ≡ filter (λ r. q r.rect) (references_of n.content) = are_b ∙ ap (λ (c : TreeNode). filter (λ r. q r.rect) (references_of c.content)) same in (
          (λ t. record { level = (same t).level; rect = (rects t).0; content = References (kept_a t); packed = None }),
          (λ t. record { level = (same t).level; rect = (rects t).1; content = References (kept_b t); packed = None }),
        )

  module _ (a b : IndexNode ℕ) (p q : Area → Bool) (current : x.rect.time.to ≡ None) (halves : AreHalves x.rect a.rect b.rect)
      (are_a : a.references.items ≡ filter (λ r. p r.rect) x.references.items) (are_b : b.references.items ≡ filter (λ r. q r.rect) x.references.items)
      (tiled : Tiles a.rect a.references.items × Tiles b.rect b.references.items) (meet : AllMeet a.rect a.references.items × AllMeet b.rect b.references.items) (inside : AreCurrentIn a.rect a.references.items × AreCurrentIn b.rect b.references.items) where
    below_a : All (RefersTo nodes top.level) a.references.items
    below_a = subst (All (RefersTo nodes top.level)) (sym are_a) (All-filter (λ r. p r.rect) (RefersTo nodes top.level) x.references.items index_of.below)

    below_b : All (RefersTo nodes top.level) b.references.items
    below_b = subst (All (RefersTo nodes top.level)) (sym are_b) (All-filter (λ r. q r.rect) (RefersTo nodes top.level) x.references.items index_of.below)

    pub split_index : (n : TreeNode) → IsAt nodes number n → AreSplit nodes n (seen n.level (Index a)) (seen n.level (Index b))
    split_index n here = subst (λ (n : TreeNode). AreSplit nodes n (seen n.level (Index a)) (seen n.level (Index b))) (one_at nodes number node n node_at here) (record {
      current = current;
      first_level = refl;
      second_level = refl;
      halves = halves;
      first_has = record { tiled = tiled.0; meet = meet.0; inside = inside.0; below = below_a };
      second_has = record { tiled = tiled.1; meet = meet.1; inside = inside.1; below = below_b };
    })

pub no_cuts : (m : List Event) (l : ℕ) (a b : IndexNode ℕ) → HoldCuts m (seen l (Index a)) (seen l (Index b))
no_cuts m l a b = record { first_cut = tt; second_cut = tt; first_ends = tt; second_ends = tt }
