-- A current node's parent is current, and the nodes of a way differ.
use Rattle.std.proofs.Common.{◌≡◌, ◌≢◌, ℕ, zero, suc, ◌+◌, ◌-◌, ◌<◌, List, get_or, None, sym, ap, subst, ◌∙◌, arith}
use Rattle.std.specs.Prelude.{IsTrue, is_none}
use Rattle.keyrange.specs.Rect.{Area, IsInside}
use Rattle.indexnode.specs.declared.reference.Reference.{Reference}
use Rattle.indexnode.specs.Split.{is_current, AreCurrentIn}
use Rattle.treenodes.specs.Node.{Content, Events, References, TreeNode, IsAt, references_of}
use Rattle.treenodes.specs.Tree.{IsTree, HasContent}
use Rattle.treenodes.specs.Lookup.{IsParent}
use Rattle.treenodes.proofs.NodeNumbers.{one_at}
use Rattle.treenodes.proofs.HistoryKept.{endless_outer}
use Rattle.treenodes.proofs.ReplacementParents.{refers, below_there}
use Rattle.treenodes.proofs.ReplacementKept.{one_above}
use Rattle.treegrowth.specs.Growth.{IsWayDown}

current_in : (nodes : List TreeNode) (level : ℕ) (rect : Area) (content : Content) → HasContent nodes level rect content → AreCurrentIn rect (references_of content)
current_in nodes level rect (Events es) h = λ k d lt. absurd (omega arith)
current_in nodes level rect (References rs) h = h.inside

module _ (nodes : List TreeNode) (tree : IsTree nodes) (p c : ℕ) (h : IsParent nodes p c) where
  pub parent_is_current : (n : TreeNode) → IsAt nodes c n → n.rect.time.to ≡ None → h.node.rect.time.to ≡ None
  parent_is_current n at endless =
      let r = refers nodes tree p c h in
      let same : n ≡ r.node = one_at nodes c n r.node at (below_there nodes tree p c h) in
      let of_child : n.rect ≡ h.refers.1.rect = ap (λ (n : TreeNode). n.rect) same ∙ sym r.same in
      let inside = current_in nodes h.node.level h.node.rect h.node.content (tree.contents p h.node h.there) h.refers.0 h.refers.1 h.refers.2 in
      let of_one : IsTrue (is_current h.refers.1) → IsInside h.refers.1.rect h.node.rect = subst (λ (s : Reference ℕ). IsTrue (is_current s) → IsInside s.rect h.node.rect) h.refers.3 inside in
      endless_outer n.rect h.node.rect (tree.areas c n at) endless (subst (λ a. IsInside a h.node.rect) (sym of_child) (of_one (ap (λ (a : Area). is_none a.time.to) (sym of_child) ∙ ap is_none endless)))

-- ---- the nodes of a way

module _ (nodes : List TreeNode) (tree : IsTree nodes) (way : List ℕ) (depth : ℕ) (down : IsWayDown nodes way depth) where
  -- each is as many levels above the last as it comes before it
  level_from : (j k d : ℕ) → k + j ≡ depth → (p q : TreeNode) → IsAt nodes (get_or way k d) p → IsAt nodes (get_or way depth d) q → p.level ≡ q.level + j
  level_from zero k d is p q at_p at_q =
      let here : k ≡ depth = omega (arith, is) in
      let same : p ≡ q = one_at nodes (get_or way depth d) p q (subst (λ i. IsAt nodes (get_or way i d) p) here at_p) at_q in
      let level : p.level ≡ q.level = ap (λ (n : TreeNode). n.level) same in
      omega (arith, level)
  level_from (suc j) k d is p q at_p at_q =
      let parent = down.leads k d (omega (arith, is)) in
      let below = refers nodes tree (get_or way k d) (get_or way (k + 1) d) parent in
      let there = below_there nodes tree (get_or way k d) (get_or way (k + 1) d) parent in
      let one : p.level ≡ below.node.level + 1 = one_above nodes tree (get_or way k d) (get_or way (k + 1) d) parent p below.node at_p there in
      let rest : below.node.level ≡ q.level + j = level_from j (k + 1) d (omega (arith, is)) below.node q there at_q in
      omega (arith, one, rest)

  pub record Last (d : ℕ) : Type 0 where
    pub node : TreeNode
    pub there : IsAt nodes (get_or way depth d) node

  last_of : (k d : ℕ) → k < depth → Last d
  last_of k d lt =
      let parent = down.leads (depth - 1) d (omega arith) in
      let is : depth - 1 + 1 ≡ depth = omega arith in
      record { node = (refers nodes tree _ _ parent).node; there = subst (λ i. IsAt nodes (get_or way i d) (refers nodes tree _ _ parent).node) is (below_there nodes tree _ _ parent) }

  -- so it is none of those before it
  pub earlier_differs : (k d : ℕ) → k < depth → get_or way k d ≢ get_or way depth d
  earlier_differs k d lt same =
      let parent = down.leads k d lt in
      let last = last_of k d lt in
      let rise : parent.node.level ≡ last.node.level + (depth - k) = level_from (depth - k) k d (omega arith) parent.node last.node parent.there last.there in
      let one : parent.node.level ≡ last.node.level = ap (λ (n : TreeNode). n.level) (one_at nodes (get_or way depth d) parent.node last.node (subst (λ i. IsAt nodes i parent.node) same parent.there) last.there) in
      omega (arith, rise, one, lt)

  -- a way that ends one node earlier
  pub shorter : 0 < depth → IsWayDown nodes way (depth - 1)
  shorter some = record { within = (let lt = down.within in omega arith); from_root = down.from_root; leads = λ k d lt. down.leads k d (omega arith) }
