-- What a split leaves: parents above it, and so the way down to it.
use Rattle.std.proofs.Common.{◌≡◌, ◌≢◌, ℕ, ◌+◌, List, ap, arith}
use Rattle.treenodes.specs.Node.{TreeNode, IsAt}
use Rattle.treenodes.specs.Tree.{IsTree}
use Rattle.treenodes.specs.Lookup.{IsParent}
use Rattle.treenodes.specs.Split.{Halved}
use Rattle.treenodes.proofs.NodeNumbers.{one_at}
use Rattle.treenodes.proofs.ReplacementParents.{refers, below_there}

-- a parent that is neither the split node nor its parent is as it was
pub parent_kept : (before after : List TreeNode) (parent number : ℕ) (first second : TreeNode) → Halved before after parent number first second → (j i : ℕ) → j ≢ number → j ≢ parent → IsParent before j i → IsParent after j i
parent_kept before after parent number first second halved j i not_number not_parent h =
    record { node = h.node; there = halved.others j h.node not_number not_parent h.there; refers = h.refers }

-- a node's parent stands one level above it
pub one_above : (nodes : List TreeNode) → IsTree nodes → (j i : ℕ) → IsParent nodes j i → (p q : TreeNode) → IsAt nodes j p → IsAt nodes i q → p.level ≡ q.level + 1
one_above nodes tree j i h p q at_j at_i =
    let r = refers nodes tree j i h in
    let above : p.level ≡ h.node.level = ap (λ (n : TreeNode). n.level) (one_at nodes j p _ at_j h.there) in
    let below : r.node.level ≡ q.level = ap (λ (n : TreeNode). n.level) (one_at nodes i r.node q (below_there nodes tree j i h) at_i) in
    let up : h.node.level ≡ r.node.level + 1 = r.below in
    omega arith
