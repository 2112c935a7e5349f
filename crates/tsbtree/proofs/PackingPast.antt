-- An install keeps nodes of history, but that one gets its block.
use Rattle.std.proofs.Common.{◌≡◌, ◌≢◌, ℕ, List, set, None, Bool, true, false, refl, sym, ap, subst, ◌∙◌, ◌⊎◌, inl, inr}
use Rattle.std.specs.Prelude.{slice_get}
use Rattle.blocks.specs.PackedNode.{Packed}
use Rattle.treenodes.specs.Node.{TreeNode, IsAt, data_node, packed_node}
use Rattle.treenodes.specs.History.{IsKept, KeepsPast}
use Rattle.treenodes.proofs.HistoryKept.{some_is}
use Rattle.treenodes.proofs.NodeNumbers.{set_other, set_same, one_at, same_or_not}
use Rattle.tsbtree.specs.View.{TreeState}
use Rattle.tsbtree.specs.Packing.{IsInstalled}

kept : (nodes : List TreeNode) (i : ℕ) (n : TreeNode) → IsAt nodes i n → IsKept nodes i n
kept nodes i n at = record { node = n; there = at; level = refl; rect = refl; content = refl; block = λ some. refl }

pub past_same : (nodes : List TreeNode) → KeepsPast nodes nodes
past_same nodes i n at ended = kept nodes i n at

pub past_packed : (nodes : List TreeNode) (number : ℕ) (block : Packed) → IsAt nodes number (data_node block.node) → KeepsPast nodes (set nodes number (packed_node block))
past_packed nodes number block at i n here ended = by (same_or_not i number)
  where
    by : (i ≡ number) ⊎ (i ≢ number) → IsKept (set nodes number (packed_node block)) i n
    by (inl same) = subst (IsKept (set nodes number (packed_node block)) i) (one_at nodes number (data_node block.node) n at (ap (slice_get nodes) (sym same) ∙ here)) (record {
      node = packed_node block;
      there = ap (slice_get (set nodes number (packed_node block))) same ∙ set_same nodes number (packed_node block) (data_node block.node) at;
      level = refl;
      rect = refl;
      content = refl;
      block = λ some. absurd (some_is {X = List ℕ} None some refl);
    })
    by (inr other) = kept (set nodes number (packed_node block)) i n (set_other nodes number (packed_node block) i n other here)

-- whatever comes of it
pub past_installed : (done : Bool) (old new : TreeState) (block : Packed) → IsInstalled done old new block → KeepsPast old.nodes new.nodes
past_installed true old new block is = subst (KeepsPast old.nodes) (sym (ap (λ (s : TreeState). s.nodes) is.placed)) (past_packed old.nodes is.number block is.there)
past_installed false old new block is = subst (KeepsPast old.nodes) (sym (ap (λ (s : TreeState). s.nodes) is.same)) (past_same old.nodes)
