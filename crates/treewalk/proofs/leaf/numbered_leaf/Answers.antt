use Rattle.std.proofs.Common.{true, ap, subst, ◌≡◌}
use Rattle.std.proofs.lemmas.Option.{slice_get_within}
use Rattle.keyrange.specs.Rect.{IsArea, has_point}
use Rattle.treenodes.specs.Node.{TreeNode, IsDataNode}
use Rattle.treenodes.specs.Map.{IsCut}
use Rattle.treenodes.proofs.LookupNodes.{point_in}
use Rattle.treenodes.proofs.NodeNumbers.{one_at}
use Rattle.treewalk.proofs.GatherLeaves.{cut_of}
use Rattle.treewalk.specs.Leaf.{node_in}
use Rattle.treewalk.proofs.leaf.numbered_leaf.Goals as goal

pub at-requires : goal.at-requires
at-requires c = slice_get_within c.args.nodes.now c.args.number c.requires.data.node c.requires.data.there

pub returns-clause-area : goal.returns-clause-area
returns-clause-area c = subst IsArea (ap (λ (n : TreeNode). n.rect) c.child.ensures) (c.requires.tree.areas c.args.number c.at.result.now c.at.ensures)

pub returns-clause-point : goal.returns-clause-point
returns-clause-point c key instant leaf =
    subst (λ (n : TreeNode). has_point n.rect key instant ≡ true) c.child.ensures (point_in c.args.nodes.now key instant c.args.number c.at.result.now leaf c.at.ensures)

pub returns-clause-cut : goal.returns-clause-cut
returns-clause-cut c m holds =
    let here = c.requires.data in
    let node = node_in c.child.result.now in
    cut_of m node.rect _
    (subst (λ (n : TreeNode). IsDataNode n.content) c.child.ensures (subst (λ (n : TreeNode). IsDataNode n.content) (one_at c.args.nodes.now c.args.number here.node c.at.result.now here.there c.at.ensures) here.is_data))
    (subst (λ (n : TreeNode). IsCut m n.rect n.content) c.child.ensures (holds.cuts c.args.number c.at.result.now c.at.ensures))
