use Rattle.std.proofs.Common.{◌≡◌, get_or, subst, None, arith}
use Rattle.std.proofs.lemmas.List.{get_or_default}
use Rattle.treenodes.specs.Node.{TreeNode, IsAt, data_node}
use Rattle.treenodes.proofs.NodeNumbers.{one_at}
use Rattle.treenodes.proofs.ReplacementParents.{weaker}
use Rattle.treegrowth.specs.Growth.{IsSplittable}
use Rattle.treegrowth.specs.Places.{DoOtherLeavesStay, IsRelieved}
use Rattle.treegrowth.proofs.LeafHalves.{can_of}
use Rattle.treegrowth.proofs.leaf.relieved_leaf.Goals as goal

pub with_leaf_split-requires-clause-splittable : goal.with_leaf_split-requires-clause-splittable
with_leaf_split-requires-clause-splittable c = λ d.
    let nodes = c.args.nodes in
    let number = get_or c.args.way.now c.args.depth 0 in
    let n = c.current_at-node.result.now in
    let g = c.requires.grown 0 in
    let current = subst (λ (n : TreeNode). n.rect.time.to ≡ None) (one_at nodes number (data_node g.node) (data_node n) g.there c.current_at-node.ensures) g.grown.current in
    subst (λ i. IsSplittable nodes i c.in_ok-point.point) (get_or_default c.args.way.now c.args.depth 0 d c.requires.way.within) (record {
      node = n;
      there = c.current_at-node.ensures;
      others = c.requires.others 0;
      can = can_of nodes number n c.current_at-node.ensures current c.in_ok-point.point c.in_ok-point.ensures.inside;
      fit = c.in_ok-point.ensures.fit;
    })

pub returns-clause-relieved : goal.returns-clause-relieved
returns-clause-relieved c = λ d.
    let nodes = c.args.nodes in
    let number = get_or c.args.way.now c.args.depth d in
    let n = c.current_at-node.result.now in
    let there = subst (λ i. IsAt nodes i (data_node n)) (get_or_default c.args.way.now c.args.depth 0 d c.requires.way.within) c.current_at-node.ensures in
    weaker c.with_leaf_split.result (DoOtherLeavesStay number nodes) (IsRelieved number nodes)
    (λ s stay. record { others = stay; small = λ small. absurd (let le = small (data_node n) there in omega (arith, le)) })
    (c.with_leaf_split.ensures.others d)
