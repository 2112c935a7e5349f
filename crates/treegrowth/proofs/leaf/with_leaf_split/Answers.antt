use Rattle.std.proofs.Common.{◌-◌, get_or, subst}
use Rattle.std.specs.Prelude.{IfOk}
use Rattle.std.proofs.lemmas.List.{get_or_default}
use Rattle.treenodes.specs.Node.{IsAt, data_node}
use Rattle.treenodes.specs.History.{KeepsHistory}
use Rattle.treenodes.proofs.HistoryKept.{keeps_then}
use Rattle.treenodes.proofs.ReplacementParents.{weaker}
use Rattle.treegrowth.specs.Growth.{AreOthersSmall, IsGrownIndex}
use Rattle.treegrowth.specs.Leaves.{HaveSameLeaves, IsLeafSplit}
use Rattle.treegrowth.specs.Places.{DoLeavesStay, DoOtherLeavesStay}
use Rattle.treegrowth.proofs.GrowthHalved.{positive, way_kept, parent_on_way}
use Rattle.treegrowth.proofs.LeafHalves.{areas, are, first as lower, second as upper, leaf_others, leaf_parent, leaf_leaves}
use Rattle.treegrowth.proofs.LeavesKept.{split_then, others_stay}
use Rattle.treegrowth.proofs.leaf.with_leaf_split.Goals as goal

pub relieve-requires-clause-way : goal.relieve-requires-clause-way
relieve-requires-clause-way c =
    let nodes = c.args.nodes in
    let next = c.in_ok-nodes.nodes in
    let way = c.args.way.now in
    let point = c.args.point.now in
    let some = positive c.args.depth c.if-depth-eq0.false in
    let parent = get_or way (c.args.depth - 1) 0 in
    let number = get_or way c.args.depth 0 in
    let h = c.requires.splittable 0 in
    let above = parent_on_way nodes next way c.args.depth c.requires.tree c.requires.way some 0 in
    let halved = c.in_ok-nodes.ensures.halved h.node (areas nodes number point h) h.there (are nodes number point h) in
    let down = way_kept nodes next way c.args.depth c.requires.tree c.requires.way some 0 (lower nodes number point h) (upper nodes number point h) halved in
    down

pub relieve-requires-clause-others : goal.relieve-requires-clause-others
relieve-requires-clause-others c = λ d.
    let nodes = c.args.nodes in
    let next = c.in_ok-nodes.nodes in
    let way = c.args.way.now in
    let point = c.args.point.now in
    let some = positive c.args.depth c.if-depth-eq0.false in
    let parent = get_or way (c.args.depth - 1) 0 in
    let number = get_or way c.args.depth 0 in
    let h = c.requires.splittable 0 in
    let above = parent_on_way nodes next way c.args.depth c.requires.tree c.requires.way some 0 in
    let halved = c.in_ok-nodes.ensures.halved h.node (areas nodes number point h) h.there (are nodes number point h) in
    let down = way_kept nodes next way c.args.depth c.requires.tree c.requires.way some 0 (lower nodes number point h) (upper nodes number point h) halved in
    subst (AreOthersSmall next) (get_or_default way (c.args.depth - 1) 0 d down.within) (leaf_others nodes number point h next parent c.requires.tree above halved)

pub relieve-requires-clause-grown : goal.relieve-requires-clause-grown
relieve-requires-clause-grown c = λ d.
    let nodes = c.args.nodes in
    let next = c.in_ok-nodes.nodes in
    let way = c.args.way.now in
    let point = c.args.point.now in
    let some = positive c.args.depth c.if-depth-eq0.false in
    let parent = get_or way (c.args.depth - 1) 0 in
    let number = get_or way c.args.depth 0 in
    let h = c.requires.splittable 0 in
    let above = parent_on_way nodes next way c.args.depth c.requires.tree c.requires.way some 0 in
    let halved = c.in_ok-nodes.ensures.halved h.node (areas nodes number point h) h.there (are nodes number point h) in
    let down = way_kept nodes next way c.args.depth c.requires.tree c.requires.way some 0 (lower nodes number point h) (upper nodes number point h) halved in
    subst (IsGrownIndex next) (get_or_default way (c.args.depth - 1) 0 d down.within) (leaf_parent nodes number point h next parent c.requires.tree above halved)

pub returns-clause-leaves : goal.returns-clause-leaves
returns-clause-leaves c = λ d n pair at made.
    let nodes = c.args.nodes in
    let next = c.in_ok-nodes.nodes in
    let way = c.args.way.now in
    let point = c.args.point.now in
    let some = positive c.args.depth c.if-depth-eq0.false in
    let parent = get_or way (c.args.depth - 1) 0 in
    let number = get_or way c.args.depth 0 in
    let h = c.requires.splittable 0 in
    let above = parent_on_way nodes next way c.args.depth c.requires.tree c.requires.way some 0 in
    let halved = c.in_ok-nodes.ensures.halved h.node (areas nodes number point h) h.there (are nodes number point h) in
    let down = way_kept nodes next way c.args.depth c.requires.tree c.requires.way some 0 (lower nodes number point h) (upper nodes number point h) halved in
    let there = subst (λ i. IsAt nodes i (data_node n)) (get_or_default way c.args.depth d 0 c.requires.way.within) at in
    weaker c.relieve.result (HaveSameLeaves next) (λ s. IsLeafSplit nodes s n.rect pair)
    (λ s same. split_then nodes next s n.rect pair (leaf_leaves nodes number point h next parent c.requires.tree above halved n pair there made) same)
    c.relieve.ensures.leaves

pub returns-clause-history : goal.returns-clause-history
returns-clause-history c =
    weaker c.relieve.result (KeepsHistory c.in_ok-nodes.nodes) (KeepsHistory c.args.nodes)
    (λ s kept. keeps_then c.args.nodes c.in_ok-nodes.nodes s c.in_ok-nodes.ensures.history kept) c.relieve.ensures.history

pub returns-clause-others : goal.returns-clause-others
returns-clause-others c = λ d.
    let nodes = c.args.nodes in
    let next = c.in_ok-nodes.nodes in
    let way = c.args.way.now in
    let point = c.args.point.now in
    let some = positive c.args.depth c.if-depth-eq0.false in
    let parent = get_or way (c.args.depth - 1) 0 in
    let number = get_or way c.args.depth 0 in
    let h = c.requires.splittable 0 in
    let above = parent_on_way nodes next way c.args.depth c.requires.tree c.requires.way some 0 in
    let halved = c.in_ok-nodes.ensures.halved h.node (areas nodes number point h) h.there (are nodes number point h) in
    subst (λ i. IfOk c.relieve.result (DoOtherLeavesStay i nodes)) (get_or_default way c.args.depth 0 d c.requires.way.within)
    (weaker c.relieve.result (DoLeavesStay next) (DoOtherLeavesStay number nodes)
    (λ s stay i n other at bottom. stay i n (others_stay nodes next parent number (lower nodes number point h) (upper nodes number point h) halved c.requires.tree above i n other at bottom) bottom)
    c.relieve.ensures.stay)
