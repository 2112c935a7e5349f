use Rattle.std.proofs.lemmas.Option.{slice_get_within}
use Rattle.treenodes.proofs.LookupSteps.{start, inside_index, index_of, step_down, leaf_found, all_visited}
use Rattle.treenodes.proofs.lookup.leaf_at.Goals as goal

pub loop-node-init : goal.loop-node-init
loop-node-init c = start _ c.requires.tree _ _ c.requires.instant

pub at-requires : goal.at-requires
at-requires c = slice_get_within c.args.nodes.now c.loop-node.number _ c.loop-node.invariant.there

pub find-requires-clause-inside : goal.find-requires-clause-inside
find-requires-clause-inside c = inside_index c.args.nodes.now c.args.key.now c.args.instant c.loop-node.number c.loop-node.visits
    c.at.result.now c.child.result.now c.in-Index.node c.at.ensures c.child.ensures c.in-Index.is c.loop-node.invariant

pub find-requires-clause-tiled : goal.find-requires-clause-tiled
find-requires-clause-tiled c = (index_of c.args.nodes.now c.args.key.now c.args.instant c.loop-node.number c.loop-node.visits
    c.at.result.now c.child.result.now c.in-Index.node c.at.ensures c.child.ensures c.in-Index.is c.loop-node.invariant c.requires.tree).tiled

pub loop-node-preserved : goal.loop-node-preserved
loop-node-preserved c = step_down c.args.nodes.now c.args.key.now c.args.instant c.loop-node.number c.loop-node.visits
    c.at.result.now c.child.result.now c.in-Index.node c.at.ensures c.child.ensures c.in-Index.is c.loop-node.invariant c.requires.tree c.find.result.now c.find.ensures.among c.find.ensures.holds

pub returns-clause-leaf : goal.returns-clause-leaf
returns-clause-leaf c = leaf_found c.args.nodes.now c.args.key.now c.args.instant c.loop-node.number c.loop-node.visits
    c.at.result.now c.child.result.now c.at.ensures c.child.ensures c.in_default.not-Index c.requires.tree c.loop-node.invariant

pub returns-clause-visits : goal.returns-clause-visits
returns-clause-visits c = all_visited c.args.nodes.now c.args.key.now c.args.instant c.loop-node.number c.loop-node.visits
    c.at.result.now c.child.result.now c.at.ensures c.child.ensures c.in_default.not-Index c.requires.tree c.loop-node.invariant
