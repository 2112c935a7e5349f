use Rattle.std.proofs.Common.{◌+◌}
use Rattle.std.proofs.lemmas.Option.{slice_get_within}
use Rattle.treenodes.proofs.LookupSteps.{start, inside_index, index_of, step_down, leaf_found}
use Rattle.treewalk.proofs.DescentSteps.{child_lower}
use Rattle.treewalk.proofs.cursor.Cursor.descend.Goals as goal

pub loop-node-init : goal.loop-node-init
loop-node-init c = (1, start _ c.requires.tree _ _ c.requires.instant)

pub at-requires : goal.at-requires
at-requires c = slice_get_within c.args.nodes.now c.loop-node.number _ c.loop-node.invariant.1.there

pub find-requires-clause-inside : goal.find-requires-clause-inside
find-requires-clause-inside c = inside_index c.args.nodes.now c.args.key.now c.args.instant c.loop-node.number c.loop-node.invariant.0
    c.at.result.now c.child.result.now c.in-Index.node c.at.ensures c.child.ensures c.in-Index.is c.loop-node.invariant.1

pub find-requires-clause-tiled : goal.find-requires-clause-tiled
find-requires-clause-tiled c = (index_of c.args.nodes.now c.args.key.now c.args.instant c.loop-node.number c.loop-node.invariant.0
    c.at.result.now c.child.result.now c.in-Index.node c.at.ensures c.child.ensures c.in-Index.is c.loop-node.invariant.1 c.requires.tree).tiled

pub loop-node-preserved : goal.loop-node-preserved
loop-node-preserved c = (
  c.loop-node.invariant.0 + 1,
  step_down c.args.nodes.now c.args.key.now c.args.instant c.loop-node.number c.loop-node.invariant.0
      c.at.result.now c.child.result.now c.in-Index.node c.at.ensures c.child.ensures c.in-Index.is c.loop-node.invariant.1 c.requires.tree c.find.result.now c.find.ensures.among c.find.ensures.holds,
)

pub loop-node-smaller : goal.loop-node-smaller
loop-node-smaller c = child_lower c.args.nodes.now c.requires.tree c.loop-node.number
    c.at.result.now c.child.result.now c.in-Index.node c.at.ensures c.child.ensures c.in-Index.is c.find.result.now c.find.ensures.among

pub returns : goal.returns
returns c = leaf_found c.args.nodes.now c.args.key.now c.args.instant c.loop-node.number c.loop-node.invariant.0
    c.at.result.now c.child.result.now c.at.ensures c.child.ensures c.in_default.not-Index c.requires.tree c.loop-node.invariant.1
