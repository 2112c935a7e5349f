use Rattle.std.proofs.Common.{sym, ◌∙◌}
use Rattle.std.proofs.lemmas.Option.{slice_get_within}
use Rattle.treewalk.proofs.DescentSteps.{root_around, first_there, index_is, child_at_first, child_below}
use Rattle.treewalk.proofs.descent.node_around.Goals as goal

pub loop-node-init : goal.loop-node-init
loop-node-init c = root_around c.args.nodes.now c.requires c.args.rect.now c.time-start.ensures.area

pub at-requires : goal.at-requires
at-requires c = slice_get_within c.args.nodes.now c.loop-node.number c.loop-node.invariant.node c.loop-node.invariant.there

pub find-reference-requires-clause-inside : goal.find-reference-requires-clause-inside
find-reference-requires-clause-inside c =
    first_there c.args.nodes.now c.requires c.args.rect.now c.time-start.ensures.area c.loop-node.number c.at.result.now c.child.result.now c.in-Index.node c.at.ensures c.child.ensures c.in-Index.is c.loop-node.invariant
    c.keys.result.now c.time-start.result c.keys.ensures.keys c.time-start.ensures.time

pub find-reference-requires-clause-tiled : goal.find-reference-requires-clause-tiled
find-reference-requires-clause-tiled c =
    (index_is c.args.nodes.now c.requires c.args.rect.now c.time-start.ensures.area c.loop-node.number c.at.result.now c.child.result.now c.in-Index.node c.at.ensures c.child.ensures c.in-Index.is c.loop-node.invariant).tiled

pub loop-node-preserved : goal.loop-node-preserved
loop-node-preserved c =
    child_at_first c.args.nodes.now c.requires c.args.rect.now c.time-start.ensures.area c.loop-node.number c.at.result.now c.child.result.now c.in-Index.node c.at.ensures c.child.ensures c.in-Index.is c.loop-node.invariant
    c.find-reference.result.now c.keys.result.now c.time-start.result c.keys.ensures.keys c.time-start.ensures.time c.find-reference.ensures.among c.find-reference.ensures.holds (sym c.ends_within.ensures ∙ c.if-not-ends_within.false)

pub loop-node-smaller : goal.loop-node-smaller
loop-node-smaller c =
    child_below c.args.nodes.now c.requires c.args.rect.now c.time-start.ensures.area c.loop-node.number c.at.result.now c.child.result.now c.in-Index.node c.at.ensures c.child.ensures c.in-Index.is c.loop-node.invariant
    c.find-reference.result.now c.find-reference.ensures.among
