use Rattle.std.proofs.Common.{◌++◌, ◌∷◌, [], length, ap, ◌∙◌}
use Rattle.std.proofs.lemmas.Option.{slice_get_within}
use Rattle.treenodes.proofs.LookupSteps.{inside_index, index_of, leaf_found}
use Rattle.treenodes.proofs.LookupWays.{way_starts, way_on, way_ends}
use Rattle.treenodes.proofs.lookup.way.Goals as goal

pub loop-node-init : goal.loop-node-init
loop-node-init c = way_starts c.args.nodes.now c.requires.tree c.args.key.now c.args.instant c.requires.instant _ (c.in_ok-push.ensures.items ∙ ap (λ l. l ++ 0 ∷ []) c.new-way.ensures.items)

pub at-requires : goal.at-requires
at-requires c = slice_get_within c.args.nodes.now c.loop-node.number _ c.loop-node.invariant.walked.there

pub find-requires-clause-inside : goal.find-requires-clause-inside
find-requires-clause-inside c = inside_index c.args.nodes.now c.args.key.now c.args.instant c.loop-node.number (length c.loop-node.way.items)
    c.at.result.now c.child.result.now c.in-Index.node c.at.ensures c.child.ensures c.in-Index.is c.loop-node.invariant.walked

pub find-requires-clause-tiled : goal.find-requires-clause-tiled
find-requires-clause-tiled c = (index_of c.args.nodes.now c.args.key.now c.args.instant c.loop-node.number (length c.loop-node.way.items)
    c.at.result.now c.child.result.now c.in-Index.node c.at.ensures c.child.ensures c.in-Index.is c.loop-node.invariant.walked c.requires.tree).tiled

pub loop-node-preserved : goal.loop-node-preserved
loop-node-preserved c = way_on c.args.nodes.now c.requires.tree c.args.key.now c.args.instant c.loop-node.number c.loop-node.way.items
    c.at.result.now c.child.result.now c.in-Index.node c.at.ensures c.child.ensures c.in-Index.is c.loop-node.invariant c.find.result.now c.find.ensures.among c.find.ensures.holds _ c.in_ok-push-2.ensures.items

pub returns-clause-way : goal.returns-clause-way
returns-clause-way c = way_ends c.args.nodes.now c.args.key.now c.args.instant c.loop-node.number c.loop-node.way.items c.loop-node.invariant
    (leaf_found c.args.nodes.now c.args.key.now c.args.instant c.loop-node.number (length c.loop-node.way.items)
    c.at.result.now c.child.result.now c.at.ensures c.child.ensures c.in_default.not-Index c.requires.tree c.loop-node.invariant.walked)
