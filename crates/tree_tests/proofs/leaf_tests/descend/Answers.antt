use Rattle.treenodes.specs.declared.node.Child.TheVariants.{Index}
use Rattle.treenodes.proofs.LookupSteps.{shown_at, index_at}
use Rattle.tree_tests.proofs.leaf_tests.descend.Goals as goal

pub find-requires-clause-tiled : goal.find-requires-clause-tiled
find-requires-clause-tiled c =
    let nodes = c.nodes-nodes.result.now in
    let node = c.in-Some.node.now in
    let x = c.in-Index.index in
    (index_at nodes c.nodes-nodes.ensures.sound.kept.tree c.loop.number node.level x.rect x.references.items (shown_at nodes c.loop.number node c.child.result.now (Index x) c.in-Some.ensures c.child.ensures c.in-Index.is)).tiled
