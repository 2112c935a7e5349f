use Rattle.std.proofs.Common.{subst}
use Rattle.std.proofs.lemmas.Option.{slice_get_within}
use Rattle.tsbtree.specs.View.{TreeState}
use Rattle.tsbtree.specs.Leaf.{IsLeafOf}
use Rattle.tsbtree.proofs.ViewLeaf.{leaf_of_state}
use Rattle.tsbtree.proofs.view.View.leaf.Goals as goal

pub at-requires : goal.at-requires
at-requires c = let leaf = c.leaf_at-number.ensures.leaf.leaf in slice_get_within c.self.inside.nodes c.leaf_at-number.result.0 leaf.node leaf.there

pub returns : goal.returns
returns c =
    subst (λ (s : TreeState). IsLeafOf s c.args.key.now c.args.instant c.child.result.now) c.self.view_is
    (leaf_of_state _ c.self.invariant.sound c.args.key.now c.args.instant c.leaf_at-number.result.0 c.at.result.now c.child.result.now c.leaf_at-number.ensures.leaf c.at.ensures c.child.ensures)
