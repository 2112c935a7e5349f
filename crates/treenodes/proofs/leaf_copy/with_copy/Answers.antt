use Rattle.std.proofs.Common.{◌∙◌, Some, sym, ap, subst}
use Rattle.treenodes.specs.Node.{TreeNode}
use Rattle.treenodes.specs.LeafCopy.{IsCopyIn}
use Rattle.treenodes.proofs.leaf_copy.with_copy.Goals as goal

pub with_equal-requires : goal.with_equal-requires
with_equal-requires c =
    subst (λ copy. IsCopyIn c.args.nodes copy) (sym c.copy.view_is) c.requires ∙ ap (λ (n : TreeNode). Some n) (sym c.in_ok-slot.ensures.ok)
