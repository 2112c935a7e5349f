use Rattle.std.proofs.Common.{◌∙◌, sym, subst, refl, arith}
use Rattle.indexnode.specs.Replacement.{HasRect}
use Rattle.tree_tests.proofs.indexnode_tests.one_child.Goals as goal

pub returns : goal.returns
returns g c =
    subst (HasRect c.args.area.now) (sym (c.node_over.ensures.references ∙ c.in-Ok.ensures.are)) (0, record { rect = c.copy-rect.result; child = 5 }, omega arith, refl, c.copy-rect.ensures)
