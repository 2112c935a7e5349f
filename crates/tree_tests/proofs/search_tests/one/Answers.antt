use Rattle.std.proofs.Common.{sym, subst}
use Rattle.indexnode.specs.Node.{Tiles}
use Rattle.tree_tests.proofs.search_tests.one.Goals as goal

pub new-requires : goal.new-requires
new-requires g c = subst (λ r. Tiles r c.in-Ok.references.items) c.copy-rect.ensures c.in-Ok.ensures.tiles

pub returns : goal.returns
returns g c =
    let node = c.in-Ok-new.node in
    subst (λ r. Tiles r node.references.items) (sym c.in-Ok-new.ensures.rect)
    (subst (Tiles c.all-area.result) (sym c.in-Ok-new.ensures.references) (subst (λ r. Tiles r c.in-Ok.references.items) c.copy-rect.ensures c.in-Ok.ensures.tiles))
