use Rattle.std.proofs.Common.{rules, List, subst}
use Rattle.std.specs.List.Sorted.{IsPermutation}
use Rattle.treewalk.specs.declared.shape.NodeShape.{NodeShape}
use Rattle.treewalk.proofs.ShapeOrder.{shape_is, sorted_by}
use Rattle.treewalk.proofs.shape.tree_shape.Goals as goal

pub returns-clause-ok : goal.returns-clause-ok
returns-clause-ok c =
    shape_is c.args.nodes.now c.sort_by.new.self.items c.requires
    (subst (λ (l : List NodeShape). IsPermutation l c.sort_by.new.self.items) c.in_ok-shapes.ensures.ok c.sort_by.ensures.permutation)
    (sorted_by _ c.in_ok-sort_by.ensures.sorted (λ a r q k. search rules))
