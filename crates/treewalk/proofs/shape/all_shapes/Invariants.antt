use Rattle.std.proofs.Common.{◌≡◌, take, map}
use Rattle.treewalk.specs.Shape.{node_shape}
use Rattle.treewalk.proofs.shape.all_shapes.Given as goal

abbrev pub invariant-loop-number : goal.invariant-loop-number
invariant-loop-number l = l.shapes.items ≡ map node_shape (take l.number l.nodes)
