use Rattle.treewalk.proofs.ShapeOrder.{shapes_more}
use Rattle.treewalk.proofs.shape.all_shapes.Goals as goal

pub loop-number-preserved : goal.loop-number-preserved
loop-number-preserved c =
    shapes_more c.args.nodes.now c.loop-number.number c.at.result.now c.in_ok-node_shape.field-0 c.loop-number.shapes.items c.push.new.self.items c.at.ensures c.in_ok-node_shape.ensures.ok c.loop-number.invariant c.in_ok-push.ensures.items
