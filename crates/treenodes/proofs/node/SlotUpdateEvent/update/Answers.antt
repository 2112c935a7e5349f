use Rattle.std.specs.Arc.{arc_value}
use Rattle.treenodes.proofs.NodePut.{put_shown, put_copied}
use Rattle.treenodes.proofs.node.SlotUpdateEvent.update.Goals as goal

pub returns-in-Some-clause-ok : goal.returns-in-Some-clause-ok
returns-in-Some-clause-ok c = put_shown c.put.result c.self.inside.level c.in-Some.child.now c.put.new.self (arc_value c.self.inside.child) c.args.self.now c.args.event c.put.ensures.ok c.in-Some.ensures.value c.self.view_is

pub returns-clause-ok : goal.returns-clause-ok
returns-clause-ok c =
    put_copied c.self.inside.level c.current.result.now (arc_value c.in_ok-self-inside.field-0) (arc_value c.self.inside.child) c.in_ok-child.child c.args.self.now c.args.event c.self.view_is c.current.ensures c.in_ok-child.ensures.ok c.in_ok-self-inside.ensures.ok
