use Rattle.std.proofs.Common.{◌↔◌, IsTrue, sym, subst}
use Rattle.datanode.specs.Node.{Accepts}
use Rattle.datanode.proofs.NodeLast.{accepts_is}
use Rattle.datanode.proofs.node.DataNode.accepts.Goals as goal

pub returns : goal.returns
returns c = subst (λ b. IsTrue b ↔ Accepts c.args.self.now c.args.event.now) (sym c.is_accepted.ensures.accepted) (accepts_is c.args.self.now c.args.event.now c.is_accepted.ensures.map)
