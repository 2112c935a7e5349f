use Rattle.std.proofs.Common.{ap, ◌∙◌, subst}
use Rattle.values.specs.Events.{put_event}
use Rattle.datanode.specs.Cut.{cut}
use Rattle.datanode.specs.Node.{Node, IsNode}
use Rattle.datanode.proofs.NodePut.{node_with, cut_with}
use Rattle.datanode.proofs.node.DataNode.put.Goals as goal

pub invariant_of-self-2 : goal.invariant_of-self-2
invariant_of-self-2 c = node_with c.self.inside.rect c.self.inside.events.items c.in_ok-event.event c.put.new.events.items c.self.invariant c.in_ok-put.ensures.ok

pub returns-clause-of_map : goal.returns-clause-of_map
returns-clause-of_map c m h =
    cut_with c.args.self.now _ c.args.event (subst (λ (n : Node). IsNode n.rect n.events) c.self.view_is c.self.invariant) c.requires.inside c.requires.last
    (ap (λ l. record { rect = c.self.inside.rect; events = l }) (c.in_ok-put.ensures.ok ∙ ap (λ e. cut c.self.inside.rect (put_event e c.self.inside.events.items)) c.in_ok-event.ensures.ok)
    ∙ ap (λ (n : Node). record { rect = n.rect; events = cut n.rect (put_event c.args.event n.events) }) c.self.view_is)
    m h
