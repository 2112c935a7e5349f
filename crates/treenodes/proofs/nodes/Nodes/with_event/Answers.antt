use Rattle.treenodes.proofs.BacklogKept.{event_kept}
use Rattle.treenodes.proofs.nodes.Nodes.with_event.Goals as goal

pub invariant_of-result : goal.invariant_of-result
invariant_of-result c =
    event_kept c.self.inside.slots c.args.self c.self.inside.backlog c.args.number c.args.event c.update.new.self c.self.view_is c.requires.inside c.requires.can c.self.invariant c.in_ok-update.ensures.ok
