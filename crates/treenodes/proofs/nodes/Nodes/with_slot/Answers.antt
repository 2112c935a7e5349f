use Rattle.treenodes.proofs.BacklogKept.{set_kept}
use Rattle.treenodes.proofs.nodes.Nodes.with_slot.Goals as goal

pub with-requires-clause-backlog : goal.with-requires-clause-backlog
with-requires-clause-backlog c = set_kept c.self.inside.slots c.in_ok-others.others c.args.slot c.args.number c.set.new.self c.in_ok-others.ensures.ok c.in_ok-set.ensures.ok
