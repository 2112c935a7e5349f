use Rattle.treenodes.proofs.BacklogKept.{next_kept}
use Rattle.treenodes.proofs.nodes.Nodes.with_last.Goals as goal

pub with-requires-clause-backlog : goal.with-requires-clause-backlog
with-requires-clause-backlog c = next_kept c.self.inside.slots c.self.inside.backlog c.args.slot c.len-number.result c.push.new.self c.self.invariant c.len-number.ensures c.in_ok-push.ensures.ok
