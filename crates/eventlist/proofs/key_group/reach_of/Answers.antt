use Rattle.std.proofs.Common.{sym, ◌∙◌}
use Rattle.eventlist.proofs.KeyGroupJumps.{past_none}
use Rattle.eventlist.proofs.key_group.reach_of.Goals as goal

pub returns-clause-none : goal.returns-clause-none
returns-clause-none c = past_none c.args.key.now c.args.events.now c.loop-reach.reach c.min.result c.requires (sym c.is_up_to.ensures ∙ c.loop-reach-test.false) c.min.ensures
