use Rattle.std.proofs.Common.{sym, ◌∙◌}
use Rattle.eventlist.proofs.ListingRanges.{below_none}
use Rattle.eventlist.proofs.range.reach_below.Goals as goal

pub returns-clause-none : goal.returns-clause-none
returns-clause-none c = below_none c.args.key.now c.args.events.now c.loop-reach.reach c.min.result c.requires (sym c.is_below_at.ensures ∙ c.loop-reach-test.false) c.min.ensures
