use Rattle.indexnode.proofs.NodeMeeting.{met}
use Rattle.indexnode.proofs.node.meets.Goals as goal

pub returns-clause-test : goal.returns-clause-test
returns-clause-test c = met c.args.first.now c.args.second.now c.meets.result c.time-first.ensures.area c.time-second.ensures.area c.meets.ensures.common c.meets.ensures.apart
