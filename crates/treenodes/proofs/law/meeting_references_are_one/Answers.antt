use Rattle.treenodes.proofs.LawOneChild.{one_child}
use Rattle.treenodes.proofs.law.meeting_references_are_one.Goals as goal

pub returns : goal.returns
returns c = one_child
