use Rattle.datanode.proofs.LawHalves.{cut_of_cut}
use Rattle.datanode.proofs.law.cuts_are_nested.Goals as goal

pub returns : goal.returns
returns c = cut_of_cut
