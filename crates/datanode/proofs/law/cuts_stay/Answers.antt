use Rattle.datanode.proofs.LawElsewhere.{cut_stays}
use Rattle.datanode.proofs.law.cuts_stay.Goals as goal

pub returns : goal.returns
returns c r m e area away = cut_stays r area m e away
