use Rattle.histories.proofs.LawRefused as refused
use Rattle.histories.proofs.law.refused_writes_change_nothing.Goals as goal

pub returns : goal.returns
returns c = refused.refused_writes_change_nothing
