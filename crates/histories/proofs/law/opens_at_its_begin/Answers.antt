use Rattle.histories.proofs.HistoryOpens as opens
use Rattle.histories.proofs.law.opens_at_its_begin.Goals as goal

pub returns : goal.returns
returns c = opens.opens_at_its_begin
