use Rattle.datanode.proofs.LawHalves.{own_of_cut, halves_at_key, halves_at_instant}
use Rattle.datanode.proofs.law.halves_hold_each_event_once.Goals as goal

pub returns-clause-own : goal.returns-clause-own
returns-clause-own c = own_of_cut

pub returns-clause-by_key : goal.returns-clause-by_key
returns-clause-by_key c = halves_at_key

pub returns-clause-by_time : goal.returns-clause-by_time
returns-clause-by_time c = halves_at_instant
