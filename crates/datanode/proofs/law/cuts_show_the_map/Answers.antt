use Rattle.datanode.proofs.LawLast.{shown_by_cut, latest_in_cut}
use Rattle.datanode.proofs.law.cuts_show_the_map.Goals as goal

pub returns-clause-shown : goal.returns-clause-shown
returns-clause-shown c = shown_by_cut

pub returns-clause-last : goal.returns-clause-last
returns-clause-last c = latest_in_cut
