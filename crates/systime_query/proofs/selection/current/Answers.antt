use Rattle.systime_query.proofs.SelectionAnswered.{current_is}
use Rattle.staging.proofs.NetEvents.{weaker}
use Rattle.systime_query.proofs.selection.current.Goals as goal

pub returns-clause-ok : goal.returns-clause-ok
returns-clause-ok g c =
    weaker c.within.result (λ v h. current_is c.args.view.now c.args.search.now.table c.args.search.now.keys c.last-last.result v.items c.last-last.ensures.upto h) c.within.ensures.ok
