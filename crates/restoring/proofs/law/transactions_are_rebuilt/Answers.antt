use Rattle.restoring.proofs.RebuiltNet as rebuilt
use Rattle.restoring.proofs.law.transactions_are_rebuilt.Goals as goal

pub returns-clause-net : goal.returns-clause-net
returns-clause-net c = rebuilt.net_is_rebuilt

pub returns-clause-added : goal.returns-clause-added
returns-clause-added c = rebuilt.transaction_is_added
