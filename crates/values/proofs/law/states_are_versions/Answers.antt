use Rattle.values.proofs.LawAsOf.{state_is_as_of, state_is_current}
use Rattle.values.proofs.LogUpto.{changes_upto_is}
use Rattle.values.proofs.law.states_are_versions.Goals as goal

pub returns-clause-as_of : goal.returns-clause-as_of
returns-clause-as_of c = state_is_as_of

pub returns-clause-current : goal.returns-clause-current
returns-clause-current c = state_is_current

pub returns-clause-upto : goal.returns-clause-upto
returns-clause-upto c = changes_upto_is
