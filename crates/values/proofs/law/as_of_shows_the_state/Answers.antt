use Rattle.values.proofs.LawAsOf.{as_of_shows_state, as_of_stays, as_of_is_widened}
use Rattle.values.proofs.law.as_of_shows_the_state.Goals as goal

pub returns-clause-state : goal.returns-clause-state
returns-clause-state c = as_of_shows_state

pub returns-clause-stays : goal.returns-clause-stays
returns-clause-stays c = as_of_stays

pub returns-clause-widened : goal.returns-clause-widened
returns-clause-widened c = as_of_is_widened
