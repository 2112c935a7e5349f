use Rattle.statement.proofs.GrammarFinal as final
use Rattle.statement.proofs.GrammarGoing as going
use Rattle.statement.proofs.grammar_law.faults_are_final.Goals as goal

pub returns-clause-goes_on : goal.returns-clause-goes_on
returns-clause-goes_on c = going.script_fronts

pub returns-clause-no_more : goal.returns-clause-no_more
returns-clause-no_more c = final.script_final
