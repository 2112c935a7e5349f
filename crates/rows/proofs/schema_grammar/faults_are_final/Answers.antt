use Rattle.rows.proofs.SchemaFaults as faults
use Rattle.rows.proofs.schema_grammar.faults_are_final.Goals as goal

pub returns : goal.returns
returns c = record { goes_on = faults.prefixes_go_on; no_more = faults.faults_are_final }
