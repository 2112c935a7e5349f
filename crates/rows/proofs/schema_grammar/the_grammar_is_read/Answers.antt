use Rattle.rows.proofs.SchemaFaults as faults
use Rattle.rows.proofs.SchemaReads as reads
use Rattle.rows.proofs.schema_grammar.the_grammar_is_read.Goals as goal

pub returns : goal.returns
returns c = record { read = reads.read; one_thing = reads.one_thing; only = reads.only; at_tokens = faults.at_tokens }
