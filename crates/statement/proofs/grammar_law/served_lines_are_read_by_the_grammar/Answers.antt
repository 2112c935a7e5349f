use Rattle.statement.proofs.GrammarReads as by
use Rattle.statement.proofs.grammar_law.served_lines_are_read_by_the_grammar.Goals as goal

pub returns : goal.returns
returns c = record { read = by.served_read; one_thing = by.served_one_thing; nothing = by.served_nothing; only = by.served_only; at_tokens = by.served_at_tokens }
