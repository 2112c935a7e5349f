use Rattle.statement.proofs.GrammarReads as by
use Rattle.statement.proofs.LineEnds as ends
use Rattle.statement.proofs.grammar_law.lines_are_read_by_the_grammar.Goals as goal

pub returns : goal.returns
returns c = record { read = by.script_read; one_thing = by.script_one_thing; nothing = by.script_nothing; only = by.script_only; at_tokens = by.script_at_tokens; ends = ends.line_ends }
