use Rattle.statement.proofs.PrintRead as printed
use Rattle.statement.proofs.grammar_law.printed_rows_are_read.Goals as goal

pub returns : goal.returns
returns c = printed.printed_rows
