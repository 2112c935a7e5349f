use Rattle.std.proofs.Common.{sym, subst, ◌∙◌}
use Rattle.statement.specs.Writer.{Prints}
use Rattle.statement.proofs.PrintQuotes.{quoted-plain}
use Rattle.statement.proofs.print.print_doubled.Goals as goal

pub returns-else-has_quote : goal.returns-else-has_quote
returns-else-has_quote g c = subst (Prints _ _ c.write_all.result) (sym (quoted-plain c.args.text.now (sym c.has_quote.ensures ∙ c.if-has_quote.false))) c.write_all.ensures
