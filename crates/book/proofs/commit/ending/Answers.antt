use Rattle.std.proofs.Common.{sym}
use Rattle.book.proofs.BookGrowing.{not_memory}
use Rattle.book.proofs.commit.ending.Goals as goal

pub returns-clause-is : goal.returns-clause-is
returns-clause-is c = λ m held keys. c.validate-end.ensures.outcome m held keys (not_memory c.validate-end.result (sym c.if-ran_out.ensures))
