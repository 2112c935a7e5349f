use Rattle.book.proofs.BookGrowing.{book_over}
use Rattle.book.proofs.book.Book.over.Goals as goal

pub invariant_of-result-2 : goal.invariant_of-result-2
invariant_of-result-2 g c = book_over g.J.StoreName.origin c.args.engine c.new.result.entries c.requires.holds c.requires.clock c.tree-tree.ensures.sound c.new.ensures

pub returns-clause-book : goal.returns-clause-book
returns-clause-book g c = book_over g.J.StoreName.origin c.args.engine c.new.result.entries c.requires.holds c.requires.clock c.tree-tree.ensures.sound c.new.ensures
