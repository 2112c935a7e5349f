use Rattle.book.proofs.BookGrowing.{fresh_begin}
use Rattle.book.proofs.book.Book.begin.Goals as goal

pub push-receipt-requires-clause-fresh : goal.push-receipt-requires-clause-fresh
push-receipt-requires-clause-fresh g c = λ κs h. fresh_begin g.J.StoreName.origin c.self.inside.journal.entries c.make_room.new.journal.entries c.in_ok-entry.entry _ _ _ c.self.invariant.legal c.make_room.ensures.same c.in_ok-entry.ensures.is
