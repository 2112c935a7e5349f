use Rattle.journal.specs.declared.entry.Entry.TheVariants.{Split}
use Rattle.book.specs.Outcomes.{entry_of}
use Rattle.book.proofs.BookGrowing.{fresh_as}
use Rattle.book.proofs.book.Book.split.Goals as goal

pub note-requires-clause-fresh : goal.note-requires-clause-fresh
note-requires-clause-fresh g c = λ κs h done.
    fresh_as g.J.StoreName.origin c.self.inside.journal.entries c.make_room.new.journal.entries (Split c.args.cut done) (entry_of c.in_ok-outcomes.outcomes done) c.self.invariant.legal tt c.make_room.ensures.same (c.in_ok-outcomes.ensures.are done)
