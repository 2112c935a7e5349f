use Rattle.journal.specs.declared.entry.Entry.TheVariants.{Install}
use Rattle.book.specs.Outcomes.{entry_of}
use Rattle.book.proofs.BookGrowing.{book, fresh_as, with_install}
use Rattle.book.proofs.book.Book.install.Goals as goal

pub note-requires-clause-fresh : goal.note-requires-clause-fresh
note-requires-clause-fresh g c = λ κs h done.
    let outcomes = c.in_ok-outcomes.outcomes in
    fresh_as g.J.StoreName.origin c.self.inside.journal.entries c.make_room.new.journal.entries (Install c.args.packed.node.rect c.args.packed.bytes done) (entry_of outcomes done) c.self.invariant.legal tt c.make_room.ensures.same (c.in_ok-outcomes.ensures.are done)

pub returns-clause-book : goal.returns-clause-book
returns-clause-book g c =
    let old = book c.self.inside.engine c.self.inside.journal.entries in
    let done = c.in_ok-is_done.is_done in
    with_install g.J.StoreName.origin old c.install.new.self c.args.packed done (entry_of c.in_ok-outcomes.outcomes done) c.make_room.new.journal.entries c.note.new.journal.entries
    c.self.invariant c.install.ensures.same c.tree-tree.ensures.sound c.in_ok-make_room.ensures.few c.make_room.ensures.same (c.in_ok-outcomes.ensures.are done) c.note.ensures.entries
