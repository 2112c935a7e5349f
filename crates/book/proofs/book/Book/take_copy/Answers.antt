use Rattle.std.proofs.Common.{◌∙◌, ◌≤◌, sym, ap, subst}
use Rattle.std.specs.Prelude.{All}
use Rattle.validation.specs.tsbtree.View.{TreeState, events, last as view_last}
use Rattle.book.proofs.BookCopying.{copy_of}
use Rattle.book.proofs.book.Book.take_copy.Goals as goal

pub take_copy-requires : goal.take_copy-requires
take_copy-requires g c =
    let same = c.sound-view.ensures.is in
    copy_of g.J.StoreName.origin (record { engine = c.self.inside.engine; entries = c.self.inside.journal.entries }) c.in-Begin.view c.args.begin.now.number c.in-Begin.session c.in-Begin.earlier c.last.result
    c.args.begin.now.entry c.args.copy c.self.invariant (c.has.ensures c.if-not-has.false) (sym c.entry.ensures ∙ c.in-Begin.is) c.sound-view.ensures.sound
    (subst (λ (v : TreeState). All (λ e. e.at ≤ c.last.result) (events v)) same c.last.ensures.upto) (c.last.ensures.last ∙ ap view_last same) c.requires
