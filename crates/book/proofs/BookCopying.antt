-- A copy of a node that a begin shows is one from a view of what the book holds.
use Rattle.std.proofs.Common.{◌≡◌, ℕ, ◌≤◌, Some, sym, ap, subst, ◌∙◌}
use Rattle.std.specs.Prelude.{All}
use Rattle.growlog.specs.Origin.{Origin}
use Rattle.validation.specs.treenodes.LeafCopy.{NumberedNode, IsCopyIn, until}
use Rattle.validation.specs.tsbtree.View.{TreeState, events, last as view_last, IsState}
use Rattle.validation.specs.tsbtree.Copy.{IsCopyOf}
use Rattle.journal.specs.declared.entry.Entry.{Entry}
use Rattle.journal.specs.declared.entry.Entry.TheVariants.{Begin}
use Rattle.journal.specs.Entries.{entry_at}
use Rattle.journal.proofs.LegalViews.{begins_saw}
use Rattle.book.specs.Book.{BookState, IsBook}
use Rattle.book.specs.Copy.{IsCopyFor}

pub copy_of : (o : Origin) (b : BookState) (view : TreeState) (number session earlier last : ℕ) (e : Entry) (copy : NumberedNode) → IsBook o b → entry_at b.entries number ≡ Some e → e ≡ Begin session earlier view
    → IsState view.nodes (view_last view) → All (λ e. e.at ≤ last) (events view) → last ≡ view_last view → IsCopyFor e copy → IsCopyOf b.engine last copy
copy_of o b view number session earlier last e copy is there begins state upto last_is copied = record {
  view = view;
  sound = state.sound;
  copied = subst (λ e. IsCopyFor e copy) begins copied;
  past =
      begins_saw o b.entries view number session earlier is.legal (subst (λ t. All (λ e. e.at ≤ t) (events view)) last_is upto) (there ∙ ap (λ e. Some e) begins)
      ∙ ap (until (view_last view)) (sym is.holds.events_are)
      ∙ ap (λ t. until t (events b.engine)) (sym last_is);
}
