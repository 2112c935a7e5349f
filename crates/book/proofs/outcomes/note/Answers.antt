use Rattle.std.proofs.Common.{◌≡◌, ◌+◌, ◌∷◌, length, true, false, sym, subst}
use Rattle.journal.specs.declared.entry.Entry.{Entry}
use Rattle.journal.specs.Entries.{has_ended}
use Rattle.book.proofs.outcomes.note.Goals as goal
use Rattle.book.proofs.outcomes.note.Goals.{then-is_done, else-is_done}

pub push-requires-clause-fresh : goal.push-requires-clause-fresh
push-requires-clause-fresh g c κs h =
    let entries = c.args.journal.now.entries in
    elim c.if-is_done.branch [
      | then-is_done w ↦ subst (λ (e : Entry × Entry). has_ended (e.0 ∷ entries) (length entries + 1) ≡ false) (sym w.entry-is) (c.requires.fresh true)
      | else-is_done w ↦ subst (λ (e : Entry × Entry). has_ended (e.0 ∷ entries) (length entries + 1) ≡ false) (sym w.entry-is) (c.requires.fresh false)
    ]
