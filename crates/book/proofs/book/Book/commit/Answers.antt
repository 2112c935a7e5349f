use Rattle.std.proofs.Common.{◌≡◌, ℕ, Option, Result, ap, ◌∙◌, subst}
use Rattle.values.specs.declared.refusal.Refusal.{Refusal}
use Rattle.values.specs.Tables.{Schema}
use Rattle.values.specs.Log.{Net}
use Rattle.validation.specs.tsbtree.View.{TreeState}
use Rattle.journal.specs.BegunState.{BegunState}
use Rattle.journal.specs.declared.entry.Entry.{Entry}
use Rattle.journal.specs.declared.entry.Entry.TheVariants.{Commit}
use Rattle.book.specs.Ending.{IsEnd}
use Rattle.book.specs.Book.{BookState, commit_entry}
use Rattle.book.proofs.BookGrowing.{book, commit_entry_is, commit_fresh, commit_grows}
use Rattle.book.proofs.book.Book.commit.Goals as goal

-- what is read of the begin
ends : (schema : Schema) (end : Result (Option ℕ) Refusal) (reading : ℕ) (net : Net) (engine : TreeState) (begun : BegunState) (start : ℕ) → start ≡ begun.start → IsEnd schema engine start net reading end → IsEnd schema engine begun.start net reading end
ends schema end reading net engine begun start is h = subst (λ t. IsEnd schema engine t net reading end) is h

made : (end : Result (Option ℕ) Refusal) (session reading : ℕ) (net : Net) (begun : BegunState) (number : ℕ) → number ≡ begun.number → (entry : Entry) → entry ≡ Commit session number net reading end → entry ≡ Commit session begun.number net reading end
made end session reading net begun number is entry h = h ∙ ap (λ n. Commit session n net reading end) is

-- by the tables that the caller hands in
ends_here : (schema given : Schema) (engine : TreeState) (start : ℕ) (net : Net) (reading : ℕ) (end : Result (Option ℕ) Refusal) → given ≡ schema → IsEnd given engine start net reading end → IsEnd schema engine start net reading end
ends_here schema given engine start net reading end same h = subst (λ s. IsEnd s engine start net reading end) same h

-- by the net change that the entry keeps
of_copy : (schema : Schema) (engine : TreeState) (start : ℕ) (changes net : Net) (reading : ℕ) (end : Result (Option ℕ) Refusal) → changes ≡ net → IsEnd schema engine start changes reading end → IsEnd schema engine start net reading end
of_copy schema engine start changes net reading end same h = subst (λ n. IsEnd schema engine start n reading end) same h

pub push-requires-clause-fresh : goal.push-requires-clause-fresh
push-requires-clause-fresh g c = λ κs h.
    commit_fresh g.J.StoreName.origin (book c.self.inside.engine c.self.inside.journal.entries) c.args.session c.args.reading c.args.begun.now c.args.net c.in_ok-end.end c.in_ok-entry.entry
    c.self.invariant c.in_ok-find_open.ensures.ok c.requires.keys (ends g.J.StoreName.origin.schema c.in_ok-end.end c.args.reading c.args.net c.self.inside.engine c.args.begun.now c.start.result c.start.ensures (ends_here g.J.StoreName.origin.schema c.args.schema.now _ _ _ _ _ c.requires.tables (of_copy _ _ _ _ _ _ _ c.requires.twice c.in_ok-end.ensures.is))) (made c.in_ok-end.end c.args.session c.args.reading c.args.net c.args.begun.now c.number.result c.number.ensures c.in_ok-entry.entry c.in_ok-entry.ensures.is) c.make_room.new.journal.entries c.make_room.ensures.same

pub invariant_of-self-2 : goal.invariant_of-self-2
invariant_of-self-2 g c =
    commit_grows g.J.StoreName.origin (book c.self.inside.engine c.self.inside.journal.entries) c.args.session c.args.reading c.args.begun.now c.args.net c.in_ok-end.end c.in_ok-entry.entry
    c.self.invariant c.in_ok-find_open.ensures.ok c.requires.keys (ends g.J.StoreName.origin.schema c.in_ok-end.end c.args.reading c.args.net c.self.inside.engine c.args.begun.now c.start.result c.start.ensures (ends_here g.J.StoreName.origin.schema c.args.schema.now _ _ _ _ _ c.requires.tables (of_copy _ _ _ _ _ _ _ c.requires.twice c.in_ok-end.ensures.is))) (made c.in_ok-end.end c.args.session c.args.reading c.args.net c.args.begun.now c.number.result c.number.ensures c.in_ok-entry.entry c.in_ok-entry.ensures.is)
    c.write.new.engine c.args.changes c.instant_of-instant.result c.make_room.new.journal.entries c.push.new.self.entries c.requires.twice c.instant_of-instant.ensures c.in_ok-write.ensures.ok c.tree-tree.ensures.sound c.in_ok-make_room.ensures.few
    c.make_room.ensures.same c.push.ensures.entries

pub returns-clause-entry : goal.returns-clause-entry
returns-clause-entry g c =
    c.push.ensures.entry
    ∙ commit_entry_is g.J.StoreName.origin (book c.self.inside.engine c.self.inside.journal.entries) c.args.session c.args.reading c.args.begun.now c.args.net c.in_ok-end.end c.in_ok-entry.entry
    c.self.invariant c.in_ok-find_open.ensures.ok c.requires.keys (ends g.J.StoreName.origin.schema c.in_ok-end.end c.args.reading c.args.net c.self.inside.engine c.args.begun.now c.start.result c.start.ensures (ends_here g.J.StoreName.origin.schema c.args.schema.now _ _ _ _ _ c.requires.tables (of_copy _ _ _ _ _ _ _ c.requires.twice c.in_ok-end.ensures.is))) (made c.in_ok-end.end c.args.session c.args.reading c.args.net c.args.begun.now c.number.result c.number.ensures c.in_ok-entry.entry c.in_ok-entry.ensures.is)
    ∙ ap (λ (b : BookState). commit_entry g.J.StoreName.origin b c.args.session c.args.begun.now c.args.net c.args.reading) c.self.view_is

pub returns-clause-book : goal.returns-clause-book
returns-clause-book g c =
    commit_grows g.J.StoreName.origin (book c.self.inside.engine c.self.inside.journal.entries) c.args.session c.args.reading c.args.begun.now c.args.net c.in_ok-end.end c.in_ok-entry.entry
    c.self.invariant c.in_ok-find_open.ensures.ok c.requires.keys (ends g.J.StoreName.origin.schema c.in_ok-end.end c.args.reading c.args.net c.self.inside.engine c.args.begun.now c.start.result c.start.ensures (ends_here g.J.StoreName.origin.schema c.args.schema.now _ _ _ _ _ c.requires.tables (of_copy _ _ _ _ _ _ _ c.requires.twice c.in_ok-end.ensures.is))) (made c.in_ok-end.end c.args.session c.args.reading c.args.net c.args.begun.now c.number.result c.number.ensures c.in_ok-entry.entry c.in_ok-entry.ensures.is)
    c.write.new.engine c.args.changes c.instant_of-instant.result c.make_room.new.journal.entries c.push.new.self.entries c.requires.twice c.instant_of-instant.ensures c.in_ok-write.ensures.ok c.tree-tree.ensures.sound c.in_ok-make_room.ensures.few
    c.make_room.ensures.same c.push.ensures.entries
