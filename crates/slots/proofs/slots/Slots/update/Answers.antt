use Rattle.std.proofs.Common.{◌≡◌, ◌∙◌, length, sym, ap, subst, get_or, set}
use Rattle.std.proofs.lemmas.Option.{get_or_from_slice_get}
use Rattle.slots.specs.Slots.{all_of}
use Rattle.slots.specs.Beside.{placed_of}
use Rattle.slots.proofs.BesidePlaces.{place_in, read_first, read_elsewhere, inside_changed, view_changed, inside_written, view_written}
use Rattle.slots.proofs.TriePlaces.{some_of}
use Rattle.slots.proofs.TrieOutcomes.{on_ok}
use Rattle.slots.proofs.slots.Slots.update.Goals as goal

pub update_at-requires-clause-can : goal.update_at-requires-clause-can
update_at-requires-clause-can g c = λ e. (
    let ps = placed_of c.self.inside.beside in
    let x = (get_or ps c.in-Some.at e).item in
    subst (λ y. g.T.Update.can_update y c.args.change)
    (read_first (all_of c.self.inside.root) c.args.self.now ps c.args.place c.in-Some.at x e c.self.view_is c.in-Some.ensures c.requires.inside)
    (c.requires.can x)
    )

pub invariant_of-self : goal.invariant_of-self
invariant_of-self g c =
    inside_changed c.update_at.result (length (all_of c.self.inside.root)) c.in-Some.at (placed_of c.self.inside.beside) (placed_of c.update_at.new.beside) (λ p. g.T.Update.updated p.item c.args.change)
    c.in-Some.ensures.bound c.self.invariant c.update_at.ensures.ok c.update_at.ensures.err

pub returns-in-Some-clause-ok : goal.returns-in-Some-clause-ok
returns-in-Some-clause-ok g c = λ d. (
    let xs = all_of c.self.inside.root in
    let ps = placed_of c.self.inside.beside in
    view_changed c.update_at.result xs c.args.self.now ps (placed_of c.update_at.new.beside) c.args.place c.in-Some.at (λ p. g.T.Update.updated p.item c.args.change)
    (g.T.Update.updated (get_or c.args.self.now c.args.place d) c.args.change) c.in-Some.ensures c.self.view_is
    (λ e. ap (λ y. g.T.Update.updated y c.args.change) (sym (read_first xs c.args.self.now ps c.args.place c.in-Some.at d e c.self.view_is c.in-Some.ensures c.requires.inside)))
    c.update_at.ensures.ok
    )

pub changed-requires : goal.changed-requires
changed-requires g c =
    let x = c.at.result.now in
    subst (λ y. g.T.Update.can_update y c.args.change) (get_or_from_slice_get c.args.self.now c.args.place x x c.at.ensures) (c.requires.can x)

pub returns-then-is_shared-clause-ok : goal.returns-then-is_shared-clause-ok
returns-then-is_shared-clause-ok g c = λ d. (
    let now = c.args.self.now in
    let x = c.at.result.now in
    let same : c.in_ok-item.item ≡ g.T.Update.updated (get_or now c.args.place d) c.args.change =
    c.in_ok-item.ensures.ok ∙ ap (λ y. g.T.Update.updated y c.args.change) (sym (get_or_from_slice_get now c.args.place x d c.at.ensures)) in
    on_ok (c.put.new.self ≡ set now c.args.place c.in_ok-item.item) (c.put.new.self ≡ set now c.args.place (g.T.Update.updated (get_or now c.args.place d) c.args.change)) c.put.result
    (λ e. e ∙ ap (set now c.args.place) same) c.put.ensures.ok
    )

pub update_in-requires-clause-inside : goal.update_in-requires-clause-inside
update_in-requires-clause-inside g c =
    place_in (all_of c.self.inside.root) c.args.self.now (placed_of c.self.inside.beside) c.args.place c.self.view_is c.requires.inside

pub update_in-requires-clause-can : goal.update_in-requires-clause-can
update_in-requires-clause-can g c = λ d.
    subst (λ y. g.T.Update.can_update y c.args.change)
    (read_elsewhere (all_of c.self.inside.root) c.args.self.now (placed_of c.self.inside.beside) c.args.place d c.self.view_is c.in_default.ensures)
    (c.requires.can d)

pub invariant_of-self-2 : goal.invariant_of-self-2
invariant_of-self-2 g c =
    let xs = all_of c.self.inside.root in
    let lt = place_in xs c.args.self.now (placed_of c.self.inside.beside) c.args.place c.self.view_is c.requires.inside in
    let d = some_of xs c.args.place lt in
    inside_written c.update_in.result xs (all_of c.update_in.new.root) c.args.place (g.T.Update.updated (get_or xs c.args.place d) c.args.change) (placed_of c.self.inside.beside)
    (c.update_in.ensures.ok d) c.update_in.ensures.err c.self.invariant

pub returns-clause-ok : goal.returns-clause-ok
returns-clause-ok g c = λ d. (
    let xs = all_of c.self.inside.root in
    let ps = placed_of c.self.inside.beside in
    let now = c.args.self.now in
    let same = ap (λ y. g.T.Update.updated y c.args.change) (sym (read_elsewhere xs now ps c.args.place d c.self.view_is c.in_default.ensures)) in
    let ok = on_ok (all_of c.update_in.new.root ≡ set xs c.args.place (g.T.Update.updated (get_or xs c.args.place d) c.args.change)) (all_of c.update_in.new.root ≡ set xs c.args.place (g.T.Update.updated (get_or now c.args.place d) c.args.change)) c.update_in.result
    (λ e. e ∙ ap (set xs c.args.place) same) (c.update_in.ensures.ok d) in
    view_written c.update_in.result xs (all_of c.update_in.new.root) now ps c.args.place (g.T.Update.updated (get_or now c.args.place d) c.args.change)
    c.in_default.ensures c.self.view_is ok
    )
