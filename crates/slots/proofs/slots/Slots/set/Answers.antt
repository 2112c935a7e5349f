use Rattle.std.proofs.Common.{length, refl}
use Rattle.slots.specs.Slots.{all_of}
use Rattle.slots.specs.Beside.{placed_of}
use Rattle.slots.proofs.BesidePlaces.{place_in, inside_changed, view_changed, inside_written, view_written}
use Rattle.slots.proofs.slots.Slots.set.Goals as goal

pub invariant_of-self : goal.invariant_of-self
invariant_of-self g c =
    inside_changed c.set_at.result (length (all_of c.self.inside.root)) c.in-Some.at (placed_of c.self.inside.beside) (placed_of c.set_at.new.beside) (λ _. c.args.item)
    c.in-Some.ensures.bound c.self.invariant c.set_at.ensures.ok c.set_at.ensures.err

pub returns-in-Some-clause-ok : goal.returns-in-Some-clause-ok
returns-in-Some-clause-ok g c =
    view_changed c.set_at.result (all_of c.self.inside.root) c.args.self.now (placed_of c.self.inside.beside) (placed_of c.set_at.new.beside) c.args.place c.in-Some.at (λ _. c.args.item) c.args.item
    c.in-Some.ensures c.self.view_is (λ _. refl) c.set_at.ensures.ok

pub set_in-requires : goal.set_in-requires
set_in-requires g c = place_in (all_of c.self.inside.root) c.args.self.now (placed_of c.self.inside.beside) c.args.place c.self.view_is c.requires

pub invariant_of-self-2 : goal.invariant_of-self-2
invariant_of-self-2 g c =
    inside_written c.set_in.result (all_of c.self.inside.root) (all_of c.set_in.new.root) c.args.place c.args.item (placed_of c.self.inside.beside) c.set_in.ensures.ok c.set_in.ensures.err c.self.invariant

pub returns-clause-ok : goal.returns-clause-ok
returns-clause-ok g c =
    view_written c.set_in.result (all_of c.self.inside.root) (all_of c.set_in.new.root) c.args.self.now (placed_of c.self.inside.beside) c.args.place c.args.item
    c.in_default.ensures c.self.view_is c.set_in.ensures.ok
