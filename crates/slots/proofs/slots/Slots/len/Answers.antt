use Rattle.std.proofs.Common.{length, sym, ap, ◌∙◌}
use Rattle.slots.specs.Slots.{all_of}
use Rattle.slots.specs.Beside.{placed_of}
use Rattle.slots.proofs.BesidePlaces.{over_length}
use Rattle.slots.proofs.slots.Slots.len.Goals as goal

pub returns-in-None : goal.returns-in-None
returns-in-None g c =
    sym (ap length (sym c.self.view_is) ∙ over_length (all_of c.self.inside.root) (placed_of c.self.inside.beside) ∙ ap (λ r. length (all_of r)) c.in-None.is)

pub returns-in-Some : goal.returns-in-Some
returns-in-Some g c =
    c.len.ensures
    ∙ sym (ap length (sym c.self.view_is) ∙ over_length (all_of c.self.inside.root) (placed_of c.self.inside.beside) ∙ ap (λ r. length (all_of r)) c.in-Some.is)
