use Rattle.std.proofs.Common.{◌∙◌, length}
use Rattle.slots.specs.Slots.{all_of}
use Rattle.slots.specs.Beside.{placed_of}
use Rattle.slots.proofs.BesidePlaces.{place_in, inside_placed}
use Rattle.slots.proofs.slots.Slots.put.Goals as goal

pub invariant_of-self : goal.invariant_of-self
invariant_of-self g c =
    let xs = all_of c.self.inside.root in
    let ps = placed_of c.self.inside.beside in
    inside_placed c.put_beside.result (length xs) (record { place = c.args.place; item = c.args.item }) ps (placed_of c.put_beside.new.beside)
    (place_in xs c.args.self.now ps c.args.place (c.self.view_is ∙ c.make_room.ensures.same) c.requires)
    c.self.invariant c.put_beside.ensures.ok c.put_beside.ensures.err
