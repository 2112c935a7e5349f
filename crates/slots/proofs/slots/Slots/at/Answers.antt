use Rattle.std.proofs.Common.{length, sym, ap, ◌∙◌, arith}
use Rattle.std.specs.List.{slice_get}
use Rattle.slots.specs.Slots.{all_of}
use Rattle.slots.specs.Beside.{placed_of}
use Rattle.slots.proofs.BesidePlaces.{place_in, reads_first, over_reads}
use Rattle.slots.proofs.slots.Slots.at.Goals as goal

pub returns-in-Some : goal.returns-in-Some
returns-in-Some g c =
    let xs = all_of c.self.inside.root in
    let ps = placed_of c.self.inside.beside in
    ap (λ l. slice_get l c.args.place) (sym c.self.view_is)
    ∙ reads_first xs ps c.args.place c.in-Some.item.now c.in-Some.ensures (place_in xs c.args.self.now ps c.args.place c.self.view_is c.requires)

pub unreachable-requires : goal.unreachable-requires
unreachable-requires g c =
    omega (arith, place_in (all_of c.self.inside.root) c.args.self.now (placed_of c.self.inside.beside) c.args.place c.self.view_is c.requires, ap (λ r. length (all_of r)) c.in-None.is)

pub get-requires : goal.get-requires
get-requires g c =
    omega (arith, place_in (all_of c.self.inside.root) c.args.self.now (placed_of c.self.inside.beside) c.args.place c.self.view_is c.requires, ap (λ r. length (all_of r)) c.in-Some-root.is)

pub returns : goal.returns
returns g c =
    ap (λ l. slice_get l c.args.place) (sym c.self.view_is)
    ∙ over_reads (all_of c.self.inside.root) (placed_of c.self.inside.beside) c.args.place c.get.result.now c.in_default.ensures
    (ap (λ r. slice_get (all_of r) c.args.place) c.in-Some-root.is ∙ c.get.ensures)
