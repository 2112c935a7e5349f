use Rattle.std.proofs.Common.{◌∙◌, sym, ap, subst, get_or}
use Rattle.slots.specs.declared.beside.Placed.{Placed}
use Rattle.slots.proofs.beside.Beside.update.Goals as goal

pub changed-requires : goal.changed-requires
changed-requires g c =
    let d : Placed _ = record { place = 0; item = c.get.result.now } in
    subst (λ y. g.T.Update.can_update y c.args.change)
    (ap (λ l. (get_or l c.args.at d).item) (sym c.self.view_is) ∙ c.get.ensures d) (c.requires.can d)
