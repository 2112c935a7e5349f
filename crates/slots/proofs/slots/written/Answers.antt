use Rattle.std.proofs.Common.{◌≡◌, ◌∙◌, length, sym, ap, subst}
use Rattle.slots.specs.Slots.{all_of}
use Rattle.slots.specs.Beside.{over, placed_of, AreInside}
use Rattle.slots.proofs.BesidePlaces.{over_none}
use Rattle.slots.proofs.slots.written.Goals as goal

pub returns-in_default-clause-ok : goal.returns-in_default-clause-ok
returns-in_default-clause-ok g c =
    sym (ap (λ r. over (all_of r) (placed_of c.args.beside.now)) c.in_default.is ∙ over_none (placed_of c.args.beside.now))

pub write-requires : goal.write-requires
write-requires g c =
    let xs : all_of c.args.root.now ≡ c.in_ok-root.root.1 = ap all_of c.in-Some.is ∙ ap (λ t. t.1) (sym c.in_ok-root.ensures.ok) in
    let ps : placed_of c.args.beside.now ≡ c.in-Some-beside.beside = ap placed_of c.in-Some-beside.is in
    subst (λ l. AreInside (length l) c.in-Some-beside.beside) xs (subst (λ b. AreInside (length (all_of c.args.root.now)) b) ps c.requires)
