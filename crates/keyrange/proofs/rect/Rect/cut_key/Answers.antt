use Rattle.std.proofs.Common.{◌≡◌, Some, sym, ◌∙◌}
use Rattle.keyrange.specs.Cut.{pair_of, rect_of}
use Rattle.keyrange.proofs.CutHalves.{halves_made, parted_keys}
use Rattle.keyrange.proofs.rect.Rect.cut_key.Goals as goal

halves_is : goal.returns-clause-halves
halves_is c =
    let whole : c.in_ok-whole.whole ≡ c.args.self.now.keys = c.in_ok-whole.ensures.ok ∙ c.keys.ensures.keys in
    c.key_halves.ensures
    ∙ (λ i. pair_of (rect_of (record { lo = (whole i).lo; hi = Some (c.in_ok-end.ensures.ok i) }) (c.time.ensures.time i)) (rect_of (record { lo = c.in_ok-start.ensures.ok i; hi = (whole i).hi }) (c.time.ensures.time i)))
    ∙ halves_made c.args.self.now c.args.key.now c.keys.ensures.area (sym c.is_key_inside.ensures ∙ c.if-not-is_key_inside.false)

pub returns-clause-halves : goal.returns-clause-halves
returns-clause-halves c = halves_is c

pub returns-clause-parts : goal.returns-clause-parts
returns-clause-parts c = parted_keys c.args.self.now c.args.key.now c.key_halves.result (halves_is c)
