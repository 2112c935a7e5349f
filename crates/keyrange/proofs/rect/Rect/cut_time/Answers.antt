use Rattle.std.proofs.Common.{◌≡◌, Some, sym, ◌∙◌}
use Rattle.keyrange.specs.Cut.{pair_of, rect_of}
use Rattle.keyrange.proofs.CutHalves.{times_made, parted_time}
use Rattle.keyrange.proofs.rect.Rect.cut_time.Goals as goal

halves_is : goal.returns-clause-halves
halves_is c =
    let past : c.in_ok-past.past ≡ c.args.self.now.keys = c.in_ok-past.ensures.ok ∙ c.keys.ensures.keys in
    let keys : c.in_ok-copy.field-0 ≡ c.args.self.now.keys = c.in_ok-copy.ensures.ok ∙ c.keys-2.ensures.keys in
    c.time_halves.ensures
    ∙ (λ i. pair_of (rect_of (past i) (record { from = (c.time.ensures.time i).from; to = Some c.args.instant })) (rect_of (keys i) (record { from = c.args.instant; to = (c.time.ensures.time i).to })))
    ∙ times_made c.args.self.now c.args.instant c.keys.ensures.area (sym c.is_time_inside.ensures ∙ c.if-not-is_time_inside.false)

pub returns-clause-halves : goal.returns-clause-halves
returns-clause-halves c = halves_is c

pub returns-clause-parts : goal.returns-clause-parts
returns-clause-parts c = parted_time c.args.self.now c.args.instant c.time_halves.result (halves_is c)
