use Rattle.std.proofs.Common.{map, ap, refl}
use Rattle.serving.specs.Progress.{Given}
use Rattle.listening.proofs.PileParts.{filled, nothing_of}
use Rattle.listening.proofs.pile.Pile.with_room.Goals as goal

pub invariant_of-result : goal.invariant_of-result
invariant_of-result g c = λ is. nothing_of g.J.StoreName.origin.schema _ _ _ _ _
    (filled g.J.StoreName.origin.schema _ _ _ _ c.in_ok-resize.ensures.items c.new-lasts.ensures.items c.new-lasts.ensures.len c.from.ensures)
    refl
    (ap (map {B = Given} (λ r. record { number = r.number; entry = r.entry })) c.in_ok-with_capacity.ensures.items)
