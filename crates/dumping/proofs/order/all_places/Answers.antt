use Rattle.std.proofs.Common.{◌≡◌, ◌+◌, ◌++◌, ◌∷◌, [], ◌∙◌, add-one, ap, arith, sym}
use Rattle.std.specs.List.{range_with_len}
use Rattle.dumping.proofs.OrderPlaces.{range_more}
use Rattle.dumping.proofs.order.all_places.Goals as goal

pub loop-place-preserved : goal.loop-place-preserved
loop-place-preserved c =
    let here : 0 + c.loop-place.place ≡ c.loop-place.place = omega arith in
    rw add-one (c.in_ok-push.ensures.items ∙ ap (λ l. l ++ c.loop-place.place ∷ []) c.loop-place.invariant
    ∙ sym (range_more 0 c.loop-place.place ∙ ap (λ x. range_with_len 0 c.loop-place.place ++ x ∷ []) here))
