use Rattle.std.proofs.Common.{◌≡◌, ◌++◌, ◌∷◌, [], ap, ◌∙◌}
use Rattle.keyrange.proofs.RectInside.{halves_inside}
use Rattle.indexnode.proofs.SplitMeeting.{both_meet}
use Rattle.indexnode.proofs.ListPairs.{tile_halves, lie_inside}
use Rattle.indexnode.proofs.list.pair.Goals as goal

pub returns-clause-halves : goal.returns-clause-halves
returns-clause-halves g c = λ area halves.
    let items : c.push-2.new.self.items ≡ c.args.first ∷ c.args.second ∷ [] =
    c.in_ok-push-2.ensures.items ∙ ap (λ l. l ++ c.args.second ∷ []) (c.in_ok-push.ensures.items ∙ ap (λ l. l ++ c.args.first ∷ []) c.in_ok-references.ensures.items) in (
      tile_halves area c.args.first c.args.second _ halves items,
      lie_inside area c.args.first c.args.second _ (halves_inside area _ _ halves).0 (halves_inside area _ _ halves).1 items,
    )

pub returns-clause-meet : goal.returns-clause-meet
returns-clause-meet g c = λ outer one other.
    let items : c.push-2.new.self.items ≡ c.args.first ∷ c.args.second ∷ [] =
    c.in_ok-push-2.ensures.items ∙ ap (λ l. l ++ c.args.second ∷ []) (c.in_ok-push.ensures.items ∙ ap (λ l. l ++ c.args.first ∷ []) c.in_ok-references.ensures.items) in
    both_meet outer c.args.first c.args.second c.push-2.new.self.items c.time-first.ensures.area c.time-second.ensures.area one other items
