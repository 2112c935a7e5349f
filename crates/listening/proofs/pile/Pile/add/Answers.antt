use Rattle.std.proofs.Common.{◌∙◌, ◌||◌, List, map, ap, sym}
use Rattle.std.proofs.lemmas.List.{map-append}
use Rattle.serving.specs.Progress.{Given}
use Rattle.listening.specs.Pile.{PileState, counted, goes_on, is_again, with_last}
use Rattle.listening.proofs.PileParts.{with_more}
use Rattle.listening.proofs.pile.Pile.add.Goals as goal

pub invariant_of-self-2 : goal.invariant_of-self-2
invariant_of-self-2 g c =
    let own : List Given = map (λ r. record { number = r.number; entry = r.entry }) c.args.receipts.now.items in
    with_more g.J.StoreName.origin.schema _ c.args.origin own c.goes_on-goes_on.result _ _ _ _ _ c.self.invariant c.requires
    (c.goes_on-goes_on.ensures ∙ (λ k. goes_on (sym c.self.view_is k).lasts (sym c.self.view_is k).connections c.args.origin (map {B = Given} (λ r. record { number = r.number; entry = r.entry }) (c.as_slice.ensures.value k))))
    (c.count.ensures ∙ sym (ap (λ gs. counted c.self.inside.lasts.items c.args.origin (map {B = Given} (λ r. record { number = r.number; entry = r.entry }) gs)) (sym c.as_slice-2.ensures.value)
    ∙ ap (λ (p : PileState). counted p.lasts c.args.origin (map {B = Given} (λ r. record { number = r.number; entry = r.entry }) c.as_slice-2.result.now)) c.self.view_is
    ∙ c.last_with-last.ensures
    ∙ ap (λ (p : PileState). with_last p.lasts c.args.origin c.last_with-last.result) (sym c.self.view_is)))
    c.one_more-connections.ensures
    (ap (λ b. c.self.inside.again || b) (c.is_again-again.ensures ∙ ap (λ (p : PileState). is_again p.lasts c.args.origin) (sym c.self.view_is)))
    (ap (λ b. c.self.inside.has_full || b) c.has_full.ensures)
    (ap (map {B = Given} (λ r. record { number = r.number; entry = r.entry })) c.in_ok-append.ensures.items ∙ map-append (λ r. record { number = r.number; entry = r.entry }) c.self.inside.receipts.items c.args.receipts.now.items)
