use Rattle.std.proofs.Common.{sym, ap, map, ◌++◌, ◌∷◌, [], ◌∙◌}
use Rattle.std.proofs.lemmas.List.{map-append}
use Rattle.migrator.proofs.RoundSteps.{comes, install_in, install_rect}
use Rattle.migrator.proofs.round.Round.install.Goals as goal

pub invariant_of-self-2 : goal.invariant_of-self-2
invariant_of-self-2 g c =
    comes g.N.RoundName.begin g.N.RoundName.shown _ c.self.invariant
    c.rect.result.now c.remove.new.self (c.remove.ensures c.rect.result.now c.in-Some.ensures)
    (c.in_ok-receipt.receipt.number, c.in_ok-receipt.receipt.entry) (install_in g.N.RoundName.shown c.into_packed.result (c.in_ok-receipt.receipt.number, c.in_ok-receipt.receipt.entry) c.in_ok-receipt.ensures.install c.into_packed.ensures.unpacked c.into_packed.ensures.block)
    (install_rect c.into_packed.result c.in_ok-receipt.receipt.entry c.rect.result.now c.in_ok-receipt.ensures.install (c.rect.ensures ∙ ap (λ p. p.node.rect) (sym c.into_packed.ensures.packed)))
    _ (ap (map (λ r. (r.number, r.entry))) (c.push_reserved.ensures.items ∙ ap (λ l. l ++ c.in_ok-receipt.receipt ∷ []) c.in_ok-reserve.ensures.items) ∙ map-append (λ r. (r.number, r.entry)) c.self.inside.receipts.items (c.in_ok-receipt.receipt ∷ []))
