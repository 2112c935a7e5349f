use Rattle.std.proofs.Common.{◌≡◌, ◌+◌, sym, ap, subst, ◌∙◌, refl}
use Rattle.std.specs.List.{All, splice}
use Rattle.std.proofs.lemmas.List.{map-id}
use Rattle.std.proofs.lemmas.Iterator.{items_from_drains}
use Rattle.std.proofs.lemmas.Iterator.Adapters.{YieldsList-from_vec}
use Rattle.indexnode.specs.Replacement.{IsFirstPlace}
use Rattle.indexnode.proofs.SplitMeeting.{still_meet}
use Rattle.indexnode.proofs.ReplacementPlace.{has_rect, lacks_rect, in_its_place, tiling_kept, currents_kept}
use Rattle.indexnode.proofs.node.IndexNode.replace.Goals as goal

pub returns-in_default-clause-answer : goal.returns-in_default-clause-answer
returns-in_default-clause-answer g c =
    (λ done. cc, λ has. absurd (lacks_rect c.args.rect.now c.args.self.now.references.items (subst (All (λ r. r.rect ≡ c.args.rect.now → ⊥)) c.deref.ensures.value c.in_default.ensures) has))

pub returns-clause-answer : goal.returns-clause-answer
returns-clause-answer g c = (λ _. has_rect c.args.rect.now c.args.self.now.references.items c.in-Some.place (subst (λ l. IsFirstPlace c.args.rect.now l c.in-Some.place) c.deref.ensures.value c.in-Some.ensures), λ _. refl)

pub returns-clause-replaced : goal.returns-clause-replaced
returns-clause-replaced g c = λ _.
    let items = c.in_ok-_replaced.ensures.items in
    let taken : items.1 ≡ c.args.given.items = sym (map-id items.1) ∙ items_from_drains items.1 (items.3.1.0, items.3.1.1, λ _. (items.3.0, items.3.1.2)) (YieldsList-from_vec c.args.given.items items.2.0 (items.2.1 ∙ c.args.given.ok.0)) in
    in_its_place c.args.rect.now c.args.given.items c.args.self.now.references.items c.splice.new.self.items c.in-Some.place
    (subst (λ l. IsFirstPlace c.args.rect.now l c.in-Some.place) c.deref.ensures.value c.in-Some.ensures)
    (items.4 ∙ ap (splice c.args.self.now.references.items c.in-Some.place (c.in-Some.place + 1)) taken)

pub returns-clause-tiled : goal.returns-clause-tiled
returns-clause-tiled g c = tiling_kept c.args.self.now.rect c.args.rect.now c.args.given.items c.args.self.now.references.items c.splice.new.self.items c.requires.tiles c.requires.inside (returns-clause-replaced g c refl)

pub returns-clause-current : goal.returns-clause-current
returns-clause-current g c = currents_kept c.args.self.now.rect c.args.rect.now c.args.given.items c.args.self.now.references.items c.splice.new.self.items c.requires.tiles c.requires.inside (returns-clause-replaced g c refl)

pub returns-clause-meet : goal.returns-clause-meet
returns-clause-meet g c = still_meet c.args.self.now.rect c.args.rect.now c.args.given.items c.args.self.now.references.items c.splice.new.self.items (returns-clause-replaced g c refl)
