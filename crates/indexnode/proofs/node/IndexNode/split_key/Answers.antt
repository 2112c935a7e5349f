use Rattle.std.proofs.Common.{sym, subst}
use Rattle.std.specs.Prelude.{IfSome}
use Rattle.keyrange.specs.Cut.{PartsKeys}
use Rattle.indexnode.specs.Node.{Tiles, AllMeet}
use Rattle.indexnode.specs.Split.{reaches_below, reaches_up, AreCurrentIn}
use Rattle.indexnode.proofs.SplitMeeting.{taken_meet, below_meets, above_meets}
use Rattle.indexnode.proofs.SplitCurrent.{below_in, above_in}
use Rattle.indexnode.proofs.SplitTiling.{half_tiles, one_in, other_in, reaching_below, reaching_up}
use Rattle.indexnode.proofs.node.IndexNode.split_key.Goals as goal

pub returns-clause-tiled : goal.returns-clause-tiled
returns-clause-tiled g c = λ tiled.
    let area = c.args.self.now.rect in
    let key = c.args.key.now in
    let parts : PartsKeys area c.in-Some.below c.in-Some.above key = subst (λ h. IfSome h (λ p. PartsKeys area p.0 p.1 key)) c.in-Some.is c.in_ok-below.ensures.parts in (
      subst (λ a. Tiles a c.in_ok-half.field-0.references.items) (sym c.in_ok-half.ensures.rect)
          (half_tiles area c.in-Some.below (reaches_below key) _ _ (one_in area _ c.in-Some.above key parts) (reaching_below area _ c.in-Some.above key parts) c.in_ok-half.ensures.references tiled),
      subst (λ a. Tiles a c.in_ok-half-2.field-0.references.items) (sym c.in_ok-half-2.ensures.rect)
          (half_tiles area c.in-Some.above (reaches_up key) _ _ (other_in area c.in-Some.below _ key parts) (reaching_up area c.in-Some.below _ key parts) c.in_ok-half-2.ensures.references tiled),
    )

pub returns-clause-current : goal.returns-clause-current
returns-clause-current g c = λ inside.
    let area = c.args.self.now.rect in
    let key = c.args.key.now in
    let parts : PartsKeys area c.in-Some.below c.in-Some.above key = subst (λ h. IfSome h (λ p. PartsKeys area p.0 p.1 key)) c.in-Some.is c.in_ok-below.ensures.parts in (
      subst (λ a. AreCurrentIn a c.in_ok-half.field-0.references.items) (sym c.in_ok-half.ensures.rect)
          (below_in area c.in-Some.below c.in-Some.above key parts _ _ c.requires.uncrossed inside c.in_ok-half.ensures.references),
      subst (λ a. AreCurrentIn a c.in_ok-half-2.field-0.references.items) (sym c.in_ok-half-2.ensures.rect)
          (above_in area c.in-Some.below c.in-Some.above key parts _ _ c.requires.uncrossed inside c.in_ok-half-2.ensures.references),
    )

pub returns-clause-meet : goal.returns-clause-meet
returns-clause-meet g c = λ meeting.
    let area = c.args.self.now.rect in
    let key = c.args.key.now in
    let parts : PartsKeys area c.in-Some.below c.in-Some.above key = subst (λ h. IfSome h (λ p. PartsKeys area p.0 p.1 key)) c.in-Some.is c.in_ok-below.ensures.parts in (
      subst (λ a. AllMeet a c.in_ok-half.field-0.references.items) (sym c.in_ok-half.ensures.rect)
          (taken_meet area c.in-Some.below (reaches_below key) _ _ c.in_ok-half.ensures.references (below_meets area c.in-Some.below c.in-Some.above key parts c.requires.inside) meeting),
      subst (λ a. AllMeet a c.in_ok-half-2.field-0.references.items) (sym c.in_ok-half-2.ensures.rect)
          (taken_meet area c.in-Some.above (reaches_up key) _ _ c.in_ok-half-2.ensures.references (above_meets area c.in-Some.below c.in-Some.above key parts c.requires.inside) meeting),
    )
