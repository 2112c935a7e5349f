use Rattle.std.proofs.Common.{sym, subst}
use Rattle.std.specs.Prelude.{IfSome}
use Rattle.keyrange.specs.Rect.{Area, IsArea}
use Rattle.keyrange.specs.Cut.{PartsTime}
use Rattle.indexnode.specs.Node.{Tiles, AllMeet}
use Rattle.indexnode.specs.Split.{starts_before, ends_after, AreCurrentIn}
use Rattle.indexnode.proofs.SplitMeeting.{taken_meet, starts_at_1, past_meets, now_meets}
use Rattle.indexnode.proofs.SplitCurrent.{past_in, now_in}
use Rattle.indexnode.proofs.SplitTiling.{half_tiles, past_in as points_past_in, now_in as points_now_in, starting_before, ending_after}
use Rattle.indexnode.proofs.node.IndexNode.split_time.Goals as goal

pub returns-clause-tiled : goal.returns-clause-tiled
returns-clause-tiled g c = λ tiled.
    let area = c.args.self.now.rect in
    let instant = c.args.instant in
    let parts : PartsTime area c.in-Some.past c.in-Some.now instant = subst (λ h. IfSome h (λ p. PartsTime area p.0 p.1 instant)) c.in-Some.is (subst (λ (a : Area). IfSome c.in_ok-past.field-0 (λ p. PartsTime a p.0 p.1 c.args.instant)) c.rect.ensures.rect c.in_ok-past.ensures.parts) in (
      subst (λ a. Tiles a c.in_ok-half.field-0.references.items) (sym c.in_ok-half.ensures.rect)
          (half_tiles area c.in-Some.past (starts_before instant) _ _ (points_past_in area _ c.in-Some.now instant parts) (starting_before area _ c.in-Some.now instant parts) c.in_ok-half.ensures.references tiled),
      subst (λ a. Tiles a c.in_ok-half-2.field-0.references.items) (sym c.in_ok-half-2.ensures.rect)
          (half_tiles area c.in-Some.now (ends_after instant) _ _ (points_now_in area c.in-Some.past _ instant parts) (ending_after area c.in-Some.past _ instant parts) c.in_ok-half-2.ensures.references tiled),
    )

pub returns-clause-current : goal.returns-clause-current
returns-clause-current g c = λ inside.
    let area = c.args.self.now.rect in
    let instant = c.args.instant in
    let parts : PartsTime area c.in-Some.past c.in-Some.now instant = subst (λ h. IfSome h (λ p. PartsTime area p.0 p.1 instant)) c.in-Some.is (subst (λ (a : Area). IfSome c.in_ok-past.field-0 (λ p. PartsTime a p.0 p.1 c.args.instant)) c.rect.ensures.rect c.in_ok-past.ensures.parts) in (
      subst (λ a. AreCurrentIn a c.in_ok-half.field-0.references.items) (sym c.in_ok-half.ensures.rect)
          (past_in area c.in-Some.past c.in-Some.now instant parts _ _ c.requires.before_current inside c.in_ok-half.ensures.references),
      subst (λ a. AreCurrentIn a c.in_ok-half-2.field-0.references.items) (sym c.in_ok-half-2.ensures.rect)
          (now_in area c.in-Some.past c.in-Some.now instant parts _ _ c.requires.before_current inside c.in_ok-half-2.ensures.references),
    )

pub returns-clause-meet : goal.returns-clause-meet
returns-clause-meet g c = λ meeting.
    let area = c.args.self.now.rect in
    let instant = c.args.instant in
    let parts : PartsTime area c.in-Some.past c.in-Some.now instant = subst (λ h. IfSome h (λ p. PartsTime area p.0 p.1 instant)) c.in-Some.is (subst (λ (a : Area). IfSome c.in_ok-past.field-0 (λ p. PartsTime a p.0 p.1 c.args.instant)) c.rect.ensures.rect c.in_ok-past.ensures.parts) in (
      subst (λ a. AllMeet a c.in_ok-half.field-0.references.items) (sym c.in_ok-half.ensures.rect)
          (taken_meet area c.in-Some.past (starts_before instant) _ _ c.in_ok-half.ensures.references (past_meets area c.in-Some.past c.in-Some.now instant parts c.requires.inside (starts_at_1 area (subst IsArea c.rect.ensures.rect c.rect.ensures.area))) meeting),
      subst (λ a. AllMeet a c.in_ok-half-2.field-0.references.items) (sym c.in_ok-half-2.ensures.rect)
          (taken_meet area c.in-Some.now (ends_after instant) _ _ c.in_ok-half-2.ensures.references (now_meets area c.in-Some.past c.in-Some.now instant parts c.requires.inside (starts_at_1 area (subst IsArea c.rect.ensures.rect c.rect.ensures.area))) meeting),
    )
