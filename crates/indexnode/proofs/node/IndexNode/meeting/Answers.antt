use Rattle.std.proofs.Common.{sym, ap, subst, ◌∙◌, refl, arith}
use Rattle.std.specs.Prelude.{◌↔◌, IsTrue}
use Rattle.std.specs.List.{All}
use Rattle.keyrange.specs.Rect.{Common}
use Rattle.indexnode.specs.Node.{meet, MeetsWhereCommon}
use Rattle.indexnode.proofs.NodeFound.{took_lent, left_lent, more_hold, all_hold}
use Rattle.indexnode.proofs.node.IndexNode.meeting.Goals as goal
use Rattle.indexnode.proofs.node.IndexNode.meeting.Goals.{then-meets+in_ok-push, else-meets}

pub loop-reference-preserved : goal.loop-reference-preserved
loop-reference-preserved g c =
    let common = more_hold (MeetsWhereCommon c.args.rect.now) c.deref-reference-items.result.now c.loop-reference.reference-index c.reference-item.result c.loop-reference-test.true c.reference-item.is c.loop-reference.invariant.common (subst (λ b. IsTrue b ↔ Common c.reference-item.result.rect c.args.rect.now) c.meets.ensures.test c.meets.ensures.common) in
    elim c.if-meets.branch [
      | then-meets+in_ok-push w ↦ record {
        found = took_lent (λ r. meet r.rect c.args.rect.now) (λ r. r.now) c.deref-reference-items.result.now c.loop-reference.reference-index c.reference-item.result _ c.loop-reference.found.items c.if-meets.found.items c.loop-reference-test.true c.reference-item.is
            (sym c.meets.ensures.test ∙ w.if-meets.true) refl (ap (λ v. v.items) w.found-is ∙ w.in_ok-push.ensures.items) c.loop-reference.invariant.found;
        common = common;
      }
      | else-meets w ↦ record {
        found = left_lent (λ r. meet r.rect c.args.rect.now) (λ r. r.now) c.deref-reference-items.result.now c.loop-reference.reference-index c.reference-item.result c.loop-reference.found.items c.if-meets.found.items c.loop-reference-test.true c.reference-item.is
            (sym c.meets.ensures.test ∙ w.if-meets.false) (ap (λ v. v.items) w.found-is) c.loop-reference.invariant.found;
        common = common;
      }
    ]

pub returns-clause-common : goal.returns-clause-common
returns-clause-common g c =
    subst (All (MeetsWhereCommon c.args.rect.now)) c.deref-reference-items.ensures.value
    (all_hold (MeetsWhereCommon c.args.rect.now) c.deref-reference-items.result.now c.loop-reference.reference-index (omega arith) c.loop-reference.invariant.common)
