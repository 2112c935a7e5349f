use Rattle.std.proofs.Common.{length, refl, arith, ap, ◌∙◌, filter}
use Rattle.std.proofs.lemmas.List.{take_all}
use Rattle.timesplit.proofs.StayCount.{stays, counted, count_is}
use Rattle.timesplit.proofs.stay.stay_count.Goals as goal
use Rattle.timesplit.proofs.stay.stay_count.Goals.{then-stays, else-stays}

pub loop-place-preserved : goal.loop-place-preserved
loop-place-preserved c =
    let more = counted (stays c.events-events.result.now c.args.instant) c.events-events.result.now c.loop-place.place c.stays.result c.loop-place-test.true c.stays.ensures in
    elim c.if-stays.branch [
      | then-stays w ↦ record { counted = grind (arith, more); few = omega arith }
      | else-stays w ↦ record { counted = grind (arith, more); few = omega arith }
    ]

pub returns-clause-count : goal.returns-clause-count
returns-clause-count c =
    c.loop-place.invariant.counted
    ∙ ap (λ l. length (filter (stays c.events-events.result.now c.args.instant) l)) (take_all c.loop-place.place c.events-events.result.now c.loop-place-test.false)
    ∙ ap (λ es. length (filter (stays es c.args.instant) es)) c.events-events.ensures.are

pub returns-clause-half : goal.returns-clause-half
returns-clause-half c =
    count_is c.args.node.now.rect c.args.node.now.events c.args.node.now.events c.args.instant c.loop-place.count c.events-events.ensures.node refl (returns-clause-count c)
