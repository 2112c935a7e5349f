use Rattle.std.proofs.Common.{◌∙◌, ◌++◌, ◌∷◌, [], true, ap, sym}
use Rattle.datanode.specs.Cut.{is_held_in}
use Rattle.datanode.proofs.CutMembers.{filter_step, filter_left}
use Rattle.datanode.proofs.cut.held_events.Goals as goal
use Rattle.datanode.proofs.cut.held_events.Goals.{then-is_held_in+in_ok-share+in_ok-push, else-is_held_in}

pub loop-place-preserved : goal.loop-place-preserved
loop-place-preserved c = elim c.if-is_held_in.branch [
  | then-is_held_in+in_ok-share+in_ok-push w ↦
      filter_step (is_held_in c.args.time c.args.events.now) c.args.events.now c.loop-place.found.items c.if-is_held_in.found.items c.loop-place.place w.index-events-place.result true c.loop-place-test.true w.index-events-place.is
      (λ d. sym w.if-is_held_in.true ∙ c.is_held_in.ensures d) c.loop-place.invariant
      (ap (λ v. v.items) w.found-is ∙ w.in_ok-push.ensures.items ∙ ap (λ x. c.loop-place.found.items ++ x ∷ []) w.in_ok-share.ensures.ok)
  | else-is_held_in w ↦
      filter_left (is_held_in c.args.time c.args.events.now) c.args.events.now c.loop-place.found.items c.if-is_held_in.found.items c.loop-place.place c.loop-place-test.true
      (λ d. sym w.if-is_held_in.false ∙ c.is_held_in.ensures d) c.loop-place.invariant
      (ap (λ v. v.items) w.found-is)
]
