use Rattle.std.proofs.Common.{◌≡◌, sym, subst, ◌∙◌}
use Rattle.std.specs.List.{flat_map}
use Rattle.std.proofs.lemmas.Result.{IfOk-weaker}
use Rattle.treewalk.specs.Gather.{events_at}
use Rattle.treewalk.specs.Level.{AreLeaves, AreMeeting}
use Rattle.treewalk.specs.RangeChange.{event_since_in}
use Rattle.treewalk.proofs.GatherLeaves.{are_leaves}
use Rattle.treewalk.proofs.RangeChangeShown.{none_above, none_asked, leaves_latest}
use Rattle.treewalk.proofs.range_change.changed_in.Goals as goal

pub returns-then-start-ge-MAX_INSTANT-clause-ok : goal.returns-then-start-ge-MAX_INSTANT-clause-ok
returns-then-start-ge-MAX_INSTANT-clause-ok c m holds = none_above c.args.nodes.now c.requires m holds c.args.range.now c.args.start c.if-start-ge-MAX_INSTANT.true

pub returns-in-None-clause-ok : goal.returns-in-None-clause-ok
returns-in-None-clause-ok c m holds = none_asked c.args.nodes.now c.requires m holds c.args.range.now c.args.start (sym c.in_ok-rect_between.ensures.ok ∙ c.in-None.is)

pub change_in_leaves-requires-clause-leaves : goal.change_in_leaves-requires-clause-leaves
change_in_leaves-requires-clause-leaves c =
    subst (AreLeaves c.args.nodes.now) (sym c.deref.ensures.value) (are_leaves c.args.nodes.now c.requires _ c.in_ok-leaves-in-Some.leaves.items c.in_ok-leaves-in-Some.ensures.ok)

pub returns-in_ok-leaves-in-Some-clause-ok : goal.returns-in_ok-leaves-in-Some-clause-ok
returns-in_ok-leaves-in-Some-clause-ok c m holds =
    IfOk-weaker c.change_in_leaves.result (λ i. i ≡ event_since_in (flat_map (events_at c.args.nodes.now) c.deref.result.now) c.args.start c.args.range.now) (λ i. i ≡ event_since_in m c.args.start c.args.range.now)
    (λ i is. is ∙ leaves_latest c.args.nodes.now c.requires m holds c.args.range.now c.args.start c.in-Some.rect (sym c.in_ok-rect_between.ensures.ok ∙ c.in-Some.is) c.deref.result.now
    (subst (AreMeeting c.args.nodes.now 0 c.in-Some.rect) (sym c.deref.ensures.value) c.in_ok-leaves-in-Some.ensures.ok))
    c.change_in_leaves.ensures.ok
