use Rattle.std.proofs.Common.{◌+◌, refl, sym, ap, ◌∙◌, arith}
use Rattle.keyrange.specs.Rect.{Area}
use Rattle.keyrange.specs.declared.range.TimeRange.{TimeRange}
use Rattle.values.specs.Events.{event_until}
use Rattle.treewalk.specs.Leaf.{node_in}
use Rattle.treewalk.proofs.ChangeAfterShown.{known_leaf, ends_above, here, nowhere, later_on}
use Rattle.treewalk.proofs.change_after.change_before.Goals as goal

pub loop-until-init : goal.loop-until-init
loop-until-init c = (omega arith, λ m holds. refl)

pub overflow_sub-until : goal.overflow_sub-until
overflow_sub-until c = c.loop-until.invariant.0

pub returns-then-is_some : goal.returns-then-is_some
returns-then-is_some c m holds =
    here m holds.ordered c.args.key.now c.loop-until.until (node_in c.leaf-node.result.now)
    (known_leaf m holds.ordered c.args.key.now c.loop-until.until (c.loop-until.until + 1 + c.min-step.result) (node_in c.leaf-node.result.now) c.leaf-node.ensures.point (c.leaf-node.ensures.cut m holds)
    (event_until (node_in c.leaf-node.result.now).events c.args.key.now c.loop-until.until) refl (sym c.is_known_in.ensures ∙ c.if-is_known_in.true))
    c.next_change_in-found.result c.next_change_in-found.ensures
    (sym c.is_some.ensures ∙ c.if-is_some.true)
    ∙ c.loop-until.invariant.1 m holds

pub returns-in-None : goal.returns-in-None
returns-in-None c m holds =
    let to = ap (λ (t : TimeRange). t.to) c.time-time.ensures.time ∙ ap (λ (r : Area). r.time.to) c.rect.ensures.rect in
    nowhere m holds.ordered c.args.key.now c.loop-until.until (node_in c.leaf-node.result.now)
    (known_leaf m holds.ordered c.args.key.now c.loop-until.until (c.loop-until.until + 1 + c.min-step.result) (node_in c.leaf-node.result.now) c.leaf-node.ensures.point (c.leaf-node.ensures.cut m holds)
    (event_until (node_in c.leaf-node.result.now).events c.args.key.now c.loop-until.until) refl (sym c.is_known_in.ensures ∙ c.if-is_known_in.true))
    c.next_change_in-found.result c.next_change_in-found.ensures
    (sym c.is_some.ensures ∙ c.if-is_some.false) (sym to ∙ c.in-None.is)
    ∙ c.loop-until.invariant.1 m holds

pub loop-until-preserved-in-Some : goal.loop-until-preserved-in-Some
loop-until-preserved-in-Some c =
    let to = ap (λ (t : TimeRange). t.to) c.time-time.ensures.time ∙ ap (λ (r : Area). r.time.to) c.rect.ensures.rect in
    let ends = sym to ∙ c.in-Some.is in
    let lt = ends_above (node_in c.leaf-node.result.now).rect c.args.key.now (c.loop-until.until + 1 + c.min-step.result) c.in-Some.end c.leaf-node.ensures.point ends in
    let le = c.loop-until.invariant.0 in (
      omega (arith, lt, le),
      λ m holds.
          later_on m holds.ordered c.args.key.now c.loop-until.until (node_in c.leaf-node.result.now)
          (known_leaf m holds.ordered c.args.key.now c.loop-until.until (c.loop-until.until + 1 + c.min-step.result) (node_in c.leaf-node.result.now) c.leaf-node.ensures.point (c.leaf-node.ensures.cut m holds)
          (event_until (node_in c.leaf-node.result.now).events c.args.key.now c.loop-until.until) refl (sym c.is_known_in.ensures ∙ c.if-is_known_in.true))
          c.next_change_in-found.result c.next_change_in-found.ensures
          c.in-Some.end (sym c.is_some.ensures ∙ c.if-is_some.false) ends (omega (arith, lt))
          ∙ c.loop-until.invariant.1 m holds,
    )

pub loop-until-preserved : goal.loop-until-preserved
loop-until-preserved c = c.loop-until.invariant

pub returns : goal.returns
returns c m holds = c.change_by_leaves.ensures m holds ∙ c.loop-until.invariant.1 m holds
