use Rattle.std.proofs.Common.{◌+◌, refl, sym, ap, ◌∙◌, arith}
use Rattle.keyrange.specs.Rect.{Area}
use Rattle.keyrange.specs.declared.range.TimeRange.{TimeRange}
use Rattle.treewalk.specs.Leaf.{node_in}
use Rattle.treewalk.proofs.ChangeAfterShown.{next_leaf, ends_above, here, nowhere, later_on, none_late}
use Rattle.treewalk.proofs.ListingRead.{in_time}
use Rattle.treewalk.proofs.change_after.change_by_leaves.Goals as goal

pub loop-until-init : goal.loop-until-init
loop-until-init c m holds = refl

pub returns-then-is_some : goal.returns-then-is_some
returns-then-is_some c m holds =
    here m holds.ordered c.args.key.now c.loop-until.until (node_in c.leaf-node.result.now)
    (next_leaf m c.args.key.now c.loop-until.until (node_in c.leaf-node.result.now) c.leaf-node.ensures.point (c.leaf-node.ensures.cut m holds))
    c.next_change_in-found.result c.next_change_in-found.ensures
    (sym c.is_some.ensures ∙ c.if-is_some.true)
    ∙ c.loop-until.invariant m holds

pub returns-in-None : goal.returns-in-None
returns-in-None c m holds =
    let to = ap (λ (t : TimeRange). t.to) c.time.ensures.time ∙ ap (λ (r : Area). r.time.to) c.rect.ensures.rect in
    nowhere m holds.ordered c.args.key.now c.loop-until.until (node_in c.leaf-node.result.now)
    (next_leaf m c.args.key.now c.loop-until.until (node_in c.leaf-node.result.now) c.leaf-node.ensures.point (c.leaf-node.ensures.cut m holds))
    c.next_change_in-found.result c.next_change_in-found.ensures
    (sym c.is_some.ensures ∙ c.if-is_some.false) (sym to ∙ c.in-None.is)
    ∙ c.loop-until.invariant m holds

pub loop-until-preserved : goal.loop-until-preserved
loop-until-preserved c m holds =
    let to = ap (λ (t : TimeRange). t.to) c.time.ensures.time ∙ ap (λ (r : Area). r.time.to) c.rect.ensures.rect in
    let ends = sym to ∙ c.in-Some.is in
    let lt = ends_above (node_in c.leaf-node.result.now).rect c.args.key.now (c.loop-until.until + 1) c.in-Some.end c.leaf-node.ensures.point ends in
    later_on m holds.ordered c.args.key.now c.loop-until.until (node_in c.leaf-node.result.now)
    (next_leaf m c.args.key.now c.loop-until.until (node_in c.leaf-node.result.now) c.leaf-node.ensures.point (c.leaf-node.ensures.cut m holds))
    c.next_change_in-found.result c.next_change_in-found.ensures
    c.in-Some.end (sym c.is_some.ensures ∙ c.if-is_some.false) ends (omega (arith, lt))
    ∙ c.loop-until.invariant m holds

pub returns : goal.returns
returns c m holds =
    none_late m c.args.key.now c.loop-until.until 999999999999999999 (λ x i. (in_time c.args.nodes.now c.requires m holds x i).1) c.loop-until-test.false
    ∙ c.loop-until.invariant m holds
