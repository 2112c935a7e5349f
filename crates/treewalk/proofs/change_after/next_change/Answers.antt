use Rattle.std.proofs.Common.{◌+◌, sym, ap, ◌∙◌, arith}
use Rattle.keyrange.specs.Rect.{Area}
use Rattle.keyrange.specs.declared.range.TimeRange.{TimeRange}
use Rattle.treewalk.specs.Leaf.{node_in}
use Rattle.treewalk.proofs.ChangeAfterShown.{next_leaf, ends_above, here, nowhere, later_on, none_late}
use Rattle.treewalk.proofs.ListingRead.{in_time}
use Rattle.treewalk.proofs.change_after.next_change.Goals as goal

pub returns-then-after-ge-MAX_INSTANT : goal.returns-then-after-ge-MAX_INSTANT
returns-then-after-ge-MAX_INSTANT c m holds = none_late m c.args.key.now c.args.after 999999999999999999 (λ x i. (in_time c.args.nodes.now c.requires m holds x i).1) c.if-after-ge-MAX_INSTANT.true

pub returns-then-is_some : goal.returns-then-is_some
returns-then-is_some c m holds =
    here m holds.ordered c.args.key.now c.args.after (node_in c.leaf-node.result.now)
    (next_leaf m c.args.key.now c.args.after (node_in c.leaf-node.result.now) c.leaf-node.ensures.point (c.leaf-node.ensures.cut m holds))
    c.next_change_in-found.result c.next_change_in-found.ensures
    (sym c.is_some.ensures ∙ c.if-is_some.true)

pub returns-in-None : goal.returns-in-None
returns-in-None c m holds =
    let to = ap (λ (t : TimeRange). t.to) c.time.ensures.time ∙ ap (λ (r : Area). r.time.to) c.rect.ensures.rect in
    nowhere m holds.ordered c.args.key.now c.args.after (node_in c.leaf-node.result.now)
    (next_leaf m c.args.key.now c.args.after (node_in c.leaf-node.result.now) c.leaf-node.ensures.point (c.leaf-node.ensures.cut m holds))
    c.next_change_in-found.result c.next_change_in-found.ensures
    (sym c.is_some.ensures ∙ c.if-is_some.false) (sym to ∙ c.in-None.is)

pub returns-in-Some : goal.returns-in-Some
returns-in-Some c m holds =
    let to = ap (λ (t : TimeRange). t.to) c.time.ensures.time ∙ ap (λ (r : Area). r.time.to) c.rect.ensures.rect in
    let ends = sym to ∙ c.in-Some.is in
    let lt = ends_above (node_in c.leaf-node.result.now).rect c.args.key.now (c.args.after + 1) c.in-Some.end c.leaf-node.ensures.point ends in
    c.later_change.ensures m holds
    ∙ later_on m holds.ordered c.args.key.now c.args.after (node_in c.leaf-node.result.now)
    (next_leaf m c.args.key.now c.args.after (node_in c.leaf-node.result.now) c.leaf-node.ensures.point (c.leaf-node.ensures.cut m holds))
    c.next_change_in-found.result c.next_change_in-found.ensures
    c.in-Some.end (sym c.is_some.ensures ∙ c.if-is_some.false) ends (omega (arith, lt))
