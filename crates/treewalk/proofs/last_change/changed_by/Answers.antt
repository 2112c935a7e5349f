use Rattle.std.proofs.Common.{◌≡◌, ◌≤◌, ◌-◌, ap, subst, sym, ◌∙◌, arith}
use Rattle.std.proofs.lemmas.Bool.{and_parts, leb-true}
use Rattle.keyrange.specs.Rect.{Area}
use Rattle.keyrange.specs.declared.range.TimeRange.{TimeRange}
use Rattle.treewalk.specs.Leaf.{node_in}
use Rattle.treewalk.proofs.LastChangeShown.{none_since, changed, earlier}
use Rattle.treewalk.proofs.ListingRead.{in_time}
use Rattle.treewalk.proofs.last_change.changed_by.Goals as goal

pub loop-instant-init : goal.loop-instant-init
loop-instant-init c m holds e i same = (in_time c.args.nodes.now c.requires m holds e i).1

pub returns-in-Some : goal.returns-in-Some
returns-in-Some c m holds =
    c.above.ensures
    ∙ changed m holds.ordered holds.instants c.args.key.now c.loop-instant.instant (node_in c.numbered_leaf-node.result.now) (c.numbered_leaf-node.ensures.point c.args.key.now c.loop-instant.instant c.leaf_near-number.ensures) (c.numbered_leaf-node.ensures.cut m holds) (c.loop-instant.invariant m holds)
    c.args.start c.in-Some.last c.last_change_in.result c.last_change_in.ensures c.in-Some.is

pub loop-instant-preserved : goal.loop-instant-preserved
loop-instant-preserved c m holds e i same =
    let from : c.time-instant.result.from ≡ (node_in c.numbered_leaf-node.result.now).rect.time.from = ap (λ (t : TimeRange). t.from) c.time-instant.ensures.time ∙ ap (λ (r : Area). r.time.from) c.rect.ensures.rect in
    subst (λ f. e.at ≤ f - 1) (sym from)
    (earlier m holds.ordered holds.instants c.args.key.now c.loop-instant.instant (node_in c.numbered_leaf-node.result.now) (c.numbered_leaf-node.ensures.point c.args.key.now c.loop-instant.instant c.leaf_near-number.ensures) (c.numbered_leaf-node.ensures.cut m holds) (c.loop-instant.invariant m holds)
    c.last_change_in.result c.last_change_in.ensures c.in_default.is e i same)

pub loop-instant-smaller : goal.loop-instant-smaller
loop-instant-smaller c =
    let node = node_in c.numbered_leaf-node.result.now in
    let point = c.numbered_leaf-node.ensures.point c.args.key.now c.loop-instant.instant c.leaf_near-number.ensures in
    let from : c.time-instant.result.from ≡ node.rect.time.from = ap (λ (t : TimeRange). t.from) c.time-instant.ensures.time ∙ ap (λ (r : Area). r.time.from) c.rect.ensures.rect in
    let upto : node.rect.time.from ≤ c.loop-instant.instant = leb-true node.rect.time.from c.loop-instant.instant (and_parts _ _ (and_parts _ _ point).1).0 in
    let below = c.loop-instant-test.true in
    omega (arith, from, upto, below)

pub returns : goal.returns
returns c m holds = none_since m c.args.key.now c.loop-instant.instant c.args.start (c.loop-instant.invariant m holds) c.loop-instant-test.false
