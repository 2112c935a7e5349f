use Rattle.std.proofs.Common.{◌≡◌, ◌-◌, length, get_or, sym, ap, subst, ◌∙◌}
use Rattle.std.proofs.lemmas.List.{get_or_default}
use Rattle.treenodes.specs.Node.{TreeNode, IsAt, data_node}
use Rattle.treenodes.specs.Map.{HoldsMap, changes}
use Rattle.treenodes.specs.Sound.{IsSound, IsTreeOf}
use Rattle.treenodes.specs.History.{KeepsHistory}
use Rattle.treenodes.proofs.NodeNumbers.{one_at}
use Rattle.treenodes.proofs.ReplacementParents.{weaker}
use Rattle.treegrowth.specs.Growth.{IsSplittable}
use Rattle.treegrowth.specs.Leaves.{IsLeafSplit}
use Rattle.treegrowth.specs.Point.{halves_at}
use Rattle.treegrowth.proofs.CommitDue.{read_at, sound_after}
use Rattle.treegrowth.proofs.SplitSteps.{splittable, can_leaf, can_current}
use Rattle.treegrowth.proofs.split.with_split.Goals as goal

pub current_at-node-requires-clause-data : goal.current_at-node-requires-clause-data
current_at-node-requires-clause-data c = can_leaf c.args.nodes.now (get_or c.args.way.now (length c.args.way.now - 1) 0) c.args.point.now (c.requires.can 0)

pub current_at-node-requires-clause-current : goal.current_at-node-requires-clause-current
current_at-node-requires-clause-current c = can_current c.args.nodes.now (get_or c.args.way.now (length c.args.way.now - 1) 0) c.args.point.now (c.requires.can 0)

pub with_leaf_split-requires-clause-splittable : goal.with_leaf_split-requires-clause-splittable
with_leaf_split-requires-clause-splittable c = λ d.
    let nodes = c.args.nodes.now in
    let way = c.args.way.now in
    let depth = length way - 1 in
    let number = get_or way depth 0 in
    let point = c.args.point.now in
    let shared = c.in_ok-share.field-0 in
    let same = c.in_ok-share.ensures.ok in
    let kept = c.requires.sound.kept in
    subst (λ i. IsSplittable shared i point) (get_or_default way depth 0 d c.requires.way.within)
    (subst (λ s. IsSplittable s number point) (sym same) (splittable nodes number c.current_at-node.result.now c.current_at-node.ensures kept.small point (c.requires.can 0)))

pub returns-clause-sound : goal.returns-clause-sound
returns-clause-sound c =
    let nodes = c.args.nodes.now in
    let way = c.args.way.now in
    let depth = length way - 1 in
    let number = get_or way depth 0 in
    let point = c.args.point.now in
    let shared = c.in_ok-share.field-0 in
    let same = c.in_ok-share.ensures.ok in
    let kept = c.requires.sound.kept in
    let m = changes nodes in
    weaker c.with_leaf_split.result (λ s. IsTreeOf s m) (λ s. IsSound s c.args.last) (λ s after. sound_after s m c.args.last after c.requires.sound.last_is)
    (c.with_leaf_split.ensures.kept m (subst (λ s. HoldsMap s m) (sym same) kept.holds) c.requires.reached)

pub returns-clause-same : goal.returns-clause-same
returns-clause-same c =
    let nodes = c.args.nodes.now in
    let way = c.args.way.now in
    let depth = length way - 1 in
    let number = get_or way depth 0 in
    let point = c.args.point.now in
    let shared = c.in_ok-share.field-0 in
    let same = c.in_ok-share.ensures.ok in
    let kept = c.requires.sound.kept in
    let m = changes nodes in
    weaker c.with_leaf_split.result (λ s. IsTreeOf s m) (λ s. changes s ≡ m) (λ s after. read_at s m after)
    (c.with_leaf_split.ensures.kept m (subst (λ s. HoldsMap s m) (sym same) kept.holds) c.requires.reached)

pub returns-clause-leaves : goal.returns-clause-leaves
returns-clause-leaves c = λ d n h at made.
    let nodes = c.args.nodes.now in
    let way = c.args.way.now in
    let depth = length way - 1 in
    let number = get_or way depth 0 in
    let point = c.args.point.now in
    let shared = c.in_ok-share.field-0 in
    let same = c.in_ok-share.ensures.ok in
    let kept = c.requires.sound.kept in
    let node = c.current_at-node.result.now in
    let here : IsAt nodes number n = subst (λ i. IsAt nodes i n) (get_or_default way depth d 0 c.requires.way.within) at in
    let is : data_node node ≡ n = one_at nodes number (data_node node) n c.current_at-node.ensures here in
    let there : IsAt shared number (data_node node) = subst (λ s. IsAt s number (data_node node)) (sym same) c.current_at-node.ensures in
    let rects = ap (λ (n : TreeNode). n.rect) is in
    weaker c.with_leaf_split.result (λ s. IsLeafSplit shared s node.rect h) (λ s. IsLeafSplit nodes s n.rect h)
    (λ s split. subst (λ a. IsLeafSplit a s n.rect h) same (subst (λ r. IsLeafSplit shared s r h) rects split))
    (c.with_leaf_split.ensures.leaves 0 node h there (ap (λ r. halves_at r point) rects ∙ made))

pub returns-clause-history : goal.returns-clause-history
returns-clause-history c =
    weaker c.with_leaf_split.result (KeepsHistory c.in_ok-share.field-0) (KeepsHistory c.args.nodes.now)
    (λ s kept. subst (λ a. KeepsHistory a s) c.in_ok-share.ensures.ok kept) c.with_leaf_split.ensures.history
