use Rattle.std.proofs.Common.{arith}
use Rattle.std.proofs.lemmas.Option.{slice_get_within}
use Rattle.treenodes.specs.Node.{data_node}
use Rattle.treenodes.specs.Tree.{IsTree}
use Rattle.treenodes.specs.Map.{HoldsMap}
use Rattle.treenodes.specs.Sound.{IsTreeOf}
use Rattle.treenodes.specs.Split.{Halved}
use Rattle.treenodes.specs.History.{KeepsHistory}
use Rattle.treenodes.proofs.HistoryKept.{keeps_then}
use Rattle.treenodes.proofs.ReplacementParents.{weaker}
use Rattle.treegrowth.specs.Leaves.{IsLeafSplit}
use Rattle.treegrowth.specs.Places.{DoOtherLeavesStay}
use Rattle.treegrowth.proofs.GrowthRaised.{from_three, at_root, parent_at, others_raised, leaves_raised, rest_stays, room_above}
use Rattle.treegrowth.proofs.LeafHalves.{can_there, splittable_there, same_node, there_too, areas, are, first as lower, second as upper, leaf_within, leaf_leaves}
use Rattle.treegrowth.proofs.LeavesKept.{then_split, others_stay}
use Rattle.treegrowth.proofs.leaf.with_root_split.Goals as goal

pub with_halves_at-requires-clause-parent : goal.with_halves_at-requires-clause-parent
with_halves_at-requires-clause-parent c =
    let nodes = c.args.nodes in
    let up = c.in_ok-nodes.nodes in
    let number = c.len-number.result in
    let numbered = c.len-number.ensures in
    let root = data_node c.requires.splittable.node in
    let first = c.requires.splittable.there in
    let made = c.in_ok-nodes.ensures.raised root first in
    parent_at nodes up number numbered root first made c.in_ok-nodes.ensures.parent

pub with_halves_at-requires-clause-can : goal.with_halves_at-requires-clause-can
with_halves_at-requires-clause-can c =
    let nodes = c.args.nodes in
    let up = c.in_ok-nodes.nodes in
    let number = c.len-number.result in
    let numbered = c.len-number.ensures in
    let root = data_node c.requires.splittable.node in
    let first = c.requires.splittable.there in
    let made = c.in_ok-nodes.ensures.raised root first in
    can_there nodes up 0 number root first (at_root nodes up number numbered root first made) c.args.point.now c.requires.splittable.can

pub returns-clause-kept : goal.returns-clause-kept
returns-clause-kept c = λ m holds reached.
    let nodes = c.args.nodes in
    let up = c.in_ok-nodes.nodes in
    let number = c.len-number.result in
    let numbered = c.len-number.ensures in
    let root = data_node c.requires.splittable.node in
    let first = c.requires.splittable.there in
    let made = c.in_ok-nodes.ensures.raised root first in
    let there = at_root nodes up number numbered root first made in
    let parent = parent_at nodes up number numbered root first made c.in_ok-nodes.ensures.parent in
    let others = others_raised nodes up number numbered root first made c.requires.splittable.others in
    let room = room_above nodes up number numbered root first made parent in
    let below = splittable_there nodes up 0 number c.args.point.now c.requires.splittable there others in
    let halved = c.with_halves_at.ensures.halved below.node (areas up number c.args.point.now below) there (are up number c.args.point.now below) in
    from_three c.with_halves_at.result IsTree (λ s. HoldsMap s m) (λ s. Halved up s 0 number (lower up number c.args.point.now below) (upper up number c.args.point.now below)) (λ s. IsTreeOf s m)
    (λ s tree held split. record { tree = tree; holds = held; small = leaf_within up number c.args.point.now below s 0 c.in_ok-nodes.ensures.tree parent split room })
    c.with_halves_at.ensures.tree (c.with_halves_at.ensures.holds m (c.in_ok-nodes.ensures.holds m holds) reached) halved

pub returns-clause-leaves : goal.returns-clause-leaves
returns-clause-leaves c = λ n h at made_h.
    let nodes = c.args.nodes in
    let up = c.in_ok-nodes.nodes in
    let number = c.len-number.result in
    let numbered = c.len-number.ensures in
    let root = data_node c.requires.splittable.node in
    let first = c.requires.splittable.there in
    let made = c.in_ok-nodes.ensures.raised root first in
    let there = at_root nodes up number numbered root first made in
    let parent = parent_at nodes up number numbered root first made c.in_ok-nodes.ensures.parent in
    let others = others_raised nodes up number numbered root first made c.requires.splittable.others in
    let room = room_above nodes up number numbered root first made parent in
    let below = splittable_there nodes up 0 number c.args.point.now c.requires.splittable there others in
    let halved = c.with_halves_at.ensures.halved below.node (areas up number c.args.point.now below) there (are up number c.args.point.now below) in
    let same = same_node nodes 0 c.requires.splittable.node n first at in
    weaker c.with_halves_at.result (λ s. Halved up s 0 number (lower up number c.args.point.now below) (upper up number c.args.point.now below)) (λ s. IsLeafSplit nodes s n.rect h)
    (λ s split. then_split nodes up s n.rect h (leaves_raised nodes up number numbered root first made) (leaf_leaves up number c.args.point.now below s 0 c.in_ok-nodes.ensures.tree parent split n h (there_too up number c.requires.splittable.node n same there) made_h))
    halved

pub returns-clause-history : goal.returns-clause-history
returns-clause-history c =
    weaker c.with_halves_at.result (KeepsHistory c.in_ok-nodes.nodes) (KeepsHistory c.args.nodes)
    (λ s kept. keeps_then c.args.nodes c.in_ok-nodes.nodes s c.in_ok-nodes.ensures.history kept) c.with_halves_at.ensures.history

pub returns-clause-others : goal.returns-clause-others
returns-clause-others c =
    let nodes = c.args.nodes in
    let up = c.in_ok-nodes.nodes in
    let number = c.len-number.result in
    let numbered = c.len-number.ensures in
    let root = data_node c.requires.splittable.node in
    let first = c.requires.splittable.there in
    let made = c.in_ok-nodes.ensures.raised root first in
    let there = at_root nodes up number numbered root first made in
    let parent = parent_at nodes up number numbered root first made c.in_ok-nodes.ensures.parent in
    let others = others_raised nodes up number numbered root first made c.requires.splittable.others in
    let below = splittable_there nodes up 0 number c.args.point.now c.requires.splittable there others in
    let halved = c.with_halves_at.ensures.halved below.node (areas up number c.args.point.now below) there (are up number c.args.point.now below) in
    weaker c.with_halves_at.result (λ s. Halved up s 0 number (lower up number c.args.point.now below) (upper up number c.args.point.now below)) (DoOtherLeavesStay 0 nodes)
    (λ s split i n other at bottom. others_stay up s 0 number (lower up number c.args.point.now below) (upper up number c.args.point.now below) split c.in_ok-nodes.ensures.tree parent i n
    (λ same. let lt = slice_get_within nodes i n at in omega (arith, lt, same, numbered)) (rest_stays nodes up number numbered root first made i n other at bottom) bottom)
    halved
