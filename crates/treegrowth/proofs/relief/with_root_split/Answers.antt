use Rattle.std.proofs.Common.{◌<◌, subst}
use Rattle.treenodes.specs.Node.{TreeNode}
use Rattle.treenodes.specs.Tree.{IsTree}
use Rattle.treenodes.specs.Map.{HoldsMap}
use Rattle.treenodes.specs.Sound.{IsTreeOf}
use Rattle.treenodes.specs.History.{KeepsHistory}
use Rattle.treenodes.proofs.HistoryKept.{keeps_then}
use Rattle.treenodes.proofs.NodeNumbers.{one_at}
use Rattle.treenodes.proofs.ReplacementParents.{weaker}
use Rattle.treegrowth.specs.Growth.{IsIndexSplit}
use Rattle.treegrowth.specs.Leaves.{HaveSameLeaves}
use Rattle.treegrowth.specs.Places.{DoLeavesStay}
use Rattle.treegrowth.proofs.GrowthRaised.{from_three, parent_at, others_raised, leaves_raised, room_above, overfull_raised, all_stay, index_high, index_within, index_leaves, index_stay}
use Rattle.treegrowth.proofs.LeavesKept.{same_then}
use Rattle.treegrowth.proofs.relief.with_root_split.Goals as goal

pub with_index_split-requires-clause-parent : goal.with_index_split-requires-clause-parent
with_index_split-requires-clause-parent c =
    let nodes = c.args.nodes in
    let up = c.in_ok-nodes.nodes in
    let number = c.len-number.result in
    let numbered = c.len-number.ensures in
    let root = c.requires.tree.root.root in
    let first = c.requires.tree.root.first in
    let made = c.in_ok-nodes.ensures.raised root first in
    parent_at nodes up number numbered root first made c.in_ok-nodes.ensures.parent

pub with_index_split-requires-clause-grown : goal.with_index_split-requires-clause-grown
with_index_split-requires-clause-grown c =
    let nodes = c.args.nodes in
    let up = c.in_ok-nodes.nodes in
    let number = c.len-number.result in
    let numbered = c.len-number.ensures in
    let root = c.requires.tree.root.root in
    let first = c.requires.tree.root.first in
    let made = c.in_ok-nodes.ensures.raised root first in
    overfull_raised nodes up number numbered root first made c.requires.grown

pub returns-clause-kept : goal.returns-clause-kept
returns-clause-kept c = λ m holds.
    let nodes = c.args.nodes in
    let up = c.in_ok-nodes.nodes in
    let number = c.len-number.result in
    let numbered = c.len-number.ensures in
    let root = c.requires.tree.root.root in
    let first = c.requires.tree.root.first in
    let made = c.in_ok-nodes.ensures.raised root first in
    let parent = parent_at nodes up number numbered root first made c.in_ok-nodes.ensures.parent in
    let others = others_raised nodes up number numbered root first made c.requires.others in
    let room = room_above nodes up number numbered root first made parent in
    from_three c.with_index_split.result IsTree (λ s. HoldsMap s m) (λ s. IsIndexSplit up s 0 number) (λ s. IsTreeOf s m)
    (λ s tree held split. record { tree = tree; holds = held; small = index_within up s 0 number c.in_ok-nodes.ensures.tree parent split others room })
    c.with_index_split.ensures.tree (c.with_index_split.ensures.holds m (c.in_ok-nodes.ensures.holds m holds)) c.with_index_split.ensures.split

pub returns-clause-leaves : goal.returns-clause-leaves
returns-clause-leaves c =
    let nodes = c.args.nodes in
    let up = c.in_ok-nodes.nodes in
    let number = c.len-number.result in
    let numbered = c.len-number.ensures in
    let root = c.requires.tree.root.root in
    let first = c.requires.tree.root.first in
    let made = c.in_ok-nodes.ensures.raised root first in
    let parent = parent_at nodes up number numbered root first made c.in_ok-nodes.ensures.parent in
    let over = overfull_raised nodes up number numbered root first made c.requires.grown in
    weaker c.with_index_split.result (λ s. IsIndexSplit up s 0 number) (HaveSameLeaves nodes)
    (λ s split. same_then nodes up s (leaves_raised nodes up number numbered root first made) (index_leaves up s 0 number c.in_ok-nodes.ensures.tree parent split over))
    c.with_index_split.ensures.split

pub returns-clause-stay : goal.returns-clause-stay
returns-clause-stay c =
    let nodes = c.args.nodes in
    let up = c.in_ok-nodes.nodes in
    let number = c.len-number.result in
    let numbered = c.len-number.ensures in
    let root = c.requires.tree.root.root in
    let first = c.requires.tree.root.first in
    let made = c.in_ok-nodes.ensures.raised root first in
    let parent = parent_at nodes up number numbered root first made c.in_ok-nodes.ensures.parent in
    let over = overfull_raised nodes up number numbered root first made c.requires.grown in
    let g = c.requires.grown.grown in
    let high : 0 < root.level = subst (λ (q : TreeNode). 0 < q.level) (one_at nodes 0 g.node root g.there first) (index_high nodes g.node.level g.node.rect g.node.content g.is_index c.requires.grown.over (c.requires.tree.contents 0 g.node g.there)) in
    weaker c.with_index_split.result (λ s. IsIndexSplit up s 0 number) (DoLeavesStay nodes)
    (λ s split i n there bottom. index_stay up s 0 number c.in_ok-nodes.ensures.tree parent split over i n (all_stay nodes up number numbered root first made high i n there bottom) bottom)
    c.with_index_split.ensures.split

pub returns-clause-history : goal.returns-clause-history
returns-clause-history c =
    weaker c.with_index_split.result (KeepsHistory c.in_ok-nodes.nodes) (KeepsHistory c.args.nodes)
    (λ s kept. keeps_then c.args.nodes c.in_ok-nodes.nodes s c.in_ok-nodes.ensures.history kept) c.with_index_split.ensures.history
