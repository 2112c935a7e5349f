use Rattle.std.proofs.Common.{◌≡◌, ◌-◌, ◌<◌, get_or, sym, subst, arith}
use Rattle.std.proofs.lemmas.List.{get_or_default}
use Rattle.treenodes.specs.History.{KeepsHistory}
use Rattle.treenodes.proofs.HistoryKept.{keeps_then}
use Rattle.treenodes.proofs.ReplacementParents.{weaker}
use Rattle.treegrowth.specs.Growth.{AreOthersSmall, IsGrownIndex, IsOverfull}
use Rattle.treegrowth.specs.Leaves.{HaveSameLeaves}
use Rattle.treegrowth.specs.Places.{DoLeavesStay}
use Rattle.treegrowth.proofs.GrowthHalved.{positive, grown_parent, way_kept, parent_on_way}
use Rattle.treegrowth.proofs.GrowthRaised.{index_others, index_leaves, index_stay}
use Rattle.treegrowth.proofs.ReliefSplit.{overfull_at}
use Rattle.treegrowth.proofs.LeavesKept.{same_then}
use Rattle.treegrowth.proofs.relief.+relieve.Goals as goal

pub with_root_split-requires-clause-grown : goal.with_root_split-requires-clause-grown
with_root_split-requires-clause-grown t c =
    let number = get_or c.args.way.now c.args.depth 0 in
    let here : number ≡ 0 = subst (λ i. get_or c.args.way.now i 0 ≡ 0) (sym c.if-depth-eq0.true) (c.requires.way.from_root 0) in
    subst (IsOverfull c.args.nodes) here (overfull_at c.args.nodes number (c.requires.grown 0) c.at.result.now c.at.result.now.level c.index.result.now c.references.result.now c.at.ensures c.index.ensures c.references.ensures c.if-references-le-CAPACITY.false)

pub with_index_split-requires-clause-grown : goal.with_index_split-requires-clause-grown
with_index_split-requires-clause-grown t c =
    overfull_at c.args.nodes (get_or c.args.way.now c.args.depth 0) (c.requires.grown 0) c.at.result.now c.at.result.now.level c.index.result.now c.references.result.now c.at.ensures c.index.ensures c.references.ensures c.if-references-le-CAPACITY.false

pub relieve-requires : goal.relieve-requires
relieve-requires t c =
    let nodes = c.args.nodes in
    let next = c.in_ok-nodes.nodes in
    let way = c.args.way.now in
    let some : 0 < c.args.depth = positive c.args.depth c.if-depth-eq0.false in
    let parent = get_or way (c.args.depth - 1) 0 in
    let number = get_or way c.args.depth 0 in
    let above = parent_on_way nodes next way c.args.depth c.requires.tree c.requires.way some 0 in
    let split = c.in_ok-nodes.ensures.split in
    let down = way_kept nodes next way c.args.depth c.requires.tree c.requires.way some 0 split.first split.second split.halved in
    let g = c.requires.grown 0 in
    let others = index_others nodes next parent number c.requires.tree above split (c.requires.others 0) in
    let grown = grown_parent nodes next parent number split.first split.second split.halved c.requires.tree above (c.requires.others 0) g.node g.there g.grown.current in (
      omega (arith, c.decreases, some),
      (
        c.in_ok-nodes.ensures.tree,
        (
          down,
          (
            (λ d. subst (AreOthersSmall next) (get_or_default way (c.args.depth - 1) 0 d down.within) others),
            (λ d. subst (IsGrownIndex next) (get_or_default way (c.args.depth - 1) 0 d down.within) grown),
          ),
        ),
      ),
    )

pub returns-clause-leaves : goal.returns-clause-leaves
returns-clause-leaves t c =
    let nodes = c.args.nodes in
    let next = c.in_ok-nodes.nodes in
    let way = c.args.way.now in
    let some : 0 < c.args.depth = positive c.args.depth c.if-depth-eq0.false in
    let parent = get_or way (c.args.depth - 1) 0 in
    let number = get_or way c.args.depth 0 in
    let above = parent_on_way nodes next way c.args.depth c.requires.tree c.requires.way some 0 in
    let over = overfull_at nodes number (c.requires.grown 0) c.at.result.now c.at.result.now.level c.index.result.now c.references.result.now c.at.ensures c.index.ensures c.references.ensures c.if-references-le-CAPACITY.false in
    weaker c.relieve.result (HaveSameLeaves next) (HaveSameLeaves nodes)
    (λ s same. same_then nodes next s (index_leaves nodes next parent number c.requires.tree above c.in_ok-nodes.ensures.split over) same)
    c.relieve.ensures.leaves

pub returns-clause-stay : goal.returns-clause-stay
returns-clause-stay t c =
    let nodes = c.args.nodes in
    let next = c.in_ok-nodes.nodes in
    let way = c.args.way.now in
    let some : 0 < c.args.depth = positive c.args.depth c.if-depth-eq0.false in
    let parent = get_or way (c.args.depth - 1) 0 in
    let number = get_or way c.args.depth 0 in
    let above = parent_on_way nodes next way c.args.depth c.requires.tree c.requires.way some 0 in
    let over = overfull_at nodes number (c.requires.grown 0) c.at.result.now c.at.result.now.level c.index.result.now c.references.result.now c.at.ensures c.index.ensures c.references.ensures c.if-references-le-CAPACITY.false in
    weaker c.relieve.result (DoLeavesStay next) (DoLeavesStay nodes)
    (λ s stay i n there bottom. stay i n (index_stay nodes next parent number c.requires.tree above c.in_ok-nodes.ensures.split over i n there bottom) bottom)
    c.relieve.ensures.stay

pub returns-clause-history : goal.returns-clause-history
returns-clause-history t c =
    weaker c.relieve.result (KeepsHistory c.in_ok-nodes.nodes) (KeepsHistory c.args.nodes)
    (λ s kept. keeps_then c.args.nodes c.in_ok-nodes.nodes s c.in_ok-nodes.ensures.history kept) c.relieve.ensures.history
