use Rattle.std.proofs.Common.{refl, inl, subst}
use Rattle.std.specs.List.{filter}
use Rattle.std.proofs.lemmas.Option.{slice_get_within}
use Rattle.keyrange.specs.Rect.{Area}
use Rattle.keyrange.specs.Cut.{halves_by_key}
use Rattle.indexnode.specs.Split.{reaches_below, reaches_up}
use Rattle.treenodes.specs.declared.node.Child.TheVariants.{Index}
use Rattle.treenodes.specs.Node.{TreeNode, IsIndexNode, seen}
use Rattle.treenodes.specs.Split.{Halved, part_of}
use Rattle.treenodes.proofs.NodeNumbers.{one_at}
use Rattle.treenodes.proofs.ReplacementParents.{weaker}
use Rattle.treenodes.proofs.SplitData.{alike}
use Rattle.treenodes.proofs.SplitIndex.{index_of, key_in, split_index, are_parts, no_cuts}
use Rattle.treenodes.proofs.split.with_index_keys_split.Goals as goal

pub at-requires : goal.at-requires
at-requires c = slice_get_within c.args.nodes c.args.number c.requires.can.node c.requires.can.there

pub index-requires : goal.index-requires
index-requires c = subst (λ (n : TreeNode). IsIndexNode n.content) (one_at c.args.nodes c.args.number c.requires.can.node c.at.result.now c.requires.can.there c.at.ensures) c.requires.can.is_index

pub split_key-requires-clause-inside : goal.split_key-requires-clause-inside
split_key-requires-clause-inside c = (key_in c.args.nodes c.requires.tree c.args.number c.at.result.now c.at.ensures c.index.result.now c.index.ensures c.args.key.now c.requires.can).inside

pub split_key-requires-clause-uncrossed : goal.split_key-requires-clause-uncrossed
split_key-requires-clause-uncrossed c = (key_in c.args.nodes c.requires.tree c.args.number c.at.result.now c.at.ensures c.index.result.now c.index.ensures c.args.key.now c.requires.can).uncrossed

pub with_halves-requires-clause-split : goal.with_halves-requires-clause-split
with_halves-requires-clause-split c =
    let index = index_of c.args.nodes c.requires.tree c.args.number c.at.result.now c.at.ensures c.index.result.now c.index.ensures in
    let can = key_in c.args.nodes c.requires.tree c.args.number c.at.result.now c.at.ensures c.index.result.now c.index.ensures c.args.key.now c.requires.can in
    split_index c.args.nodes c.requires.tree c.args.number c.at.result.now c.at.ensures c.index.result.now c.index.ensures c.in_ok-below.below c.in_ok-below.above (reaches_below c.args.key.now) (reaches_up c.args.key.now) can.current (inl (c.args.key.now, c.in_ok-below.ensures.parts))
    c.in_ok-below.ensures.below c.in_ok-below.ensures.above (c.in_ok-below.ensures.tiled index.tiled) (c.in_ok-below.ensures.meet index.meet) (c.in_ok-below.ensures.current index.inside)

pub returns-clause-holds : goal.returns-clause-holds
returns-clause-holds c = λ m holds.
    c.with_halves.ensures.holds m c.at.result.now holds c.at.ensures (no_cuts m c.at.result.now.level c.in_ok-below.below c.in_ok-below.above)

pub returns-clause-halved : goal.returns-clause-halved
returns-clause-halved c = λ n h at made.
    let top = c.at.result.now in
    let parts = are_parts c.args.nodes c.requires.tree c.args.number top c.at.ensures c.index.result.now c.index.ensures c.in_ok-below.below c.in_ok-below.above (λ (r : Area). halves_by_key r c.args.key.now) c.in_ok-below.ensures.rects (reaches_below c.args.key.now) (reaches_up c.args.key.now) c.in_ok-below.ensures.below c.in_ok-below.ensures.above n h at made in
    weaker c.with_halves.result
    (λ s. Halved c.args.nodes s c.args.parent c.args.number (seen top.level (Index c.in_ok-below.below)) (seen top.level (Index c.in_ok-below.above)))
    (λ s. Halved c.args.nodes s c.args.parent c.args.number (part_of n h.0 (filter (λ r. reaches_below c.args.key.now r.rect))) (part_of n h.1 (filter (λ r. reaches_up c.args.key.now r.rect))))
    (λ s made. alike c.args.nodes s c.args.parent c.args.number _ _ _ _ parts.0 parts.1 made)
    (c.with_halves.ensures.halved top c.at.ensures)

pub returns-clause-history : goal.returns-clause-history
returns-clause-history c = c.with_halves.ensures.history refl refl
