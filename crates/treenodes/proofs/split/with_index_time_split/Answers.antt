use Rattle.std.proofs.Common.{refl, inr, subst}
use Rattle.std.specs.List.{filter}
use Rattle.std.proofs.lemmas.Option.{slice_get_within}
use Rattle.keyrange.specs.Rect.{Area}
use Rattle.keyrange.specs.Cut.{halves_by_time}
use Rattle.indexnode.specs.Split.{starts_before, ends_after}
use Rattle.treenodes.specs.declared.node.Child.TheVariants.{Index}
use Rattle.treenodes.specs.Node.{TreeNode, IsIndexNode, seen}
use Rattle.treenodes.specs.Split.{Halved, part_of}
use Rattle.treenodes.proofs.NodeNumbers.{one_at}
use Rattle.treenodes.proofs.ReplacementParents.{weaker}
use Rattle.treenodes.proofs.SplitData.{alike}
use Rattle.treenodes.proofs.SplitIndex.{index_of, time_in, split_index, are_parts, no_cuts}
use Rattle.treenodes.proofs.split.with_index_time_split.Goals as goal

pub at-requires : goal.at-requires
at-requires c = slice_get_within c.args.nodes c.args.number c.requires.can.node c.requires.can.there

pub index-requires : goal.index-requires
index-requires c = subst (λ (n : TreeNode). IsIndexNode n.content) (one_at c.args.nodes c.args.number c.requires.can.node c.at.result.now c.requires.can.there c.at.ensures) c.requires.can.is_index

pub split_time-requires-clause-inside : goal.split_time-requires-clause-inside
split_time-requires-clause-inside c = (time_in c.args.nodes c.requires.tree c.args.number c.at.result.now c.at.ensures c.index.result.now c.index.ensures c.args.instant c.requires.can).inside

pub split_time-requires-clause-before_current : goal.split_time-requires-clause-before_current
split_time-requires-clause-before_current c = (time_in c.args.nodes c.requires.tree c.args.number c.at.result.now c.at.ensures c.index.result.now c.index.ensures c.args.instant c.requires.can).before

pub with_halves-requires-clause-split : goal.with_halves-requires-clause-split
with_halves-requires-clause-split c =
    let index = index_of c.args.nodes c.requires.tree c.args.number c.at.result.now c.at.ensures c.index.result.now c.index.ensures in
    let can = time_in c.args.nodes c.requires.tree c.args.number c.at.result.now c.at.ensures c.index.result.now c.index.ensures c.args.instant c.requires.can in
    split_index c.args.nodes c.requires.tree c.args.number c.at.result.now c.at.ensures c.index.result.now c.index.ensures c.in_ok-past.past c.in_ok-past.now (starts_before c.args.instant) (ends_after c.args.instant) can.current (inr (c.args.instant, c.in_ok-past.ensures.parts))
    c.in_ok-past.ensures.past c.in_ok-past.ensures.now (c.in_ok-past.ensures.tiled index.tiled) (c.in_ok-past.ensures.meet index.meet) (c.in_ok-past.ensures.current index.inside)

pub returns-clause-holds : goal.returns-clause-holds
returns-clause-holds c = λ m holds.
    c.with_halves.ensures.holds m c.at.result.now holds c.at.ensures (no_cuts m c.at.result.now.level c.in_ok-past.past c.in_ok-past.now)

pub returns-clause-halved : goal.returns-clause-halved
returns-clause-halved c = λ n h at made.
    let top = c.at.result.now in
    let parts = are_parts c.args.nodes c.requires.tree c.args.number top c.at.ensures c.index.result.now c.index.ensures c.in_ok-past.past c.in_ok-past.now (λ (r : Area). halves_by_time r c.args.instant) c.in_ok-past.ensures.rects (starts_before c.args.instant) (ends_after c.args.instant) c.in_ok-past.ensures.past c.in_ok-past.ensures.now n h at made in
    weaker c.with_halves.result
    (λ s. Halved c.args.nodes s c.args.parent c.args.number (seen top.level (Index c.in_ok-past.past)) (seen top.level (Index c.in_ok-past.now)))
    (λ s. Halved c.args.nodes s c.args.parent c.args.number (part_of n h.0 (filter (λ r. starts_before c.args.instant r.rect))) (part_of n h.1 (filter (λ r. ends_after c.args.instant r.rect))))
    (λ s made. alike c.args.nodes s c.args.parent c.args.number _ _ _ _ parts.0 parts.1 made)
    (c.with_halves.ensures.halved top c.at.ensures)

pub returns-clause-history : goal.returns-clause-history
returns-clause-history c = c.with_halves.ensures.history refl refl
