use Rattle.std.proofs.Common.{refl, ◌≡◌, None, inl, subst, ◌∙◌}
use Rattle.keyrange.specs.Rect.{Area}
use Rattle.keyrange.specs.Cut.{halves_by_key}
use Rattle.treenodes.specs.Node.{TreeNode, data_node}
use Rattle.treenodes.specs.Map.{latest}
use Rattle.treenodes.specs.Split.{Halved, part}
use Rattle.treenodes.proofs.NodeNumbers.{one_at}
use Rattle.treenodes.proofs.LookupNodes.{cut_of}
use Rattle.treenodes.proofs.ReplacementParents.{weaker}
use Rattle.treenodes.proofs.SplitData.{split_data, key_in, halves_hold, are_parts, alike, no_end, ends_by_key}
use Rattle.treenodes.proofs.split.with_keys_split.Goals as goal

pub current_at-requires-clause-data : goal.current_at-requires-clause-data
current_at-requires-clause-data c = c.requires.can.leaf

pub current_at-requires-clause-current : goal.current_at-requires-clause-current
current_at-requires-clause-current c = λ n at. subst (λ (q : TreeNode). q.rect.time.to ≡ None) (one_at c.args.nodes c.args.number c.requires.can.leaf.node n c.requires.can.leaf.there at) c.requires.can.current

pub split_key-requires : goal.split_key-requires
split_key-requires c = (key_in c.args.nodes c.args.number c.current_at.result.now c.current_at.result.now c.current_at.result.now c.current_at.ensures c.args.key.now c.requires.can).1

pub with_halves-requires-clause-split : goal.with_halves-requires-clause-split
with_halves-requires-clause-split c =
    let node = c.current_at.result.now in
    split_data c.args.nodes c.args.number node c.in_ok-below.below c.in_ok-below.above c.current_at.ensures (key_in c.args.nodes c.args.number node node node c.current_at.ensures c.args.key.now c.requires.can).0 (inl (c.args.key.now, c.in_ok-below.ensures.parts))

pub returns-clause-holds : goal.returns-clause-holds
returns-clause-holds c = λ m holds.
    let node = c.current_at.result.now in
    let current = (key_in c.args.nodes c.args.number node node node c.current_at.ensures c.args.key.now c.requires.can).0 in
    let ends = ends_by_key node.rect c.in_ok-below.below.rect c.in_ok-below.above.rect c.args.key.now c.in_ok-below.ensures.rects in
    let cuts = c.in_ok-below.ensures.of_map m (cut_of c.args.nodes m holds c.args.number node c.current_at.ensures) in
    c.with_halves.ensures.holds m (data_node node) holds c.current_at.ensures
    (halves_hold c.args.nodes c.args.number node c.in_ok-below.below c.in_ok-below.above c.current_at.ensures m cuts.0 cuts.1 (no_end c.in_ok-below.below.events (latest m) c.in_ok-below.below.rect.time.to (ends.0 ∙ current)) (no_end c.in_ok-below.above.events (latest m) c.in_ok-below.above.rect.time.to (ends.1 ∙ current)))

pub returns-clause-halved : goal.returns-clause-halved
returns-clause-halved c = λ n h at made.
    let node = c.current_at.result.now in
    let parts = are_parts c.args.nodes c.args.number node c.in_ok-below.below c.in_ok-below.above c.current_at.ensures (λ (r : Area). halves_by_key r c.args.key.now) c.in_ok-below.ensures.rects c.in_ok-below.ensures.below c.in_ok-below.ensures.above n h at made in
    weaker c.with_halves.result
    (λ s. Halved c.args.nodes s c.args.parent c.args.number (data_node c.in_ok-below.below) (data_node c.in_ok-below.above)) (λ s. Halved c.args.nodes s c.args.parent c.args.number (part n h.0) (part n h.1))
    (λ s made. alike c.args.nodes s c.args.parent c.args.number _ _ _ _ parts.0 parts.1 made)
    (c.with_halves.ensures.halved (data_node node) c.current_at.ensures)

pub returns-clause-history : goal.returns-clause-history
returns-clause-history c = c.with_halves.ensures.history refl refl
