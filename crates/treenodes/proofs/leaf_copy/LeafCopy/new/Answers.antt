use Rattle.std.proofs.Common.{subst}
use Rattle.treenodes.proofs.NodeNumbers.{one_at}
use Rattle.treenodes.proofs.LeafCopyPast.{IsCurrent, is_current}
use Rattle.treenodes.proofs.leaf_copy.LeafCopy.new.Goals as goal

pub current-requires-clause-current : goal.current-requires-clause-current
current-requires-clause-current c =
    let leaf = c.leaf_at-number.ensures.leaf in
    let n = leaf.leaf.node in
    subst IsCurrent (one_at c.args.nodes.now c.leaf_at-number.result.0 n c.at.result.now leaf.leaf.there c.at.ensures)
    (is_current n.rect c.args.key.now (c.requires.areas c.leaf_at-number.result.0 n leaf.leaf.there) leaf.holds)
