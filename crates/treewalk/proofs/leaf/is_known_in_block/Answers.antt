use Rattle.std.proofs.Common.{ap, ◌∙◌}
use Rattle.treewalk.specs.Leaf.{is_upto}
use Rattle.treewalk.proofs.LeafKnown.{known_upto}
use Rattle.treewalk.proofs.leaf.is_known_in_block.Goals as goal

pub returns : goal.returns
returns c =
    let block = c.bytes-bytes.ensures.block in
    c.is_upto.ensures ∙ ap (λ o. is_upto o c.args.instant) c.next_change.ensures
    ∙ known_upto c.args.block.now.node.events block.held.node.ordered block.has_block.instants c.args.key.now c.args.instant
