use Rattle.std.proofs.Common.{◌∙◌}
use Rattle.blocks.proofs.PackedNodeReads.{packed_is, is_packed}
use Rattle.blocks.proofs.packed_node.block_with.Goals as goal

pub invariant_of-result : goal.invariant_of-result
invariant_of-result c = is_packed c.in_ok-rect.rect c.args.bytes c.args.node.now (c.in_ok-rect.ensures.ok ∙ c.rect.ensures.rect) c.requires

pub returns-clause-ok : goal.returns-clause-ok
returns-clause-ok c = packed_is c.in_ok-rect.rect c.args.bytes c.args.node.now (c.in_ok-rect.ensures.ok ∙ c.rect.ensures.rect) c.requires
