use Rattle.std.proofs.Common.{sym, subst, ◌∙◌}
use Rattle.blocks.specs.Block.{IsBlockOf}
use Rattle.blocks.specs.PackedNode.{packed_of}
use Rattle.blocks.proofs.packed_node.Block.unpack.Goals as goal

-- the bytes are the block of a node, which is then found
pub unreachable-requires : goal.unreachable-requires
unreachable-requires c =
    let p = packed_of c.self.inside.rect c.self.inside.bytes in
    let block : IsBlockOf c.as_slice.result.now p.node = subst (λ l. IsBlockOf l p.node) (sym c.as_slice.ensures) c.self.invariant in
    let found = sym c.in-None.is ∙ c.in_ok-node.ensures.of_block p.node block in
    cc
