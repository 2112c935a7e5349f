use Rattle.std.proofs.Common.{◌≡◌, ◌↔◌, IsTrue, subst, ◌∙◌}
use Rattle.std.specs.Cmp.Lexicographic.{pointwise}
use Rattle.std.proofs.Math.Dec.{eqb}
use Rattle.std.proofs.lemmas.Bool.Decides.{Decides-eqb}
use Rattle.std.proofs.lemmas.Slice.Eq.{slice_eq-Decides}
use Rattle.blocks.specs.PackedNode.{Packed, packed_of}
use Rattle.blocks.proofs.PackedNodeReads.{tells_same}
use Rattle.blocks.proofs.packed_node.Block.is_same.Goals as goal

tells : (c : goal.After-eq) → IsTrue c.eq.result ↔ (c.self.inside.bytes ≡ c.other.inside.bytes)
tells c =
    slice_eq-Decides Decides-eqb c.self.inside.bytes c.other.inside.bytes c.eq.result
    (c.eq.ensures ∙ (λ i. pointwise eqb (c.as_slice.ensures i) (c.as_slice-2.ensures i)))

pub returns : goal.returns
returns c =
    let p = packed_of c.self.inside.rect c.self.inside.bytes in
    let q = packed_of c.other.inside.rect c.other.inside.bytes in
    subst (λ (x : Packed). IsTrue c.eq.result ↔ (x ≡ c.args.other.now)) c.self.view_is
    (subst (λ (y : Packed). IsTrue c.eq.result ↔ (p ≡ y)) c.other.view_is (tells_same p q c.self.invariant c.other.invariant c.eq.result (tells c)))
