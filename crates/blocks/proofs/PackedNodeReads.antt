-- A packed node is the one that its bytes are the block of.
use Rattle.std.proofs.Common.{◌≡◌, ◌↔◌, ℕ, List, Bool, IsTrue, sym, ap, subst, ◌∙◌}
use Rattle.keyrange.specs.Rect.{Area}
use Rattle.datanode.specs.Node.{Node}
use Rattle.blocks.specs.Block.{IsBlockOf}
use Rattle.blocks.specs.PackedNode.{Packed, events_taken, events_at, events_of_block, packed_of, IsPacked}
use Rattle.blocks.proofs.BlockReads.{block_reads, one_node}
use Rattle.blocks.proofs.LookupFinds.{count_of_block}

events_are : (bytes : List ℕ) (n : Node) → IsBlockOf bytes n → events_of_block bytes ≡ n.events
unfolding events_of_block
events_are bytes n b = ap events_at (count_of_block bytes n b) ∙ ap events_taken (block_reads bytes n b).events_are

pub packed_is : (r : Area) (bytes : List ℕ) (n : Node) → r ≡ n.rect → IsBlockOf bytes n → packed_of r bytes ≡ record { node = n; bytes = bytes }
packed_is r bytes n rect b =
    ap (λ q. packed_of q bytes) rect
    ∙ ap (λ es. record { node = record { rect = n.rect; events = es }; bytes = bytes }) (events_are bytes n b)

pub is_packed : (r : Area) (bytes : List ℕ) (n : Node) → r ≡ n.rect → IsBlockOf bytes n → IsPacked (packed_of r bytes)
is_packed r bytes n rect b = subst IsPacked (sym (packed_is r bytes n rect b)) b

-- ---- equal bytes, equal nodes

of_same_bytes : (p q : Packed) → IsPacked p → IsPacked q → p.bytes ≡ q.bytes → p ≡ q
of_same_bytes p q a b same =
    ap (λ n. record { node = n; bytes = p.bytes }) (one_node p.bytes p.node q.node a (subst (λ l. IsBlockOf l q.node) (sym same) b))
    ∙ ap (λ l. record { node = q.node; bytes = l }) same

-- what a test of the bytes tells
module _ (p q : Packed) (a : IsPacked p) (b : IsPacked q) (test : Bool) (tells : IsTrue test ↔ (p.bytes ≡ q.bytes)) where
  pub tells_same : IsTrue test ↔ (p ≡ q)
  tells_same = (λ h. of_same_bytes p q a b (tells.0 h), λ same. tells.1 (ap (λ (x : Packed). x.bytes) same))
