-- What blocks amount to.
use Rattle.std.specs.Prelude.{◌≡◌, ℕ, List, [], ◌∷◌, ◌++◌, Some, None, take, pos, codes}
use Rattle.values.specs.declared.value.Value.TheVariants.{Int, Text}
use Rattle.datanode.specs.Node.{Node}
use Rattle.blocks.specs.Start.{greatest_width, start_field}
use Rattle.blocks.specs.Block.{HasBlock, IsHeldNode, IsBlockOf, body_field, block_of, first_block_of}

-- no bytes are the block of two nodes
abbrev pub OneNode : Type 0
OneNode = (bytes : List ℕ) (m n : Node) → IsBlockOf bytes m → IsBlockOf bytes n → m ≡ n

-- no node has two blocks of one mark
abbrev pub OneBlock : Type 0
OneBlock =
    (a b : List ℕ) (n : Node) → IsBlockOf a n → IsBlockOf b n → take 4 a ≡ take 4 b → a ≡ b

-- and a node that has blocks has one of each form
abbrev pub BothForms : Type 0
BothForms =
    (n : Node) → IsHeldNode n → HasBlock n
    → IsBlockOf (block_of n) n × IsBlockOf (first_block_of n) n

-- a node's body behind a width that is not the greatest of its rows is no node's block
abbrev pub OnlyGreatest : Type 0
OnlyGreatest =
    (m n : Node) (width : ℕ) → IsHeldNode n → HasBlock n
    → IsBlockOf (start_field (Some width) ++ body_field n) m → width ≡ greatest_width n.events

-- all keys from 1 to 200, and key 1 of the first table with the row (1, 'Ann') from 100 on
abbrev pub worked_node : Node
worked_node = record {
  rect = record { keys = record { lo = []; hi = None }; time = record { from = 1; to = Some 200 } };
  events =
      record {
        key = 1 ∷ 128 ∷ 0 ∷ 0 ∷ 0 ∷ 0 ∷ 0 ∷ 0 ∷ 1 ∷ [];
        at = 100;
        row = Some (Int (pos 1) ∷ Text (codes "Ann") ∷ []);
      }
      ∷ [];
}

-- its blocks, worked out by hand
pub record WorkedBlock : Type 0 where
  pub is : block_of worked_node
      ≡ 84 ∷ 83 ∷ 66 ∷ 50 ∷ 2 ∷ 0 ∷ 0 ∷ 0 ∷ 0 ∷ 0 ∷ 0 ∷ 0 ∷ 0 ∷ 0 ∷ 0 ∷ 1
      ∷ 0 ∷ 0 ∷ 0 ∷ 0 ∷ 0 ∷ 0 ∷ 0 ∷ 200 ∷ 1
      ∷ 0 ∷ 9 ∷ 1 ∷ 128 ∷ 0 ∷ 0 ∷ 0 ∷ 0 ∷ 0 ∷ 0 ∷ 1 ∷ 0 ∷ 0 ∷ 0 ∷ 0 ∷ 0 ∷ 0 ∷ 0 ∷ 100 ∷ 1
      ∷ 2 ∷ 1 ∷ 0 ∷ 0 ∷ 0 ∷ 0 ∷ 0 ∷ 0 ∷ 0 ∷ 1 ∷ 2 ∷ 0 ∷ 3 ∷ 65 ∷ 110 ∷ 110 ∷ []
  pub of_form_1 : first_block_of worked_node
      ≡ 84 ∷ 83 ∷ 66 ∷ 49 ∷ 0 ∷ 0 ∷ 0 ∷ 0 ∷ 0 ∷ 0 ∷ 0 ∷ 0 ∷ 0 ∷ 0 ∷ 1
      ∷ 0 ∷ 0 ∷ 0 ∷ 0 ∷ 0 ∷ 0 ∷ 0 ∷ 200 ∷ 1
      ∷ 0 ∷ 9 ∷ 1 ∷ 128 ∷ 0 ∷ 0 ∷ 0 ∷ 0 ∷ 0 ∷ 0 ∷ 1 ∷ 0 ∷ 0 ∷ 0 ∷ 0 ∷ 0 ∷ 0 ∷ 0 ∷ 100 ∷ 1
      ∷ 2 ∷ 1 ∷ 0 ∷ 0 ∷ 0 ∷ 0 ∷ 0 ∷ 0 ∷ 0 ∷ 1 ∷ 2 ∷ 0 ∷ 3 ∷ 65 ∷ 110 ∷ 110 ∷ []
