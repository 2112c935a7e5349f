-- A node that two halves take the place of.
use Rattle.std.specs.Prelude.{◌≡◌, ◌≢◌, ℕ, ◌+◌, List, None, IsTrue, length}
use Rattle.values.specs.Event.{Event}
use Rattle.keyrange.specs.Rect.{Area}
use Rattle.keyrange.specs.Cut.{AreHalves, is_key_inside, is_time_inside}
use Rattle.datanode.specs.Node.{Node}
use Rattle.datanode.specs.Cut.{cut}
use Rattle.indexnode.specs.declared.reference.Reference.{Reference}
use Rattle.indexnode.specs.Split.{IsBeforeCurrent, IsUncrossed}
use Rattle.treenodes.specs.Node.{TreeNode, References, IsAt, IsIndexNode, data_node, references_of}
use Rattle.treenodes.specs.History.{KeepsHistory}
use Rattle.treenodes.specs.Tree.{HasContent, IsTree}
use Rattle.treenodes.specs.Lookup.{IsData}
use Rattle.treenodes.specs.Map.{IsCut, HoldsMap, EndsBy, latest}

-- a current data node with the key strictly inside
pub record CanSplitKey (nodes : List TreeNode) (number : ℕ) (key : List ℕ) : Type 0 where
  pub leaf : IsData nodes number
  pub current : leaf.node.rect.time.to ≡ None
  pub inside : IsTrue (is_key_inside leaf.node.rect key)

-- or the instant
pub record CanSplitTime (nodes : List TreeNode) (number instant : ℕ) : Type 0 where
  pub leaf : IsData nodes number
  pub current : leaf.node.rect.time.to ≡ None
  pub inside : IsTrue (is_time_inside leaf.node.rect instant)

-- a current index node with the key strictly inside, which no current reference crosses
pub record CanSplitIndexKey (nodes : List TreeNode) (number : ℕ) (key : List ℕ) : Type 0 where
  pub node : TreeNode
  pub there : IsAt nodes number node
  pub is_index : IsIndexNode node.content
  pub current : node.rect.time.to ≡ None
  pub inside : IsTrue (is_key_inside node.rect key)
  pub uncrossed : IsUncrossed key (references_of node.content)

-- a current index node with the instant strictly inside, which is before no current reference
pub record CanSplitIndexTime (nodes : List TreeNode) (number instant : ℕ) : Type 0 where
  pub node : TreeNode
  pub there : IsAt nodes number node
  pub is_index : IsIndexNode node.content
  pub current : node.rect.time.to ≡ None
  pub inside : IsTrue (is_time_inside node.rect instant)
  pub before : IsBeforeCurrent instant (references_of node.content)

-- current nodes of one level whose rectangles are halves of a node's
pub record AreSplit (nodes : List TreeNode) (n first second : TreeNode) : Type 0 where
  pub current : n.rect.time.to ≡ None
  pub first_level : first.level ≡ n.level
  pub second_level : second.level ≡ n.level
  pub halves : AreHalves n.rect first.rect second.rect
  pub first_has : HasContent nodes n.level first.rect first.content
  pub second_has : HasContent nodes n.level second.rect second.content

-- both hold a map's cuts
pub record HoldCuts (m : List Event) (first second : TreeNode) : Type 0 where
  pub first_cut : IsCut m first.rect first.content
  pub second_cut : IsCut m second.rect second.content
  pub first_ends : EndsBy (latest m) first.content first.rect.time.to
  pub second_ends : EndsBy (latest m) second.content second.rect.time.to

-- the parent of a node that was split: it has one reference more
pub record IsLonger (before after : TreeNode) : Type 0 where
  pub level : after.level ≡ before.level
  pub rect : after.rect ≡ before.rect
  pub index : IsIndexNode after.content
  pub more :
      length (references_of after.content) ≡ length (references_of before.content) + 1

-- the first half has the node's number, the second a new one, and their parent has one reference more; all others are
-- as they were
pub record Halved (before after : List TreeNode) (parent number : ℕ) (first second : TreeNode)
    : Type 0 where
  pub first_there : IsAt after number first
  pub second_there : IsAt after (length before) second
  pub long : length after ≡ length before + 1
  pub others : (i : ℕ) (n : TreeNode) → i ≢ number → i ≢ parent → IsAt before i n → IsAt after i n
  pub above : TreeNode
  pub above_there : IsAt after parent above
  pub as_before : (p : TreeNode) → IsAt before parent p → IsLonger p above

-- what comes of two halves in the place of a node: still a tree, which holds each map of which they hold the cuts, and
-- keeps history where they have no block
pub record HasHalves
    (before : List TreeNode)
    (parent number : ℕ)
    (first second : TreeNode)
    (after : List TreeNode)
    : Type 0 where
  pub tree : IsTree after
  pub holds :
      (m : List Event) → HoldsMap before m → HoldCuts m first second → HoldsMap after m
  pub halved : Halved before after parent number first second
  pub history : first.packed ≡ None → second.packed ≡ None → KeepsHistory before after

-- what a rectangle inside a data node holds of it
abbrev pub part : Node → Area → TreeNode
part n r = data_node (record { rect = r; events = cut r n.events })

-- an index node of a rectangle, with some of its references
abbrev pub part_of : TreeNode → Area → (List (Reference ℕ) → List (Reference ℕ)) → TreeNode
part_of n r kept = record {
  level = n.level;
  rect = r;
  content = References (kept (references_of n.content));
  packed = None;
}
