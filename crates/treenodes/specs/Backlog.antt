-- Which data nodes are still to be packed, and in what order.
use Rattle.std.specs.Prelude.{◌≡◌, ◌≢◌, ℕ, ◌<◌, ◌≤◌, List, Bool, true, false, ◌&&◌, Option, Some, None, is_some, is_none, length, slice_get, slice_index, All, Contains, IsTrue}
use Rattle.std.specs.Ordering.{nat_cmp, ordering_then, is_lt}
use Rattle.std.specs.declared.cmp.Ordering.{Ordering}
use Rattle.values.specs.Events.{bytes_cmp}
use Rattle.keyrange.specs.Rect.{Area}
use Rattle.treenodes.specs.Node.{Content, Events, References, TreeNode, IsAt}

abbrev pub is_data : Content → Bool
is_data (Events es) = true
is_data (References rs) = false

-- a data node of history without a block
abbrev pub is_unpacked : TreeNode → Bool
is_unpacked n = is_data n.content && (is_some n.rect.time.to && is_none n.packed)

-- ---- their order

-- by the start of time, then by the lower key
abbrev pub start_cmp : Area → Area → Ordering
start_cmp r s =
    ordering_then (nat_cmp r.time.from s.time.from) (bytes_cmp r.keys.lo s.keys.lo)

-- and then by the number
abbrev pub turn_cmp : (Area × ℕ) → (Area × ℕ) → Ordering
turn_cmp s t = ordering_then (start_cmp s.0 t.0) (nat_cmp s.1 t.1)

-- the node of a number comes after one of a rectangle and another number
abbrev pub comes_after : List TreeNode → Area → ℕ → ℕ → Bool
comes_after nodes rect other number = elim (slice_get nodes number) [
  | None ↦ false
  | Some n ↦ is_lt (turn_cmp (rect, other) (n.rect, number))
]

-- ---- their list

-- the number is that of an unpacked node
pub record IsUnpackedAt (nodes : List TreeNode) (number : ℕ) : Type 0 where
  pub node : TreeNode
  pub there : IsAt nodes number node
  pub unpacked : IsTrue (is_unpacked node)

-- each comes after those behind it in the list
abbrev pub AreFalling : List TreeNode → List ℕ → Type 0
AreFalling nodes numbers =
    (j k : ℕ) (n : TreeNode) → j < k → k < length numbers → IsAt nodes (slice_index numbers k) n
    → comes_after nodes n.rect (slice_index numbers k) (slice_index numbers j) ≡ true

-- the numbers of all unpacked nodes, the first of them last
pub record IsBacklog (nodes : List TreeNode) (numbers : List ℕ) : Type 0 where
  pub each : All (IsUnpackedAt nodes) numbers
  pub whole : (number : ℕ) → IsUnpackedAt nodes number → Contains numbers number
  pub falling : AreFalling nodes numbers

-- the numbers of all but one
pub record IsBacklogBut (nodes : List TreeNode) (but : ℕ) (numbers : List ℕ) : Type 0 where
  pub each : All (λ number. (number ≢ but) × IsUnpackedAt nodes number) numbers
  pub whole : (number : ℕ) → number ≢ but → IsUnpackedAt nodes number → Contains numbers number
  pub falling : AreFalling nodes numbers

-- ---- the first of them

-- the rectangle comes after another, where there is one
abbrev pub IsBehind : Option Area → Area → Type 0
IsBehind None r = Unit {0}
IsBehind (Some s) r = IsTrue (is_lt (start_cmp s r))

-- so many of the list come after a rectangle: they stand first
pub record AreBehind (nodes : List TreeNode) (numbers : List ℕ) (after : Option Area) (place : ℕ)
    : Type 0 where
  pub bound : place ≤ length numbers
  pub below : (k : ℕ) (n : TreeNode) → k < place → IsAt nodes (slice_index numbers k) n
      → IsBehind after n.rect
  pub others : (k : ℕ) (n : TreeNode) → place ≤ k → k < length numbers
      → IsAt nodes (slice_index numbers k) n → IsBehind after n.rect → ⊥

-- an unpacked node that comes after a rectangle
pub record IsWaiting (nodes : List TreeNode) (after : Option Area) (n : TreeNode) : Type 0 where
  pub number : ℕ
  pub there : IsAt nodes number n
  pub unpacked : IsTrue (is_unpacked n)
  pub behind : IsBehind after n.rect

-- the first of these
pub record IsFirstWaiting (nodes : List TreeNode) (after : Option Area) (n : TreeNode)
    : Type 0 where
  pub waiting : IsWaiting nodes after n
  pub first : (p : TreeNode) → IsWaiting nodes after p → is_lt (start_cmp p.rect n.rect) ≡ false

-- the number is that of the first of them
pub record IsFirstWaitingAt (nodes : List TreeNode) (after : Option Area) (number : ℕ)
    : Type 0 where
  pub node : TreeNode
  pub there : IsAt nodes number node
  pub first : IsFirstWaiting nodes after node
