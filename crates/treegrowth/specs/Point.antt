-- Where a node is split.
use Rattle.std.specs.Prelude.{◌≡◌, ◌==◌, ℕ, ◌≤◌, List, Bool, Option, Some, option_map, ◌&&◌, ◌||◌, nat_le, nat_lt, length, filter, if◌then◌else◌}
use Rattle.values.specs.Event.{Event}
use Rattle.keyrange.specs.Rect.{Area}
use Rattle.keyrange.specs.Cut.{halves_by_key, halves_by_time}
use Rattle.datanode.specs.Cut.{cut, is_carried}
use Rattle.datanode.specs.Node.{Node, capacity}
use Rattle.indexnode.specs.declared.node.IndexNode.{IndexNode}
use Rattle.indexnode.specs.Choice.{current_count}
use Rattle.indexnode.specs.Split.{ends_after}
use Rattle.keysplit.specs.Middle.{middle_key}
use Rattle.treenodes.specs.Node.{TreeNode}
use Rattle.treenodes.specs.Map.{latest}
use Rattle.treenodes.specs.Split.{CanSplitKey, CanSplitTime}
use Rattle.treegrowth.specs.declared.point.SplitPoint.{SplitPoint}
use Rattle.treegrowth.specs.declared.point.SplitPoint.TheVariants.{Key, Time}

-- the two halves of a rectangle there
abbrev pub halves_at : Area → SplitPoint → Option (Area × Area)
halves_at r (Key key) = halves_by_key r key
halves_at r (Time instant) = halves_by_time r instant

-- a current data node has the point strictly inside
abbrev pub CanSplitAt : List TreeNode → ℕ → SplitPoint → Type 0
CanSplitAt nodes number (Key key) = CanSplitKey nodes number key
CanSplitAt nodes number (Time instant) = CanSplitTime nodes number instant

-- an instant is one at which a change was committed, or before one
abbrev pub IsReached : List Event → SplitPoint → Type 0
IsReached m (Key key) = Unit {0}
IsReached m (Time instant) = instant ≤ latest m

-- both halves are within capacity
abbrev pub HalvesFit : Node → SplitPoint → Type 0
HalvesFit n point =
    (h : Area × Area) → halves_at n.rect point ≡ Some h
    → (length (cut h.0 n.events) ≤ capacity) × (length (cut h.1 n.events) ≤ capacity)

-- so many may stay in the current half of a split by time
abbrev pub stay_limit : ℕ
stay_limit = 42

-- the events from an instant on, and those that are carried to it
abbrev pub staying : List Event → ℕ → List Event
staying es instant = filter (λ e. nat_le instant e.at || is_carried es instant e) es

-- the last instant is after the node's start, and few enough events stay
abbrev pub is_split_by_time : Node → ℕ → Bool
is_split_by_time n last =
    nat_lt n.rect.time.from last && nat_le (length (staying n.events last)) stay_limit

-- where a data node with too many events is split, at an instant of commit after the last one
abbrev pub overflow_point : Node → ℕ → Option SplitPoint
overflow_point n last =
    if is_split_by_time n last then Some (Time last) else option_map Key (middle_key n.events)

-- an index node is split by time where one reference is current, or where the least start of a current one is after the
-- node's start and few enough references stay
abbrev pub is_index_split_by_time : IndexNode ℕ → ℕ → Bool
is_index_split_by_time n start =
    current_count n.references.items == 1
    || (nat_lt n.rect.time.from start
    && nat_le (length (filter (λ r. ends_after start r.rect) n.references.items)) stay_limit)
