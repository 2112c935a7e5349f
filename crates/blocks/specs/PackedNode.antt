-- A node of history as its block.
use Rattle.std.specs.Prelude.{ℕ, List, [], Some, None}
use Rattle.values.specs.Event.{Event}
use Rattle.values.specs.RowReading.{Parsed}
use Rattle.keyrange.specs.Rect.{Area}
use Rattle.datanode.specs.Node.{Node}
use Rattle.blocks.specs.Event.{events_from}
use Rattle.blocks.specs.Lookup.{events_place}
use Rattle.blocks.specs.Block.{IsBlockOf}

-- a node, and the bytes that are its block
pub record Packed : Type 0 where
  pub node : Node
  pub bytes : List ℕ

-- the events that were taken, where there are any
abbrev pub events_taken : Parsed (List Event) → List Event
events_taken None = []
events_taken (Some (es, rest)) = es

-- so many events from bytes
abbrev pub events_at : Parsed ℕ → List Event
events_at None = []
events_at (Some (n, rest)) = events_taken (events_from n rest)

-- the events that are read of a block
unfoldable pub events_of_block : List ℕ → List Event
events_of_block bytes = events_at (events_place bytes)

-- the node of a rectangle, and of the events that are read of its block
abbrev pub packed_of : Area → List ℕ → Packed
packed_of r bytes =
    record { node = record { rect = r; events = events_of_block bytes }; bytes = bytes }

-- the bytes are the node's block
abbrev pub IsPacked : Packed → Type 0
IsPacked p = IsBlockOf p.bytes p.node
