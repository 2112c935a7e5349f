-- What is asked of each data node, and put together.
use Rattle.std.specs.Prelude.{◌≡◌, ℕ, ◌+◌, List, [], Option, Some, None, max, nat_lt, if◌then◌else◌, slice_get}
use Rattle.std.specs.List.{flat_map}
use Rattle.values.specs.Event.{Event}
use Rattle.values.specs.Commits.{max_instant}
use Rattle.keyrange.specs.declared.range.KeyRange.{KeyRange}
use Rattle.keyrange.specs.declared.range.TimeRange.{TimeRange}
use Rattle.keyrange.specs.Range.{is_key_in}
use Rattle.keyrange.specs.Rect.{Area}
use Rattle.keyrange.specs.Cut.{rect_of}
use Rattle.eventlist.specs.Listing.{events_in, standing}
use Rattle.treenodes.specs.Node.{TreeNode, events_of}
use Rattle.treewalk.specs.Level.{AreMeeting}
use Rattle.treewalk.specs.declared.gather.Query.{Query}
use Rattle.treewalk.specs.declared.gather.Query.TheVariants.{Between, At}

-- the instants from one to another and with it
abbrev pub time_between : ℕ → ℕ → TimeRange
time_between from to =
    record { from = max from 1; to = if nat_lt to max_instant then Some (to + 1) else None }

-- the rectangle of a range of keys and of these instants, unless it is empty
abbrev pub area_between : KeyRange → ℕ → ℕ → Option Area
area_between range from to = rect_of range (time_between from to)

-- the first and the last instant in question
abbrev pub instants : Query → ℕ × ℕ
instants (Between from to) = (from, to)
instants (At instant) = (instant, instant)

-- of a list of events, what a query asks for
abbrev pub asked : Query → KeyRange → List Event → List Event
asked (Between from to) range es = events_in es range from to
asked (At instant) range es = standing es (is_key_in range) instant

-- what a query asks of a leaf that begins at an instant: of the events between two instants those
-- at its own points alone
abbrev pub leaf_query : Query → ℕ → Query
leaf_query (Between from to) start = Between (max from start) to
leaf_query (At instant) start = At instant

-- the events of the node that has the number
abbrev pub events_at : List TreeNode → ℕ → List Event
events_at nodes number = elim (slice_get nodes number) [ None ↦ [] | Some n ↦ events_of n.content ]

-- the first instant of the node that has the number
abbrev pub start_at : List TreeNode → ℕ → ℕ
start_at nodes number = elim (slice_get nodes number) [ None ↦ 0 | Some n ↦ n.rect.time.from ]

-- what is asked of each node, one after the other
abbrev pub asked_of_all : Query → KeyRange → List TreeNode → List ℕ → List Event
asked_of_all query range nodes =
    flat_map
    (λ number. asked (leaf_query query (start_at nodes number)) range (events_at nodes number))

-- the query asked of all data nodes that have a point of a rectangle
abbrev pub AreGatheredIn : Query → KeyRange → List TreeNode → Area → List Event → Type 0
AreGatheredIn query range nodes area es =
    (numbers : List ℕ) × AreMeeting nodes 0 area numbers
    × (es ≡ asked_of_all query range nodes numbers)

-- the query asked of all data nodes that have a point in question; of none where there is no point
pub record AreGathered (query : Query) (range : KeyRange) (nodes : List TreeNode) (es : List Event)
    : Type 0 where
  pub none : area_between range (instants query).0 (instants query).1 ≡ None → es ≡ []
  pub some : (area : Area) → area_between range (instants query).0 (instants query).1 ≡ Some area
      → AreGatheredIn query range nodes area es
