-- What was committed, as a transaction sees it.
use Rattle.std.specs.Prelude.{◌≡◌, ℕ}
use Rattle.std.specs.Map.{keys_of}
use Rattle.std.specs.List.Sorted.{IsStrictlySortedBy}
use Rattle.values.specs.Tables.{Schema}
use Rattle.values.specs.Log.{Changes, Net, point_cmp}
use Rattle.values.specs.Events.{events_of, put_net, AreChangesIn}
use Rattle.tsbtree.specs.View.{TreeState, events, last}

-- its events are those of the changes, in order, whose keys are of the schema
pub record Holds (schema : Schema) (c : TreeState) (m : Changes) : Type 0 where
  pub events_are : events c ≡ events_of m
  pub keys : AreChangesIn schema m
  pub in_order : IsStrictlySortedBy point_cmp (keys_of m)

-- the second is the first, with what a transaction changed at an instant
pub record Adds (instant : ℕ) (net : Net) (old new : TreeState) : Type 0 where
  pub events_are : events new ≡ put_net instant net (events old)
  pub last_is : last new ≡ instant
