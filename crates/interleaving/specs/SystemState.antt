-- What a system keeps, and what contracts see of it.
use Rattle.std.specs.Prelude.{◌≡◌, ℕ, ◌≤◌, ◌+◌, List, [], ◌∷◌, Option, Some, None, option_and_then, map, length, All}
use Rattle.std.specs.List.{filter_map}
use Rattle.std.specs.Map.{keys_of}
use Rattle.std.specs.Option.{option_map}
use Rattle.values.specs.Event.{Event}
use Rattle.values.specs.declared.key.Key.{Key}
use Rattle.values.specs.declared.key.Point.{Point}
use Rattle.values.specs.Tables.{Schema, table_at}
use Rattle.values.specs.Log.{Changes, Row}
use Rattle.values.specs.Law.{changes_upto}
use Rattle.values.specs.KeyReading.{key_from}
use Rattle.values.specs.Events.{AreKeysIn}
use Rattle.tsbtree.specs.View.{TreeState, events, last}
use Rattle.staging.specs.View.{Holds}
use Rattle.staging.specs.Own.{rows_seen}
use Rattle.transaction.specs.OpenTransactionState.{OpenTransactionState}
use Rattle.steps.specs.Misfit.{max_session}
use Rattle.histories.specs.History.{History}
use Rattle.histories.specs.World.{OpenTransaction, World}
use Rattle.histories.specs.Stands.{Stands as WorldStands}

-- the key with these bytes, of the table that their first byte names
abbrev pub key_in : Schema → List ℕ → Option Key
key_in schema [] = None
key_in schema (b ∷ bytes) =
    option_and_then (λ table. key_from table (b ∷ bytes)) (table_at schema b)

abbrev pub change_in : Schema → Event → Option (Point × Option Row)
change_in schema e =
    option_map (λ key. (record { key = key; instant = e.at }, e.row)) (key_in schema e.key)

-- the changes that events stand for
abbrev pub changes_in : Schema → List Event → Changes
changes_in schema es = filter_map (change_in schema) es

-- what contracts see of a system: the tables, what was committed, and the open transactions by
-- their sessions' numbers, from 0
pub record SystemState : Type 0 where
  pub schema : Schema
  pub engine : TreeState
  pub sessions : List (Option OpenTransactionState)

-- an open transaction, by what it sees
abbrev pub open_of : Schema → OpenTransactionState → OpenTransaction
open_of schema t = record {
  start = last t.view;
  rows = rows_seen (changes_in schema (events t.view)) t.writes;
  written = keys_of t.writes;
}

abbrev pub world_of : Schema → TreeState → List (Option OpenTransactionState) → World
world_of schema engine sessions = record {
  schema = schema;
  changes = changes_in schema (events engine);
  latest = last engine;
  sessions = map (option_map (open_of schema)) sessions;
}

-- the system, by changes and keys
abbrev pub world : SystemState → World
world s = world_of s.schema s.engine s.sessions

-- from the first tables on, it has the history's tables, what it committed, and its open transactions
abbrev pub Stands : Schema → SystemState → History → Type 0
Stands first s h = WorldStands first (world s) h

-- an open transaction sees what was committed until its start, and wrote keys of the schema
pub record IsOpenIn (schema : Schema) (engine : TreeState) (t : OpenTransactionState) : Type 0 where
  pub early : last t.view ≤ last engine
  pub held : Holds schema t.view (changes_in schema (events t.view))
  pub part : changes_in schema (events t.view)
      ≡ changes_upto (changes_in schema (events engine)) (last t.view)
  pub keys : AreKeysIn schema t.writes

abbrev pub IsOpen : Schema → TreeState → Option OpenTransactionState → Type 0
IsOpen schema engine None = Unit {0}
IsOpen schema engine (Some t) = IsOpenIn schema engine t

-- what is true of every system: its changes are the events', and none is later than its last instant
pub record IsSystem (schema : Schema) (engine : TreeState)
    (sessions : List (Option OpenTransactionState)) : Type 0 where
  pub wide : length sessions ≡ max_session + 1
  pub held : Holds schema engine (changes_in schema (events engine))
  pub upto : All (λ e. e.at ≤ last engine) (events engine)
  pub each_open : All (IsOpen schema engine) sessions
