-- Changes as the store keeps them: their keys put to bytes, whose order is the order of keys.
use Rattle.std.specs.Prelude.{ℕ, List, [], ◌∷◌, Option, Some, None, Bool, ◌&&◌, nat_le, nat_lt, map, All, if◌then◌else◌, option_and_then}
use Rattle.std.specs.Ordering.{nat_cmp, ordering_then, eq_by_cmp, match_ordering}
use Rattle.std.specs.Cmp.Lexicographic.{slice_cmp}
use Rattle.std.specs.Map.{keys_of}
use Rattle.std.specs.declared.cmp.Ordering.{Ordering}
use Rattle.values.specs.Event.{Event}
use Rattle.values.specs.declared.key.Key.{Key}
use Rattle.values.specs.declared.key.Point.{Point}
use Rattle.values.specs.declared.table.Table.{Table}
use Rattle.values.specs.Log.{Changes, Net, Row}
use Rattle.values.specs.Tables.{Schema, table_at}
use Rattle.values.specs.KeyEncoding.{bytes_of_key}
use Rattle.values.specs.KeyReading.{IsKeyOf}

abbrev pub bytes_cmp : List ℕ → List ℕ → Ordering
bytes_cmp = slice_cmp nat_cmp

abbrev pub is_bytes : List ℕ → List ℕ → Bool
is_bytes = eq_by_cmp bytes_cmp

-- by key, and then by instant
abbrev pub event_cmp : Event → Event → Ordering
event_cmp d e = ordering_then (bytes_cmp d.key e.key) (nat_cmp d.at e.at)

abbrev pub event_of : (Point × Option Row) → Event
event_of c = record { key = bytes_of_key c.0.key; at = c.0.instant; row = c.1 }

-- the changes, each with its key put to bytes
abbrev pub events_of : Changes → List Event
events_of m = map event_of m

-- a key that a row of the table may have, where there is one
abbrev pub IsKeyOfAny : Option Table → Key → Type 0
IsKeyOfAny None key = ⊥
IsKeyOfAny (Some table) key = IsKeyOf table key

-- a key that a row of one of the tables may have
abbrev pub IsKeyIn : Schema → Key → Type 0
IsKeyIn schema key = IsKeyOfAny (table_at schema key.table) key

-- the keys of the changes are of the schema
abbrev pub AreChangesIn : Schema → Changes → Type 0
AreChangesIn schema m = All (λ p. IsKeyIn schema p.key) (keys_of m)

-- the keys of net changes are of the schema
abbrev pub AreKeysIn : Schema → Net → Type 0
AreKeysIn schema net = All (IsKeyIn schema) (keys_of net)

-- ---- what events say of a key, by its bytes

abbrev pub later : {A : Type 0} → Option A → Option A → Option A
later (Some x) o = Some x
later None o = o

-- the key's last event at the instant or before it
abbrev pub event_until : List Event → List ℕ → ℕ → Option Event
event_until [] key t = None
event_until (e ∷ es) key t =
    later (event_until es key t) (if is_bytes key e.key && nat_le e.at t then Some e else None)

-- the key's row at the instant
abbrev pub row_until : List Event → List ℕ → ℕ → Option Row
row_until es key t = option_and_then (λ e. e.row) (event_until es key t)

-- the instant of the key's last event above another
abbrev pub event_since : List Event → ℕ → List ℕ → Option ℕ
event_since [] start key = None
event_since (e ∷ es) start key =
    later (event_since es start key)
    (if is_bytes key e.key && nat_lt start e.at then Some e.at else None)

-- ---- events that are added

-- the event in its place; it takes the place of one of its key and instant
abbrev pub put_event : Event → List Event → List Event
put_event e [] = e ∷ []
put_event e (d ∷ ds) = match_ordering (event_cmp e d) (e ∷ d ∷ ds) (e ∷ ds) (d ∷ put_event e ds)

-- what a transaction changed at an instant
abbrev pub put_net : ℕ → Net → List Event → List Event
put_net instant [] es = es
put_net instant (c ∷ net) es =
    put_net instant net
    (put_event (record { key = bytes_of_key c.0; at = instant; row = c.1 }) es)
