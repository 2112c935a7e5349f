-- Which events take the place of earlier ones of their key.
use Rattle.std.specs.Prelude.{ℕ, Bool, false, ◌&&◌, nat_le, nat_lt, Option, Some, None}
use Rattle.values.specs.Event.{Event}
use Rattle.values.specs.Events.{is_bytes}

-- a later event of e's key, at an instant or before it
unfoldable pub overtakes : Event → ℕ → Event → Bool
overtakes e t d = is_bytes e.key d.key && (nat_lt e.at d.at && nat_le d.at t)

-- the next event is a later one of e's key, at the instant or before it
abbrev pub is_overtaken : Event → ℕ → Option Event → Bool
is_overtaken e t None = false
is_overtaken e t (Some d) = overtakes e t d
