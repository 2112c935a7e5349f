-- When a key of a range was last changed.
use Rattle.std.specs.Prelude.{ℕ, List, [], ◌∷◌, Bool, ◌&&◌, nat_lt, Option, Some, None, if◌then◌else◌}
use Rattle.values.specs.Commits.{latest_of}
use Rattle.values.specs.Event.{Event}
use Rattle.keyrange.specs.declared.range.KeyRange.{KeyRange}
use Rattle.keyrange.specs.Range.{is_key_in}

-- the latest instant of the events that pass a test
abbrev pub latest_among : (Event → Bool) → List Event → Option ℕ
latest_among p [] = None
latest_among p (e ∷ es) = latest_of (latest_among p es) (if p e then Some e.at else None)

-- the latest instant above another of the events whose key is in a range
abbrev pub event_since_in : List Event → ℕ → KeyRange → Option ℕ
event_since_in es start range = latest_among (λ e. is_key_in range e.key && nat_lt start e.at) es
