-- The first conflict of a transaction, by the events that were committed.
use Rattle.std.specs.Prelude.{◌≡◌, ℕ, ◌+◌, List, Option, Some, None, Result, Ok, Err, max, nat_lt, if◌then◌else◌}
use Rattle.std.specs.Option.{option_map}
use Rattle.values.specs.declared.key.Key.{Key}
use Rattle.values.specs.declared.table.Table.{Table}
use Rattle.values.specs.declared.refusal.Refusal.{Refusal}
use Rattle.values.specs.declared.refusal.Refusal.TheVariants.{Conflict, ClockEnd}
use Rattle.values.specs.Event.{Event}
use Rattle.values.specs.Log.{Changes}
use Rattle.values.specs.Entity.{entity_of, unit_of}
use Rattle.values.specs.Commits.{max_instant, unit_changed_since}
use Rattle.values.specs.Period.{Periods}
use Rattle.keyrange.specs.declared.range.KeyRange.{KeyRange}
use Rattle.staging.specs.treewalk.RangeChange.{event_since_in}
use Rattle.searchrange.specs.Entity.{IsEntityRange}
use Rattle.searchrange.specs.SearchRange.{range_of_table, IsWithin}

-- a key's unit, with the latest instant above start at which one of its keys was changed
abbrev pub conflict_of : Periods → Changes → ℕ → Key → Option (Key × ℕ)
conflict_of periods m start key =
    option_map (λ i. (unit_of periods key, i)) (unit_changed_since periods m start (unit_of periods key))

-- the unit of a key, if there is one, was not changed above start
abbrev pub HasNoConflict : Periods → Changes → ℕ → Option Key → Type 0
HasNoConflict periods m start key =
    (k : Key) → key ≡ Some k → conflict_of periods m start k ≡ None

-- a key's entity, with the latest instant of an event in the range of its keys
pub record IsOfEntity (table : Table) (es : List Event) (start : ℕ) (key : Key)
    (found : Option (Key × ℕ)) : Type 0 where
  pub range : KeyRange
  pub of : IsEntityRange table key range
  pub within : IsWithin range (range_of_table table.number)
  pub found_is : found ≡ option_map (λ i. (entity_of key, i)) (event_since_in es start range)

-- how a transaction with net changes ends, by its first conflict
abbrev pub end_by : ℕ → ℕ → Option (Key × ℕ) → Result (Option ℕ) Refusal
end_by latest reading (Some first) = Err (Conflict first.0 first.1)
end_by latest reading None =
    let instant = max reading (latest + 1) in
    if nat_lt max_instant instant then Err ClockEnd else Ok (Some instant)
