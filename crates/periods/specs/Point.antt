-- What is true of an entity at a point of application time.
use Rattle.std.specs.Prelude.{◌≡◌, ◌-◌, ℤ, Bool, true, List, ◌&&◌, Option, Some, None, find, slice_set, if◌then◌else◌}
use Rattle.std.specs.Option.{option_map}
use Rattle.values.specs.declared.period.Period.{Period}
use Rattle.values.specs.declared.period.Span.{Span}
use Rattle.values.specs.declared.key.Key.{Key}
use Rattle.values.specs.declared.table.Table.{Table}
use Rattle.values.specs.declared.query.Keys.{Keys}
use Rattle.values.specs.declared.query.Set.{Set}
use Rattle.values.specs.declared.value.Value.TheVariants.{Null}
use Rattle.values.specs.Order.{is_key}
use Rattle.values.specs.Log.{State, Row}
use Rattle.values.specs.Period.{Periods, span_of, is_span}
use Rattle.values.specs.Times.{is_time_of}
use Rattle.values.specs.Entity.{entity_of}
use Rattle.values.specs.Portion.{change_portion, is_taken, changed}
use Rattle.values.specs.Tables.{full_row}
use Rattle.values.specs.TableRules.{HasPeriod}
use Rattle.periods.specs.NoOverlap.{Tables, NoOverlap, SetsKeep, AreKeyed}

-- the row without its period
abbrev pub outside : Period → Row → Row
outside p row = slice_set (slice_set row (p.from - 1) Null) (p.to - 1) Null

-- the row is the entity's, and its span has the time
abbrev pub is_row_then : Period → Key → ℤ → (Key × Row) → Bool
is_row_then p entity time e = is_key entity (entity_of e.0) && is_time_of (span_of p e.1) time

abbrev pub row_then : Period → Key → ℤ → State → Option (Key × Row)
row_then p entity time m = find (is_row_then p entity time) m

-- the values outside the period of the entity's row at the time, or none
abbrev pub point : Table → Period → State → Key → ℤ → Option Row
point table p m entity time =
    option_map (λ e. outside p (full_row table e.1)) (row_then p entity time m)

-- what a portion makes of the entity's row at a time
abbrev pub point_after : Table → Period → Keys → Span → Option (List Set) → ℤ → Option (Key × Row) → Option Row
point_after table p keys cut sets time None = None
point_after table p keys cut sets time (Some e) =
    if is_taken table p keys cut e && is_time_of cut time
    then option_map (outside p) (changed sets (full_row table e.1))
    else Some (outside p (full_row table e.1))

-- in the portion the rows that it takes have the new values, or are gone; elsewhere all is as before
abbrev pub PortionChangesPoints : Type 0
PortionChangesPoints =
    (tables : Tables) (periods : Periods) (table : Table) (p : Period)
    → tables table.number ≡ Some table → periods table.number ≡ Some p → HasPeriod table p
    → (keys : Keys) (cut : Span) (sets : Option (List Set)) (m : State)
    → keys.table ≡ table.number → is_span cut ≡ true → SetsKeep table p sets
    → AreKeyed tables periods m → NoOverlap periods m
    → (entity : Key) (time : ℤ) → entity.table ≡ table.number
    → point table p (change_portion table p keys cut sets m) entity time
    ≡ point_after table p keys cut sets time (row_then p entity time m)
