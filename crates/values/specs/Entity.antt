-- What a row of a table with a period is about: its key without the start. Conflicts are by entity.
use Rattle.std.specs.Prelude.{Option, Some, None, Bool, ◌&&◌, false}
use Rattle.values.specs.declared.period.Period.{Period}
use Rattle.values.specs.declared.key.Key.{Key}
use Rattle.values.specs.Order.{is_key}
use Rattle.values.specs.Tables.{but_last}
use Rattle.values.specs.Log.{Row}
use Rattle.values.specs.Period.{Periods, span_of, overlap}

-- the key without the start of the period, which is its last column
abbrev pub entity_of : Key → Key
entity_of k = record { table = k.table; parts = but_last k.parts }

-- what conflicts are looked for by: the entity where the table has a period, else the key
abbrev pub unit_of : Periods → Key → Key
unit_of periods k = elim (periods k.table) [ None ↦ k | Some p ↦ entity_of k ]

-- two rows of one entity, whose spans overlap
abbrev pub clash_by : Option Period → (Key × Row) → (Key × Row) → Bool
clash_by None d e = false
clash_by (Some p) d e = is_key (entity_of d.0) (entity_of e.0) && overlap (span_of p d.1) (span_of p e.1)
