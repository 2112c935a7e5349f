-- A row that is shown, wherever it is.
use Rattle.std.specs.Prelude.{[], Option, Some, None}
use Rattle.values.specs.Log.{Row}
use Rattle.values.specs.declared.shown_row.Source.{Source}
use Rattle.values.specs.declared.shown_row.Source.TheVariants.{Event, Own}

-- the values of a row, none where there is no row
abbrev pub values_of : Option Row → Row
values_of None = []
values_of (Some row) = row

-- the event's row, or the row by itself
abbrev pub row_from : Source → Row
row_from (Event e) = values_of e.row
row_from (Own row) = row
