-- The rows that a query lists: a row that was stored before columns were added has NULL in them.
use Rattle.std.specs.Prelude.{List, filter, map}
use Rattle.values.specs.declared.table.Table.{Table}
use Rattle.values.specs.declared.query.Keys.{Keys}
use Rattle.values.specs.declared.query.Shown.{Shown}
use Rattle.values.specs.Log.{State, Row}
use Rattle.values.specs.Tables.{full_row}
use Rattle.values.specs.Versions.{matches}

abbrev pub rows_taken : Table → Keys → State → List Row
rows_taken table keys m = map (λ e. full_row table e.1) (filter (λ e. matches table keys e.0) m)

abbrev pub rows_of : List Shown → List Row
rows_of shown = map (λ s. s.row) shown
