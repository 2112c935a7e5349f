-- Rows of one entity whose spans overlap, in tables with periods.
use Rattle.std.specs.Prelude.{Bool}
use Rattle.values.specs.declared.key.Key.{Key}
use Rattle.values.specs.Log.{Row}
use Rattle.values.specs.Period.{Periods}
use Rattle.values.specs.Entity.{clash_by}

abbrev pub clash : Periods → (Key × Row) → (Key × Row) → Bool
clash periods d e = clash_by (periods d.0.table) d e
