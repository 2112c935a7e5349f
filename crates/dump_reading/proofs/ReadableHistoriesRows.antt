-- Rows whose values can be printed.
use Rattle.std.proofs.Common.{ℕ, ◌-◌, zero, suc, List, [], ◌∷◌, ◌++◌, map, length}
use Rattle.std.specs.Prelude.{replicate, slice_set, unwrap_or}
use Rattle.std.specs.List.{AllByRecursion, slice_get}
use Rattle.values.specs.declared.query.Set.{Set}
use Rattle.values.specs.declared.table.Table.{Table}
use Rattle.values.specs.declared.value.Value.{Value}
use Rattle.values.specs.declared.value.Value.TheVariants.{Null}
use Rattle.values.specs.Log.{Row}
use Rattle.values.specs.Tables.{but_last, full_row, value_at}
use Rattle.values.specs.Writes.{set_all}
use Rattle.statement.specs.GrammarLaw.{ArePlain, IsPlain}
use Rattle.dump_reading.specs.ReadableHistories.{ArePlainSets}

pub pushed : (row : Row) (v : Value) → ArePlain row → IsPlain v → ArePlain (row ++ v ∷ [])
pushed [] v plain one = (one, tt)
pushed (w ∷ row) v plain one = (plain.0, pushed row v plain.1 one)

pub got : (row : Row) (i : ℕ) → ArePlain row → IsPlain (unwrap_or (slice_get row i) Null)
got [] i plain = tt
got (v ∷ row) zero plain = plain.0
got (v ∷ row) (suc i) plain = got row i plain.1

pub set_value : (row : Row) (i : ℕ) (v : Value) → IsPlain v → ArePlain row → ArePlain (slice_set row i v)
set_value [] i v one plain = tt
set_value (w ∷ row) zero v one plain = (one, plain.1)
set_value (w ∷ row) (suc i) v one plain = (plain.0, set_value row i v one plain.1)

pub sets : (ss : List Set) (row : Row) → ArePlainSets ss → ArePlain row → ArePlain (set_all ss row)
sets [] row all plain = plain
sets (s ∷ ss) row all plain = sets ss (slice_set row (s.column - 1) s.value) all.1 (set_value row (s.column - 1) s.value all.0 plain)

nulls : (n : ℕ) → ArePlain (replicate n Null)
nulls zero = tt
nulls (suc n) = (tt, nulls n)

joined : (row other : Row) → ArePlain row → ArePlain other → ArePlain (row ++ other)
joined [] other f g = g
joined (v ∷ row) other f g = (f.0, joined row other f.1 g)

pub full : (table : Table) (row : Row) → ArePlain row → ArePlain (full_row table row)
full table row plain = joined row (replicate (length table.columns - length row) Null) plain (nulls (length table.columns - length row))

pub parts_plain : (row : Row) (columns : List ℕ) → ArePlain row → ArePlain (map (value_at row) columns)
parts_plain row [] plain = tt
parts_plain row (c ∷ columns) plain = (got row (c - 1) plain, parts_plain row columns plain)

pub but_last_plain : (row : Row) → ArePlain row → ArePlain (but_last row)
but_last_plain [] plain = tt
but_last_plain (v ∷ []) plain = tt
but_last_plain (v ∷ w ∷ row) plain = (plain.0, but_last_plain (w ∷ row) plain.1)

-- rows with one more
pub rows_pushed : (rows : List Row) (row : Row) → AllByRecursion ArePlain rows → ArePlain row → AllByRecursion ArePlain (rows ++ row ∷ [])
rows_pushed [] row plain one = (one, tt)
rows_pushed (r ∷ rows) row plain one = (plain.0, rows_pushed rows row plain.1 one)
