-- Rows that one INSERT over no rows is to take, as they come.
use Rattle.std.specs.Prelude.{◌≡◌, ◌≤◌, ℕ, List, [], Some, None, false, length, map, All}
use Rattle.values.specs.declared.table.Table.{Table}
use Rattle.values.specs.declared.key.Key.{Key}
use Rattle.values.specs.Log.{Row}
use Rattle.values.specs.KeyEncoding.{bytes_of_key}
use Rattle.values.specs.KeyReading.{IsKeyOf}
use Rattle.values.specs.Fit.{rows_fault}
use Rattle.values.specs.Write.{has_bad_span}
use Rattle.values.specs.Writes.{key_of, keyed, duplicate_from, add_keys, most_written}
use Rattle.interchange.specs.declared.key_set.KeySet.{KeySet}
use Rattle.interchange.specs.declared.key_set.KeySet.TheVariants.{Rising, Mixed}
use Rattle.interchange.specs.declared.insertion.Insertion.{Insertion}
use Rattle.interchange.specs.Overlaps.{HasSpans}

-- the keys of rows, in their order
abbrev pub keys_of : Table → List Row → List Key
keys_of table rows = map (key_of table) rows

-- the bytes of the keys of a set
abbrev pub bytes_in : KeySet → List (List ℕ)
bytes_in (Rising keys) = keys.items
bytes_in (Mixed keys) = keys.keys

-- the set has these keys of the table, by their bytes
pub record HasKeys (table : Table) (keys : List Key) (set : KeySet) : Type 0 where
  pub of_table : All (IsKeyOf table) (add_keys keys [])
  pub bytes_are : bytes_in set ≡ map bytes_of_key (add_keys keys [])

-- no two of these rows have one key; as many are kept as one INSERT may have
pub record AreApart (table : Table) (rows : List Row) (i : Insertion) : Type 0 where
  pub apart : duplicate_from [] [] (keys_of table rows) ≡ None
  pub keys : HasKeys table (keys_of table rows) i.keys
  pub spans : HasSpans table.period (map (keyed table) rows) i.overlaps
  pub kept : length (add_keys (keys_of table rows) []) ≤ most_written → i.rows.items ≡ rows

-- no two of these rows have one key, or the first key that an earlier row has is known
abbrev pub AreKeyed : Table → List Row → Insertion → Type 0
AreKeyed table rows i = elim i.repeated [
  | None ↦ AreApart table rows i
  | Some key ↦ duplicate_from [] [] (keys_of table rows) ≡ Some key
]

-- these rows fit and came so far: a span has no start below its end, or their keys are known
pub record HasCome (table : Table) (rows : List Row) (i : Insertion) : Type 0 where
  pub fit : rows_fault table rows ≡ None
  pub bad : i.has_bad_span ≡ has_bad_span table.period rows
  pub keyed : i.has_bad_span ≡ false → AreKeyed table rows i
