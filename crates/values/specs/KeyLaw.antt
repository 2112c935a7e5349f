-- What the keys of good tables amount to.
use Rattle.std.specs.Prelude.{◌≡◌, ℕ, Some, None, All}
use Rattle.values.specs.declared.table.Table.{Table}
use Rattle.values.specs.declared.key.Key.{Key}
use Rattle.values.specs.Log.{Row}
use Rattle.values.specs.TableRules.{IsTable}
use Rattle.values.specs.Fit.{row_fault}
use Rattle.values.specs.Writes.{key_of}
use Rattle.values.specs.RowEncoding.{IsHeld}
use Rattle.values.specs.KeyEncoding.{bytes_of_key, IsShortKey}
use Rattle.values.specs.KeyReading.{IsKeyOf, key_from}

-- a row that fits a table, of values that a program holds, has one of its keys
abbrev pub FittingRowsHaveKeys : Type 0
FittingRowsHaveKeys =
    (number : ℕ) (table : Table) (row : Row) → IsTable number table
    → row_fault table row ≡ None → All IsHeld row → IsKeyOf table (key_of table row)

-- a table's keys have bytes
abbrev pub KeysAreShort : Type 0
KeysAreShort =
    (number : ℕ) (table : Table) (key : Key) → IsTable number table → IsKeyOf table key
    → IsShortKey key

-- and are read back from them
abbrev pub KeysReadBack : Type 0
KeysReadBack =
    (table : Table) (key : Key) → IsKeyOf table key
    → key_from table (bytes_of_key key) ≡ Some key
