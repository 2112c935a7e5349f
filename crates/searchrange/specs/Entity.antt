-- The range of the bytes of an entity's keys.
use Rattle.std.specs.Prelude.{◌≡◌, Some}
use Rattle.values.specs.declared.period.Period.{Period}
use Rattle.values.specs.declared.key.Key.{Key}
use Rattle.values.specs.declared.table.Table.{Table}
use Rattle.values.specs.Order.{is_key}
use Rattle.values.specs.TableRules.{IsTable}
use Rattle.values.specs.Entity.{entity_of}
use Rattle.values.specs.KeyEncoding.{bytes_of_key}
use Rattle.values.specs.KeyReading.{IsKeyOf}
use Rattle.keyrange.specs.declared.range.KeyRange.{KeyRange}
use Rattle.keyrange.specs.Range.{is_key_in}

-- of the table's keys those of the entity are in the range, and no others
abbrev pub IsRangeOf : Table → Key → KeyRange → Type 0
IsRangeOf table entity range =
    (key : Key) → IsKeyOf table key
    → is_key_in range (bytes_of_key key) ≡ is_key entity (entity_of key)

-- the range is that of the entity of a key, where that is the key of a good table with a period
abbrev pub IsEntityRange : Table → Key → KeyRange → Type 0
IsEntityRange table key range =
    IsTable table.number table → (p : Period) → table.period ≡ Some p → IsKeyOf table key
    → IsRangeOf table (entity_of key) range
