-- Reading a key back from its bytes.
use Rattle.std.specs.Prelude.{◌≡◌, ℕ, ◌-◌, List, [], ◌∷◌, ◌==◌, ◌&&◌, Bool, true, false, Option, Some, None, ℤ, pos, negsuc, length, take, drop, nat_le, nat_lt, is_none, if◌then◌else◌, All}
use Rattle.std.specs.Int.{w64, from_be_bytes}
use Rattle.std.specs.Str.{is_utf8}
use Rattle.values.specs.declared.value.Value.{Value}
use Rattle.values.specs.declared.value.Value.TheVariants.{Int, Text, Bool as Truth}
use Rattle.values.specs.declared.table.ColumnType.{ColumnType}
use Rattle.values.specs.declared.table.ColumnType.TheVariants.{Int as IsInt, Text as IsText, Varchar as IsVarchar, Boolean as IsBoolean}
use Rattle.values.specs.declared.table.Table.{Table}
use Rattle.values.specs.declared.key.Key.{Key}
use Rattle.values.specs.Tables.{column_at}
use Rattle.values.specs.Fit.{key_fault}
use Rattle.values.specs.KeyEncoding.{bytes_of_key}
use Rattle.values.specs.RowEncoding.{IsHeld}
use Rattle.values.specs.RowReading.{Parsed, after}

-- a key that a row of the table may have
pub record IsKeyOf (table : Table) (key : Key) : Type 0 where
  pub own : key.table ≡ table.number
  pub fits : key_fault table key.parts ≡ None
  pub held : All IsHeld key.parts

-- the table's key with these bytes
pub record IsKeyWith (table : Table) (bytes : List ℕ) (key : Key) : Type 0 where
  pub is_key : IsKeyOf table key
  pub bytes_are : bytes_of_key key ≡ bytes

-- no key of the table has these bytes
abbrev pub NoKeyWith : Table → List ℕ → Type 0
NoKeyWith table bytes = (key : Key) → IsKeyOf table key → bytes_of_key key ≡ bytes → ⊥

-- the whole number at a place among those of 64 bits: the place less 2^63
abbrev pub number_at : ℕ → ℤ
number_at n =
    if nat_lt n 9223372036854775808 then negsuc (9223372036854775807 - n)
    else pos (n - 9223372036854775808)

-- a text up to its end mark, after a zero or not
abbrev pub text_from : Bool → List ℕ → Parsed (List ℕ)
text_from zero_before [] = None
text_from false (b ∷ bs) = if b == 0 then text_from true bs else after (b ∷ []) (text_from false bs)
text_from true (b ∷ bs) =
    if b == 0 then Some ([], bs)
    else if b == 255 then after (0 ∷ []) (text_from false bs)
    else None

unfoldable pub number_from : List ℕ → Parsed Value
number_from bytes =
    if nat_le 8 (length bytes)
    then Some (Int (number_at (from_be_bytes w64 (take 8 bytes))), drop 8 bytes)
    else None

unfoldable pub name_from : List ℕ → Parsed Value
name_from bytes = elim (text_from false bytes) [
  | None ↦ None
  | Some x ↦ if is_utf8 x.0 then Some (Text x.0, x.1) else None
]

abbrev pub truth_from : List ℕ → Parsed Value
truth_from [] = None
truth_from (b ∷ bs) =
    if b == 0 then Some (Truth false, bs) else if b == 1 then Some (Truth true, bs) else None

unfoldable pub part_from : ColumnType → List ℕ → Parsed Value
part_from IsInt bytes = number_from bytes
part_from IsText bytes = name_from bytes
part_from (IsVarchar n) bytes = name_from bytes
part_from IsBoolean bytes = truth_from bytes

unfoldable pub column_from : Table → ℕ → List ℕ → Parsed Value
column_from table n bytes = elim (column_at table n) [
  | None ↦ None
  | Some column ↦ part_from column.of bytes
]

abbrev pub parts_from : Table → List ℕ → List ℕ → Parsed (List Value)
parts_from table [] bytes = Some ([], bytes)
parts_from table (n ∷ ns) bytes = elim (column_from table n bytes) [
  | None ↦ None
  | Some x ↦ after (x.0 ∷ []) (parts_from table ns x.1)
]

abbrev pub is_empty : List ℕ → Bool
is_empty [] = true
is_empty (b ∷ bs) = false

-- parts with nothing behind them, which fit
abbrev pub whole_key : Table → Parsed (List Value) → Option Key
whole_key table None = None
whole_key table (Some (parts, rest)) =
    if is_empty rest && is_none (key_fault table parts)
    then Some (record { table = table.number; parts = parts })
    else None

abbrev pub key_from : Table → List ℕ → Option Key
key_from table [] = None
key_from table (b ∷ bytes) =
    if b == table.number then whole_key table (parts_from table table.key bytes) else None
