-- Whether rows, comparisons and new values fit a table, and which column a refusal names: from 1, or 0 for a width or a name.
use Rattle.std.specs.Prelude.{ℕ, List, [], ◌∷◌, ◌++◌, ◌+◌, Option, Some, None, Bool, true, false, nat_le, nat_lt, ◌||◌, ◌&&◌, not, if◌then◌else◌, length, ◌==◌, count_by}
use Rattle.std.specs.List.{list_any}
use Rattle.values.specs.declared.value.Value.{Value}
use Rattle.values.specs.declared.value.Value.TheVariants.{Int, Text, Bool as Truth, Null}
use Rattle.values.specs.declared.table.ColumnType.{ColumnType}
use Rattle.values.specs.declared.table.ColumnType.TheVariants.{Int as IsInt, Text as IsText, Varchar as IsVarchar, Boolean as IsBoolean}
use Rattle.values.specs.declared.table.Column.{Column}
use Rattle.values.specs.declared.table.Table.{Table}
use Rattle.values.specs.declared.query.Comparison.{Comparison}
use Rattle.values.specs.declared.query.Keys.{Keys}
use Rattle.values.specs.declared.query.Set.{Set}
use Rattle.values.specs.Tables.{column_at, is_key_column, is_fixed_column}
use Rattle.values.specs.Log.{Row}

abbrev pub is_line_break : ℕ → Bool
is_line_break b = (b == 10) || (b == 13)

-- the byte goes on with a character of UTF-8 (RFC 3629, section 3)
abbrev pub continues : ℕ → Bool
continues b = nat_le 128 b && nat_lt b 192

abbrev pub character_count : List ℕ → ℕ
character_count text = count_by (λ b. not (continues b)) text

-- the bytes that a text has at most
abbrev pub longest_text : ℕ
longest_text = 1000

-- in a key
abbrev pub longest_key_text : ℕ
longest_key_text = 200

-- the bytes that a text may have, in a key and elsewhere
abbrev pub text_limit : Bool → ℕ
text_limit in_key = if in_key then longest_key_text else longest_text

-- a text on one line, of at most so many bytes
abbrev pub fits_text : ℕ → List ℕ → Bool
fits_text most text = nat_le (length text) most && not (list_any is_line_break text)

-- a value of the type, whose text has at most so many bytes
abbrev pub fits_type : ℕ → ColumnType → Value → Bool
fits_type most IsInt (Int _) = true
fits_type most IsText (Text t) = fits_text most t
fits_type most (IsVarchar n) (Text t) = fits_text most t && nat_le (character_count t) n
fits_type most IsBoolean (Truth _) = true
fits_type most _ _ = false

-- the value fits the column, which is one of the key's or not
abbrev pub fits_value : Bool → Column → Value → Bool
fits_value in_key column Null = not (column.not_null || in_key)
fits_value in_key column value = fits_type (text_limit in_key) column.of value

-- the first column, numbered from n, whose value does not fit
abbrev pub first_fault : Table → ℕ → List Column → Row → Option ℕ
first_fault table n (c ∷ cs) (v ∷ vs) =
    if fits_value (is_key_column table n) c v then first_fault table (n + 1) cs vs else Some n
first_fault table n _ _ = None

-- the width comes first
abbrev pub row_fault : Table → Row → Option ℕ
row_fault table row =
    if length table.columns == length row then first_fault table 1 table.columns row else Some 0

-- one fault or refusal, or where there is none the next
abbrev pub first_of : {A : Type 0} → Option A → Option A → Option A
first_of (Some n) other = Some n
first_of None other = other

-- the first fault of rows in turn
abbrev pub rows_fault : Table → List Row → Option ℕ
rows_fault table [] = None
rows_fault table (row ∷ rows) = first_of (row_fault table row) (rows_fault table rows)

-- the key column where its value does not fit
abbrev pub part_fault : Table → ℕ → Value → Option ℕ
part_fault table n v = elim (column_at table n) [
  | None ↦ Some 0
  | Some c ↦ if fits_value true c v then None else Some n
]

-- the first of them; the values stand in the key's order
abbrev pub parts_fault : Table → List ℕ → List Value → Option ℕ
parts_fault table (n ∷ ns) (v ∷ vs) = first_of (part_fault table n v) (parts_fault table ns vs)
parts_fault table _ _ = None

-- the width of a key comes first
abbrev pub key_fault : Table → List Value → Option ℕ
key_fault table parts =
    if length table.key == length parts then parts_fault table table.key parts else Some 0

-- a value that a column can be compared with, however long its own texts are
abbrev pub can_compare : ColumnType → Value → Bool
can_compare (IsVarchar n) v = fits_type longest_key_text IsText v
can_compare of v = fits_type longest_key_text of v

abbrev pub comparison_fault : Table → Comparison → Option ℕ
comparison_fault table c = elim (column_at table c.column) [
  | None ↦ Some 0
  | Some column ↦
      if is_key_column table c.column && can_compare column.of c.value then None
      else Some c.column
]

-- the first fault of comparisons in turn
abbrev pub comparisons_fault : Table → List Comparison → Option ℕ
comparisons_fault table [] = None
comparisons_fault table (c ∷ cs) = first_of (comparison_fault table c) (comparisons_fault table cs)

-- the name comes before the value: no column, or one that an earlier entry sets, is a fault of the name
abbrev pub set_fault : Table → List Set → Set → Option ℕ
set_fault table earlier s = elim (column_at table s.column) [
  | None ↦ Some 0
  | Some column ↦
      if list_any (λ e. e.column == s.column) earlier then Some 0
      else if is_fixed_column table s.column then Some s.column
      else if fits_value false column s.value then None
      else Some s.column
]

-- the first fault of what an UPDATE sets, after these entries
abbrev pub sets_fault : Table → List Set → List Set → Option ℕ
sets_fault table earlier [] = None
sets_fault table earlier (s ∷ sets) =
    first_of (set_fault table earlier s) (sets_fault table (earlier ++ s ∷ []) sets)

-- the first fault of an UPDATE: new values come before comparisons
abbrev pub update_fault : Table → Keys → List Set → Option ℕ
update_fault table keys sets =
    first_of (sets_fault table [] sets) (comparisons_fault table keys.comparisons)
