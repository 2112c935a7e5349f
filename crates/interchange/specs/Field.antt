-- The values that fields of CSV write.
use Rattle.std.specs.Prelude.{ℕ, List, ◌==◌, true, false, Option, Some, None, ℤ, length, codes, if◌then◌else◌}
use Rattle.std.specs.Str.{is_utf8}
use Rattle.values.specs.declared.value.Value.{Value}
use Rattle.values.specs.declared.value.Value.TheVariants.{Int, Text, Bool as Truth, Null}
use Rattle.values.specs.declared.table.ColumnType.{ColumnType}
use Rattle.values.specs.declared.table.ColumnType.TheVariants.{Int as IsInt, Text as IsText, Varchar as IsVarchar, Boolean as IsBoolean}
use Rattle.values.specs.Names.{same_name}
use Rattle.statement.specs.Literal.{number_here}

-- what was read, where no byte is left
abbrev pub whole : {A : Type 0} → Option (A × List ℕ) → Option A
whole None = None
whole (Some x) = if length x.1 == 0 then Some x.0 else None

-- a whole number of 64 bits: digits, or a minus and digits
abbrev pub number_of : List ℕ → Option ℤ
number_of field = whole (number_here field)

-- a value that no column of the type holds: a field reads as it where it writes none of the type
abbrev pub misfit_of : ColumnType → Value
misfit_of IsInt = Truth false
misfit_of IsText = Truth false
misfit_of (IsVarchar n) = Truth false
misfit_of IsBoolean = Int (ℤ.pos 0)

abbrev pub number_value : List ℕ → Value
number_value field = elim (number_of field) [ Some n ↦ Int n | None ↦ misfit_of IsInt ]

abbrev pub truth_value : List ℕ → Value
truth_value field =
    if same_name field (codes "true") then Truth true
    else if same_name field (codes "false") then Truth false
    else misfit_of IsBoolean

abbrev pub text_value : List ℕ → Value
text_value field = if is_utf8 field then Text field else misfit_of IsText

-- an empty field is the empty text, and of the other types NULL
abbrev pub field_value : ColumnType → List ℕ → Value
field_value IsInt field = if length field == 0 then Null else number_value field
field_value IsText field = text_value field
field_value (IsVarchar n) field = text_value field
field_value IsBoolean field = if length field == 0 then Null else truth_value field
