-- The text of a table with all its versions, as CSV.
use Rattle.std.specs.Prelude.{◌≡◌, ℕ, List, [], ◌∷◌, ◌++◌, true, false, Option, Some, Vec, map, codes, decimal}
use Rattle.std.specs.List.{flat_map}
use Rattle.std.specs.Fmt.{signed_decimal}
use Rattle.csv.specs.Writing.{default_writer, row_text, writer_setup, fields_written, has_written, text_written}
use Rattle.csv.specs.declared.writer.Writer.{Writer}
use Rattle.values.specs.declared.value.Value.{Value}
use Rattle.values.specs.declared.value.Value.TheVariants.{Int, Text, Bool as Truth, Null}
use Rattle.values.specs.declared.table.Table.{Table}
use Rattle.values.specs.declared.query.Shown.{Shown}
use Rattle.statement.specs.Print.{end_text}
use Rattle.interchange.specs.Load.{Record}

-- the field of a value: of NULL it is empty
abbrev pub field_of : Value → List ℕ
field_of (Int n) = signed_decimal n
field_of (Text t) = t
field_of (Truth true) = codes "true"
field_of (Truth false) = codes "false"
field_of Null = []

-- the names of the user columns, then of the row's start and of its end
abbrev pub header_of : Table → Record
header_of table = map (λ column. column.name) table.columns ++ table.row_start ∷ table.row_end ∷ []

-- a version: its row, its start and its end, which is `forever` where none has come
abbrev pub version_of : Shown → Record
version_of s = map field_of s.row ++ decimal s.from ∷ end_text s.to ∷ []

-- the line of a version, as csv writes it
abbrev pub version_text : Shown → List ℕ
version_text s = row_text default_writer (version_of s)

-- the header and all versions
abbrev pub export_text : Table → List Shown → List ℕ
export_text table shown = row_text default_writer (header_of table) ++ flat_map version_text shown

-- a writer of csv into memory, with its defaults and between two records
pub record IsReady {A : Type 0} (w : Writer (Vec ℕ A)) : Type 0 where
  pub setup : writer_setup w ≡ default_writer
  pub fields : fields_written w ≡ 0
  pub wrote : has_written w ≡ false

-- the text that it was given
abbrev pub held : {A : Type 0} → Writer (Vec ℕ A) → Option (List ℕ)
held w = text_written (λ v. Some v.items) w
