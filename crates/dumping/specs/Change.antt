-- What is written of a change.
use Rattle.std.specs.Prelude.{ℕ, List, [], ◌∷◌, ◌-◌, ◌==◌, ◌&&◌, Bool, false, Option, Some, None, is_some, length, max, nat_eq, slice_get, slice_set, if◌then◌else◌}
use Rattle.std.specs.Cmp.Lexicographic.{pointwise}
use Rattle.values.specs.Event.{Event}
use Rattle.values.specs.declared.key.Key.{Key}
use Rattle.values.specs.declared.table.Table.{Table}
use Rattle.values.specs.KeyReading.{key_from}
use Rattle.values.specs.Log.{Row}
use Rattle.values.specs.Tables.{Schema, table_at}
use Rattle.dump_steps.specs.Widths.{Widths, width_at}
use Rattle.dumping.specs.Column.{columns_text}
use Rattle.dumping.specs.Deletion.{delete_line}
use Rattle.dumping.specs.Row.{row_text}

-- the table of a key, whose bytes begin with the table's number
abbrev pub table_of : Schema → (bytes : List ℕ) → Option Table
table_of tables [] = None
table_of tables (b ∷ bytes) = table_at tables b

-- ---- deletions

-- an event is of the key, and leaves it a row
abbrev pub leaves_row : Option Event → (bytes : List ℕ) → Bool
leaves_row None bytes = false
leaves_row (Some e) bytes = pointwise nat_eq e.key bytes && is_some e.row

-- the event before a place, where there is one
abbrev pub event_before : List Event → (place : ℕ) → Option Event
event_before es place = if place == 0 then None else slice_get es (place - 1)

abbrev pub delete_key : Table → Option Key → List ℕ
delete_key table None = []
delete_key table (Some key) = delete_line table key

abbrev pub delete_text : Schema → (bytes : List ℕ) → List ℕ
delete_text tables bytes = elim (table_of tables bytes) [
  | None ↦ []
  | Some table ↦ delete_key table (key_from table bytes)
]

-- a key that had a row is deleted
abbrev pub deletion_text : Schema → List Event → (place : ℕ) → List ℕ
deletion_text tables es place = elim (slice_get es place) [
  | None ↦ []
  | Some e ↦ if leaves_row (event_before es place) e.key then delete_text tables e.key else []
]

-- ---- insertions

abbrev pub insert_row : Schema → (bytes : List ℕ) → Option Row → List ℕ
insert_row tables bytes None = []
insert_row tables bytes (Some row) = elim (table_of tables bytes) [
  | None ↦ []
  | Some table ↦ row_text table bytes row
]

abbrev pub insertion_text : Schema → List Event → (place : ℕ) → List ℕ
insertion_text tables es place = elim (slice_get es place) [
  | None ↦ []
  | Some e ↦ insert_row tables e.key e.row
]

-- ---- columns that rows have and their tables have not

abbrev pub with_width : Widths → (number width : ℕ) → Widths
with_width w number width = slice_set w (number - 1) (max (width_at w number) width)

abbrev pub widen_text : Schema → Widths → (bytes : List ℕ) → Option Row → List ℕ
widen_text tables w bytes None = []
widen_text tables w bytes (Some row) = elim (table_of tables bytes) [
  | None ↦ []
  | Some table ↦ columns_text table (width_at w table.number) (length row)
]

abbrev pub widen : Schema → Widths → (bytes : List ℕ) → Option Row → Widths
widen tables w bytes None = w
widen tables w bytes (Some row) = elim (table_of tables bytes) [
  | None ↦ w
  | Some table ↦ with_width w table.number (length row)
]

abbrev pub widening_text : Schema → List Event → Widths → (place : ℕ) → List ℕ
widening_text tables es w place = elim (slice_get es place) [
  | None ↦ []
  | Some e ↦ widen_text tables w e.key e.row
]

abbrev pub widened : Schema → List Event → Widths → (place : ℕ) → Widths
widened tables es w place = elim (slice_get es place) [
  | None ↦ w
  | Some e ↦ widen tables w e.key e.row
]
