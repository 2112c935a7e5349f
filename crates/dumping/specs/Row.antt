-- The lines that insert a row.
use Rattle.std.specs.Prelude.{ℕ, List, [], ◌∷◌, ◌++◌, ◌+◌, ◌&&◌, Bool, true, false, Option, Some, None, codes, if◌then◌else◌}
use Rattle.std.specs.List.{flat_map}
use Rattle.values.specs.declared.key.Key.{Key}
use Rattle.values.specs.declared.table.Table.{Table}
use Rattle.values.specs.declared.value.Value.{Value}
use Rattle.values.specs.KeyReading.{key_from}
use Rattle.values.specs.Log.{Row}
use Rattle.values.specs.Tables.{column_at}
use Rattle.statement.specs.Print.{line, next_text, value_text}
use Rattle.dump_steps.specs.Dump.{keys_of}
use Rattle.dump_steps.specs.Pieces.{is_set_apart, stand_in}
use Rattle.dumping.specs.Deletion.{pair_of}
use Rattle.dumping.specs.DumpText.{is_long, where_text}
use Rattle.dumping.specs.Name.{named}

-- the value of a column in a line, which may be a short one
abbrev pub shown_value : (is_short : Bool) → Table → (column : ℕ) → Value → Value
shown_value is_short table column v =
    if is_short && is_set_apart table column v then stand_in (column_at table column) else v

-- the values from a column on
abbrev pub shown_row : (is_short : Bool) → Table → (column : ℕ) → Row → Row
shown_row is_short table column [] = []
shown_row is_short table column (v ∷ row) =
    shown_value is_short table column v ∷ shown_row is_short table (column + 1) row

-- values behind an open parenthesis
abbrev pub values_end : Row → List ℕ
values_end [] = codes ")\n"
values_end (v ∷ row) = value_text v ++ (flat_map next_text row ++ codes ")\n")

-- the line of an insertion, piece by piece
abbrev pub insert_line : (is_short : Bool) → Table → Row → List ℕ
insert_line is_short table row =
    named (codes "1: INSERT INTO ") table.name (codes " VALUES (")
    ++ values_end (shown_row is_short table 1 row)

-- the line of an update, piece by piece
abbrev pub update_line : Table → Key → (column : ℕ) → Value → List ℕ
update_line table key column v =
    named (codes "1: UPDATE ") table.name (codes " SET ")
    ++ (pair_of table column v ++ line (where_text table (keys_of table key).comparisons))

abbrev pub setting_text : Table → Key → (column : ℕ) → Value → List ℕ
setting_text table key column v =
    if is_set_apart table column v then update_line table key column v else []

-- the lines that set the texts of a row, from a column on
abbrev pub settings_text : Table → Key → (column : ℕ) → Row → List ℕ
settings_text table key column [] = []
settings_text table key column (v ∷ row) =
    setting_text table key column v ++ settings_text table key (column + 1) row

-- a short line, and the lines that set the texts
abbrev pub short_text : Table → Key → Row → List ℕ
short_text table key row = insert_line true table row ++ settings_text table key 1 row

abbrev pub pieces_text : Table → Option Key → Row → List ℕ
pieces_text table None row = []
pieces_text table (Some key) row = short_text table key row

-- the lines of a row whose key has these bytes
abbrev pub row_text : Table → (bytes : List ℕ) → Row → List ℕ
row_text table bytes row =
    if is_long table row then pieces_text table (key_from table bytes) row
    else insert_line false table row
