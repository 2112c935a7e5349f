-- What is kept of the fields of a record: enough to tell what each of them writes in a table.
use Rattle.std.specs.Prelude.{ℕ, ◌+◌, ◌==◌, ◌&&◌, ◌||◌, not, nat_le, nat_lt, List, [], ◌∷◌, ◌++◌, Bool, true, length, map, max, take, if◌then◌else◌}
use Rattle.std.specs.List.{fold, list_all}
use Rattle.values.specs.declared.table.Table.{Table}
use Rattle.values.specs.Fit.{longest_text}
use Rattle.values.specs.Tables.{widest}
use Rattle.interchange.specs.Load.{Record}

-- the bytes that a field may have that is a text, or the name of one of the table's columns
abbrev pub longest_field : Table → ℕ
longest_field table = fold (λ most column. max most (length column.name)) longest_text table.columns

-- zeros alone, or a minus and then zeros alone
abbrev pub is_zeros : List ℕ → Bool
is_zeros [] = true
is_zeros (b ∷ bs) = ((b == 45) || (b == 48)) && list_all (λ c. c == 48) bs

-- the bytes that are kept of a field at most: one more than a text or a name has, and 20, since a
-- number with 20 digits of which the first is not zero is over 64 bits
abbrev pub most_kept : ℕ → ℕ
most_kept longest = longest + 21

-- the next byte of a field, of which this is kept, is kept too: the field may still be a text or a
-- name; or it is longer, the byte is not one more leading zero, and there are not too many others
abbrev pub is_kept : ℕ → List ℕ → ℕ → Bool
is_kept longest kept byte =
    nat_le (length kept) longest
    || (not (is_zeros kept && (byte == 48)) && nat_lt (length kept) (most_kept longest))

-- what is kept of a field and its next byte
abbrev pub keep_byte : ℕ → List ℕ → ℕ → List ℕ
keep_byte longest kept byte = if is_kept longest kept byte then kept ++ byte ∷ [] else kept

-- what is kept of a field
abbrev pub kept_field : ℕ → List ℕ → List ℕ
kept_field longest field = fold (keep_byte longest) [] field

-- the fields that are kept of a record at most: one more than a table has columns
abbrev pub most_fields : ℕ
most_fields = widest + 1

-- what is kept of the fields of a record
abbrev pub kept_fields : Table → Record → Record
kept_fields table fields = take most_fields (map (kept_field (longest_field table)) fields)
