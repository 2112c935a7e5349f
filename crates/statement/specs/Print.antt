-- The text of each reply.
use Rattle.std.specs.Prelude.{ℕ, List, [], ◌∷◌, ◌++◌, ◌==◌, Option, Some, None, true, false, length, codes, decimal, if◌then◌else◌}
use Rattle.std.specs.List.{flat_map}
use Rattle.std.specs.Fmt.{signed_decimal}
use Rattle.values.specs.declared.value.Value.{Value}
use Rattle.values.specs.declared.value.Value.TheVariants.{Int, Text, Bool as Truth, Null}
use Rattle.values.specs.declared.query.Shown.{Shown}
use Rattle.values.specs.declared.refusal.Refusal.{Refusal}
use Rattle.values.specs.declared.refusal.Refusal.TheVariants.{Syntax, NoTable, BadRow, NoTransaction, InTransaction, DuplicateKey, Conflict, ClockEnd, TooManyWrites, Memory, NoSession, LineTooLong, JournalFull, Overlap, BadPeriod, TransactionsOpen}
use Rattle.values.specs.Log.{Row}
use Rattle.steps.specs.declared.step.Listing.{Listing}
use Rattle.steps.specs.declared.step.Listing.TheVariants.{Rows, Periods}
use Rattle.steps.specs.declared.step.Reply.{Reply}
use Rattle.steps.specs.declared.step.Reply.TheVariants.{Begun, Inserted, Updated, Deleted, Shown as Shows, Committed, RolledBack, Altered, Done, Refused}

-- each line ends with a line feed
abbrev pub line : List ℕ → List ℕ
line text = text ++ 10 ∷ []

-- a label and a number
abbrev pub numbered : List ℕ → ℕ → List ℕ
numbered label n = label ++ line (decimal n)

-- a quote is doubled
abbrev pub quoted_byte : ℕ → List ℕ
quoted_byte b = if b == 39 then 39 ∷ 39 ∷ [] else b ∷ []

abbrev pub quoted : List ℕ → List ℕ
quoted text = flat_map quoted_byte text

abbrev pub value_text : Value → List ℕ
value_text (Int n) = signed_decimal n
value_text (Text t) = codes "'" ++ (quoted t ++ codes "'")
value_text (Truth true) = codes "true"
value_text (Truth false) = codes "false"
value_text Null = codes "null"

-- a value after another one
abbrev pub next_text : Value → List ℕ
next_text v = codes ", " ++ value_text v

-- values in parentheses
abbrev pub values_text : List Value → List ℕ
values_text [] = codes "()"
values_text (v ∷ vs) = codes "(" ++ (value_text v ++ (flat_map next_text vs ++ codes ")"))

-- an end that has not come is printed as this
abbrev pub end_text : Option ℕ → List ℕ
end_text None = codes "forever"
end_text (Some instant) = decimal instant

abbrev pub row_line : Row → List ℕ
row_line row = line (values_text row)

abbrev pub shown_line : Shown → List ℕ
shown_line s =
    values_text s.row
    ++ (codes " from " ++ (decimal s.from ++ (codes " to " ++ line (end_text s.to))))

-- how many rows, and a line for each
abbrev pub listing_text : Listing → List ℕ
listing_text (Rows rows) = numbered (codes "rows ") (length rows) ++ flat_map row_line rows
listing_text (Periods shown) = numbered (codes "rows ") (length shown) ++ flat_map shown_line shown

abbrev pub refusal_text : Refusal → List ℕ
refusal_text (Syntax byte) = numbered (codes "E1 syntax at ") byte
refusal_text NoTable = line (codes "E2 no table")
refusal_text (BadRow column) = numbered (codes "E3 bad row at column ") column
refusal_text NoTransaction = line (codes "E4 no transaction")
refusal_text InTransaction = line (codes "E5 in transaction")
refusal_text (DuplicateKey key) = codes "E6 duplicate key " ++ line (values_text key.parts)
refusal_text (Conflict key instant) =
    codes "E7 conflict " ++ (values_text key.parts ++ numbered (codes " at ") instant)
refusal_text ClockEnd = line (codes "E8 clock end")
refusal_text TooManyWrites = line (codes "E9 too many writes")
refusal_text Memory = line (codes "E10 memory")
refusal_text NoSession = line (codes "E11 no session")
refusal_text LineTooLong = line (codes "E12 line too long")
refusal_text JournalFull = line (codes "E13 journal full")
refusal_text (Overlap key) = codes "E14 overlap " ++ line (values_text key.parts)
refusal_text BadPeriod = line (codes "E15 bad period")
refusal_text TransactionsOpen = line (codes "E16 transactions open")

abbrev pub reply_text : Reply → List ℕ
reply_text (Begun instant) = numbered (codes "begun ") instant
reply_text (Inserted n) = numbered (codes "inserted ") n
reply_text (Updated n) = numbered (codes "updated ") n
reply_text (Deleted n) = numbered (codes "deleted ") n
reply_text (Shows listing) = listing_text listing
reply_text (Committed None) = line (codes "committed nothing")
reply_text (Committed (Some instant)) = numbered (codes "committed ") instant
reply_text RolledBack = line (codes "rolled back")
reply_text Altered = line (codes "altered")
reply_text Done = line (codes "ok")
reply_text (Refused refusal) = refusal_text refusal
