-- Reading the statements of a schema from the left.
use Rattle.std.specs.Prelude.{ℕ, List, [], ◌∷◌, ◌++◌, ◌||◌, Bool, true, false, Ok, Err, Option, Some, None, not, nat_le, if◌then◌else◌, length, codes, zero, suc}
use Rattle.values.specs.declared.table.ColumnType.{ColumnType}
use Rattle.values.specs.declared.table.ColumnType.TheVariants.{Int, Text, Varchar, Boolean}
use Rattle.rows.specs.declared.declaration.Mark.{Mark}
use Rattle.rows.specs.declared.declaration.Mark.TheVariants.{NotNull, PrimaryKey}
use Rattle.rows.specs.declared.declaration.Side.{Side}
use Rattle.rows.specs.declared.declaration.Side.TheVariants.{Start, End}
use Rattle.rows.specs.declared.declaration.PeriodNames.{PeriodNames}
use Rattle.rows.specs.declared.declaration.Entry.{Entry}
use Rattle.rows.specs.declared.declaration.Entry.TheVariants.{User, Generated, Period, Application, Key}
use Rattle.rows.specs.declared.declaration.Declaration.{Declaration}
use Rattle.tokens.specs.Token.{After, Read, ◌>>=◌}
use Rattle.rows.specs.SchemaToken.{next, symbol_at, is_word_at, after_word, word_at, name_at, digits_at}

-- what was read comes after these
abbrev pub prepend : {A : Type 0} → List A → Read (List A) → Read (List A)
prepend xs (Ok (ys, rest)) = Ok (xs ++ ys, rest)
prepend xs (Err at) = Err at

-- items with commas between them, at most n
abbrev pub list_at : {A : Type 0} → (List ℕ → Read A) → ℕ → List ℕ → Read (List A)
list_at item zero bytes = Err bytes
list_at item (suc n) bytes = do
  x ← item bytes
  elim (symbol_at 44 x.1) [
    | Err _ ↦ Ok (x.0 ∷ [], x.1)
    | Ok more ↦ prepend (x.0 ∷ []) (list_at item n more)
  ]

-- each takes a byte or more
unfoldable pub names_at : List ℕ → Read (List (List ℕ))
names_at bytes = list_at name_at (length bytes) bytes

-- "(" digits ")"
unfoldable pub size_at : List ℕ → Read ℕ
size_at bytes = do
  opened ← symbol_at 40 bytes
  n ← digits_at opened
  closed ← symbol_at 41 n.1
  Ok (n.0, closed)

unfoldable pub is_whole_number_at : List ℕ → Bool
is_whole_number_at bytes =
    is_word_at (codes "INT") bytes
    || is_word_at (codes "INTEGER") bytes
    || is_word_at (codes "BIGINT") bytes

-- VARCHAR "(" digits ")"
unfoldable pub varchar_at : List ℕ → Read ColumnType
varchar_at bytes = do
  word ← word_at (codes "VARCHAR") bytes
  n ← size_at word
  Ok (Varchar n.0, n.1)

unfoldable pub type_at : List ℕ → Read ColumnType
type_at bytes =
    if is_whole_number_at bytes then Ok (Int, after_word bytes)
    else if is_word_at (codes "TEXT") bytes then Ok (Text, after_word bytes)
    else if is_word_at (codes "BOOLEAN") bytes then Ok (Boolean, after_word bytes)
    else varchar_at bytes

-- NOT NULL
unfoldable pub not_null_at : List ℕ → After
not_null_at bytes = do
  negation ← word_at (codes "NOT") bytes
  word_at (codes "NULL") negation

-- PRIMARY KEY
unfoldable pub primary_key_at : List ℕ → After
primary_key_at bytes = do
  primary ← word_at (codes "PRIMARY") bytes
  word_at (codes "KEY") primary

unfoldable pub mark_at : List ℕ → Read Mark
mark_at bytes =
    if is_word_at (codes "NOT") bytes
    then (not_null_at bytes >>= (λ rest. Ok (NotNull, rest)))
    else (primary_key_at bytes >>= (λ rest. Ok (PrimaryKey, rest)))

unfoldable pub is_mark_at : List ℕ → Bool
is_mark_at bytes = is_word_at (codes "NOT") bytes || is_word_at (codes "PRIMARY") bytes

-- as many as come, at most n
abbrev pub marks_upto : ℕ → List ℕ → Read (List Mark)
marks_upto zero bytes = Ok ([], bytes)
marks_upto (suc n) bytes =
    if is_mark_at bytes
    then (mark_at bytes >>= (λ x. prepend (x.0 ∷ []) (marks_upto n x.1)))
    else Ok ([], bytes)

unfoldable pub marks_at : List ℕ → Read (List Mark)
marks_at bytes = marks_upto (length bytes) bytes

-- type {NOT NULL | PRIMARY KEY}
unfoldable pub user_at : List ℕ → List ℕ → Read Entry
user_at name bytes = do
  type ← type_at bytes
  marks ← marks_at type.1
  Ok (User (record { name = name; of = type.0; marks = marks.0 }), marks.1)

-- ["(" digits ")"]
unfoldable pub precision_at : List ℕ → Read (Option ℕ)
precision_at bytes = elim (symbol_at 40 bytes) [
  | Err _ ↦ Ok (None, bytes)
  | Ok _ ↦ (size_at bytes >>= (λ n. Ok (Some n.0, n.1)))
]

-- [NOT NULL]
unfoldable pub maybe_not_null_at : List ℕ → Read Bool
maybe_not_null_at bytes =
    if is_word_at (codes "NOT") bytes
    then (not_null_at bytes >>= (λ rest. Ok (true, rest)))
    else Ok (false, bytes)

-- START | END
unfoldable pub side_at : List ℕ → Read Side
side_at bytes =
    if is_word_at (codes "START") bytes then Ok (Start, after_word bytes)
    else (word_at (codes "END") bytes >>= (λ rest. Ok (End, rest)))

-- GENERATED ALWAYS AS ROW (START | END)
unfoldable pub row_side_at : List ℕ → Read Side
row_side_at bytes = do
  generated ← word_at (codes "GENERATED") bytes
  always ← word_at (codes "ALWAYS") generated
  «as» ← word_at (codes "AS") always
  row ← word_at (codes "ROW") «as»
  side_at row

-- TIMESTAMP ["(" digits ")"] [NOT NULL] GENERATED ALWAYS AS ROW (START | END) [NOT NULL]
unfoldable pub generated_at : List ℕ → List ℕ → Read Entry
generated_at name bytes = do
  timestamp ← word_at (codes "TIMESTAMP") bytes
  digits ← precision_at timestamp
  before ← maybe_not_null_at digits.1
  side ← row_side_at before.1
  after ← maybe_not_null_at side.1
  Ok (
    Generated (record {
      name = name;
      digits = digits.0;
      side = side.0;
      not_null_before = before.0;
      not_null_after = after.0;
    }),
    after.1,
  )

-- "(" name "," name ")"
unfoldable pub two_names_at : List ℕ → Read PeriodNames
two_names_at bytes = do
  opened ← symbol_at 40 bytes
  start ← name_at opened
  comma ← symbol_at 44 start.1
  end ← name_at comma
  closed ← symbol_at 41 end.1
  Ok (record { start = start.0; end = end.0 }, closed)

-- SYSTEM_TIME "(" name "," name ")"
unfoldable pub system_period_at : List ℕ → Read Entry
system_period_at bytes = do
  system_time ← word_at (codes "SYSTEM_TIME") bytes
  columns ← two_names_at system_time
  Ok (Period columns.0, columns.1)

-- name "(" name "," name ")"
unfoldable pub application_period_at : List ℕ → Read Entry
application_period_at bytes = do
  name ← name_at bytes
  columns ← two_names_at name.1
  Ok (Application (record { name = name.0; columns = columns.0 }), columns.1)

-- PERIOD FOR (SYSTEM_TIME | name) "(" name "," name ")"
unfoldable pub period_at : List ℕ → Read Entry
period_at bytes = do
  period ← word_at (codes "PERIOD") bytes
  for ← word_at (codes "FOR") period
  if is_word_at (codes "SYSTEM_TIME") for then system_period_at for else application_period_at for

-- WITHOUT OVERLAPS
unfoldable pub without_overlaps_at : List ℕ → After
without_overlaps_at bytes = do
  without ← word_at (codes "WITHOUT") bytes
  word_at (codes "OVERLAPS") without

-- [WITHOUT OVERLAPS] after several names, and nothing after one
unfoldable pub overlaps_at : Bool → List ℕ → Read Bool
overlaps_at several bytes =
    if several
    then (
    if is_word_at (codes "WITHOUT") bytes
    then (without_overlaps_at bytes >>= (λ rest. Ok (true, rest)))
    else Ok (false, bytes)
    )
    else Ok (false, bytes)

-- PRIMARY KEY "(" name {"," name} ["," name WITHOUT OVERLAPS] ")"
unfoldable pub key_at : List ℕ → Read Entry
key_at bytes = do
  primary_key ← primary_key_at bytes
  opened ← symbol_at 40 primary_key
  names ← names_at opened
  overlaps ← overlaps_at (nat_le 2 (length names.0)) names.1
  closed ← symbol_at 41 overlaps.1
  Ok (Key (record { names = names.0; without_overlaps = overlaps.0 }), closed)

-- an entry that begins with a column's name
unfoldable pub column_at : List ℕ → Read Entry
column_at bytes = do
  name ← name_at bytes
  if is_word_at (codes "TIMESTAMP") name.1 then generated_at name.0 name.1
      else user_at name.0 name.1

unfoldable pub entry_at : List ℕ → Read Entry
entry_at bytes =
    if is_word_at (codes "PERIOD") bytes then period_at bytes
    else if is_word_at (codes "PRIMARY") bytes then key_at bytes
    else column_at bytes

unfoldable pub entries_at : List ℕ → Read (List Entry)
entries_at bytes = list_at entry_at (length bytes) bytes

-- "(" entry {"," entry} ")"
unfoldable pub body_at : List ℕ → Read (List Entry)
body_at bytes = do
  opened ← symbol_at 40 bytes
  entries ← entries_at opened
  closed ← symbol_at 41 entries.1
  Ok (entries.0, closed)

-- WITH SYSTEM VERSIONING
unfoldable pub versioning_at : List ℕ → After
versioning_at bytes = do
  with ← word_at (codes "WITH") bytes
  system ← word_at (codes "SYSTEM") with
  word_at (codes "VERSIONING") system

-- CREATE TABLE name "(" entry {"," entry} ")" WITH SYSTEM VERSIONING
unfoldable pub create_at : List ℕ → Read Declaration
create_at bytes = do
  create ← word_at (codes "CREATE") bytes
  table ← word_at (codes "TABLE") create
  name ← name_at table
  entries ← body_at name.1
  versioning ← versioning_at entries.1
  Ok (record { name = name.0; entries = entries.0 }, versioning)

-- nothing comes next
abbrev pub is_nothing : List ℕ → Bool
is_nothing [] = true
is_nothing (b ∷ bs) = false

unfoldable pub is_end_at : List ℕ → Bool
is_end_at bytes = is_nothing (next bytes)

-- [";"] at the end, or ";" and what comes after it
unfoldable pub more_at : List ℕ → Read Bool
more_at bytes =
    if is_end_at bytes then Ok (false, bytes)
    else (symbol_at 59 bytes >>= (λ rest. Ok (not (is_end_at rest), rest)))

-- statements with semicolons between them, at most n
abbrev pub creates_upto : ℕ → List ℕ → Read (List Declaration)
creates_upto zero bytes = Err bytes
creates_upto (suc n) bytes = do
  create ← create_at bytes
  more ← more_at create.1
  if more.0 then prepend (create.0 ∷ []) (creates_upto n more.1) else Ok (create.0 ∷ [], more.1)

unfoldable pub creates_at : List ℕ → Read (List Declaration)
creates_at bytes = creates_upto (length bytes) bytes
