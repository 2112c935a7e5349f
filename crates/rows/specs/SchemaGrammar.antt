-- The grammar of schemas: relations between what a text says, the text, and what comes after it.
-- They know nothing of reading.
use Rattle.std.specs.Prelude.{◌≡◌, ℕ, ◌≤◌, List, [], ◌∷◌, ◌++◌, ◌==◌, ◌⊎◌, Bool, true, false, Option, Some, None, nat_le, length, not, codes}
use Rattle.std.specs.Char.{is_ascii_digit}
use Rattle.values.specs.declared.table.ColumnType.{ColumnType}
use Rattle.values.specs.declared.table.ColumnType.TheVariants.{Int, Text, Varchar, Boolean}
use Rattle.rows.specs.declared.declaration.Mark.{Mark}
use Rattle.rows.specs.declared.declaration.Mark.TheVariants.{NotNull, PrimaryKey}
use Rattle.rows.specs.declared.declaration.Side.{Side}
use Rattle.rows.specs.declared.declaration.Side.TheVariants.{Start, End}
use Rattle.rows.specs.declared.declaration.PeriodNames.{PeriodNames}
use Rattle.rows.specs.declared.declaration.Entry.{Entry}
use Rattle.rows.specs.declared.declaration.Entry.TheVariants.{User, Generated, Period, Application, Key}
use Rattle.rows.specs.declared.declaration.Declaration.{Declaration}
use Rattle.values.specs.Names.{same_name}
use Rattle.tokens.specs.Run.{AllBytes, Ends}
use Rattle.tokens.specs.Word.{is_name_byte}
use Rattle.tokens.specs.Name.{is_name}
use Rattle.rows.specs.SchemaToken.{is_separator, number_from}

-- a value, a text, and what comes after the piece of it that says the value
abbrev pub Says : Type 0 → Type 1
Says A = A → List ℕ → List ℕ → Type 0

abbrev pub is_on_the_line : ℕ → Bool
is_on_the_line b = not (b == 10)

-- what is between tokens: separators, comments with the end of their line, and a comment that
-- the text ends
pub data Piece : Type 0 where
  blank : ℕ → Piece
  comment : List ℕ → Piece
  last_comment : List ℕ → Piece

abbrev pub Gap : List Piece → List ℕ → List ℕ → Type 0
Gap [] bytes rest = bytes ≡ rest
Gap (blank b ∷ gap) bytes rest =
    (more : List ℕ) × ((bytes ≡ b ∷ more) × ((is_separator b ≡ true) × Gap gap more rest))
Gap (comment text ∷ gap) bytes rest =
    (more : List ℕ)
    × ((bytes ≡ 45 ∷ 45 ∷ (text ++ 10 ∷ more))
    × (AllBytes is_on_the_line text × Gap gap more rest))
Gap (last_comment text ∷ gap) bytes rest =
    (bytes ≡ 45 ∷ 45 ∷ text) × (AllBytes is_on_the_line text × (rest ≡ []))

-- no separator and no comment comes first
abbrev pub BeginsToken : List ℕ → Type 0
BeginsToken [] = Unit {0}
BeginsToken (b ∷ []) = is_separator b ≡ false
BeginsToken (b ∷ c ∷ bs) = (is_separator b ≡ false) × ((b ≡ 45 → c ≡ 45 → ⊥))

-- the text from its next token on
pub record IsNext (bytes at : List ℕ) : Type 0 where
  pub gap : List Piece
  pub skipped : Gap gap bytes at
  pub begins : BeginsToken at

pub record Symbol (symbol : ℕ) (value : Unit {0}) (bytes rest : List ℕ) : Type 0 where
  pub next : IsNext bytes (symbol ∷ rest)

-- letters, digits and underscores, as many as come
pub record Letters (name bytes rest : List ℕ) : Type 0 where
  pub next : IsNext bytes (name ++ rest)
  pub are_letters : AllBytes is_name_byte name
  pub as_many : Ends is_name_byte rest

-- a word of the grammar, in any case
pub record Word (word : List ℕ) (value : Unit {0}) (bytes rest : List ℕ) : Type 0 where
  pub name : List ℕ
  pub letters : Letters name bytes rest
  pub spelled : same_name word name ≡ true

pub record Name (name bytes rest : List ℕ) : Type 0 where
  pub letters : Letters name bytes rest
  pub fits : is_name name ≡ true

-- digits, as many as come
pub record Digits (n : ℕ) (bytes rest : List ℕ) : Type 0 where
  pub digits : List ℕ
  pub next : IsNext bytes (digits ++ rest)
  pub some : 1 ≤ length digits
  pub are_digits : AllBytes is_ascii_digit digits
  pub as_many : Ends is_ascii_digit rest
  pub number : number_from 0 digits ≡ n

-- one after the other
infixl 10 ◌>>=◌
abbrev pub ◌>>=◌ : {A B : Type 0} → Says A → (A → Says B) → Says B
(R >>= K) y bytes rest = (x : _) × ((more : List ℕ) × (R x bytes more × K x y more rest))

-- nothing, which says a value
abbrev pub just : {A : Type 0} → A → Says A
just x y bytes rest = (x ≡ y) × (bytes ≡ rest)

-- either of two
infixl 9 ◌or◌
abbrev pub ◌or◌ : {A : Type 0} → Says A → Says A → Says A
(R or S) x bytes rest = R x bytes rest ⊎ S x bytes rest

-- one or more, with commas between them
abbrev pub Listed : {A : Type 0} → Says A → Says (List A)
Listed R [] bytes rest = ⊥
Listed R (x ∷ []) bytes rest = R x bytes rest
Listed R (x ∷ y ∷ ys) bytes rest =
    (after : List ℕ)
    × ((more : List ℕ)
    × (R x bytes after × (Symbol 44 tt after more × Listed R (y ∷ ys) more rest)))

-- as many as there are
abbrev pub Many : {A : Type 0} → Says A → Says (List A)
Many R [] bytes rest = bytes ≡ rest
Many R (x ∷ xs) bytes rest = (more : List ℕ) × (R x bytes more × Many R xs more rest)

-- "(" digits ")"
abbrev pub Size : Says ℕ
Size = do
  opened ← Symbol 40
  n ← Digits
  closed ← Symbol 41
  just n

abbrev pub TypeName : Says ColumnType
TypeName =
    (Word (codes "INT") >>= (λ x. just Int))
    or (Word (codes "INTEGER") >>= (λ x. just Int))
    or (Word (codes "BIGINT") >>= (λ x. just Int))
    or (Word (codes "TEXT") >>= (λ x. just Text))
    or (Word (codes "BOOLEAN") >>= (λ x. just Boolean))
    or (Word (codes "VARCHAR") >>= (λ x. Size >>= (λ n. just (Varchar n))))

abbrev pub NotNullWords : Says (Unit {0})
NotNullWords = do
  negation ← Word (codes "NOT")
  Word (codes "NULL")

abbrev pub PrimaryKeyWords : Says (Unit {0})
PrimaryKeyWords = do
  primary ← Word (codes "PRIMARY")
  Word (codes "KEY")

abbrev pub MarkWords : Says Mark
MarkWords = (NotNullWords >>= (λ x. just NotNull)) or (PrimaryKeyWords >>= (λ x. just PrimaryKey))

-- name type {NOT NULL | PRIMARY KEY}, after the name
abbrev pub UserEntry : List ℕ → Says Entry
UserEntry name = do
  of ← TypeName
  marks ← Many MarkWords
  just (User (record { name = name; of = of; marks = marks }))

abbrev pub Precision : Says (Option ℕ)
Precision = (Size >>= (λ n. just (Some n))) or just None

abbrev pub MaybeNotNull : Says Bool
MaybeNotNull = (NotNullWords >>= (λ x. just true)) or just false

abbrev pub RowSide : Says Side
RowSide = (Word (codes "START") >>= (λ x. just Start)) or (Word (codes "END") >>= (λ x. just End))

-- GENERATED ALWAYS AS ROW (START | END)
abbrev pub GeneratedAsRow : Says Side
GeneratedAsRow = do
  generated ← Word (codes "GENERATED")
  always ← Word (codes "ALWAYS")
  by ← Word (codes "AS")
  row ← Word (codes "ROW")
  RowSide

-- name TIMESTAMP ["(" digits ")"] [NOT NULL] GENERATED ALWAYS AS ROW (START | END) [NOT NULL],
-- after the name
abbrev pub GeneratedEntry : List ℕ → Says Entry
GeneratedEntry name = do
  timestamp ← Word (codes "TIMESTAMP")
  digits ← Precision
  before ← MaybeNotNull
  side ← GeneratedAsRow
  after ← MaybeNotNull
  just (Generated (record {
    name = name;
    digits = digits;
    side = side;
    not_null_before = before;
    not_null_after = after;
  }))

-- "(" name "," name ")"
abbrev pub TwoNames : Says PeriodNames
TwoNames = do
  opened ← Symbol 40
  start ← Name
  comma ← Symbol 44
  end ← Name
  closed ← Symbol 41
  just (record { start = start; end = end })

-- SYSTEM_TIME "(" name "," name ")"
abbrev pub SystemPeriodText : Says Entry
SystemPeriodText = do
  system_time ← Word (codes "SYSTEM_TIME")
  columns ← TwoNames
  just (Period columns)

-- name "(" name "," name ")"
abbrev pub ApplicationPeriodText : Says Entry
ApplicationPeriodText = do
  name ← Name
  columns ← TwoNames
  just (Application (record { name = name; columns = columns }))

-- PERIOD FOR (SYSTEM_TIME | name) "(" name "," name ")"
abbrev pub PeriodEntry : Says Entry
PeriodEntry = do
  period ← Word (codes "PERIOD")
  for ← Word (codes "FOR")
  SystemPeriodText or ApplicationPeriodText

abbrev pub WithoutOverlapsWords : Says (Unit {0})
WithoutOverlapsWords = do
  without ← Word (codes "WITHOUT")
  Word (codes "OVERLAPS")

-- [WITHOUT OVERLAPS] after several names, and nothing after one
abbrev pub MaybeOverlaps : Bool → Says Bool
MaybeOverlaps true = (WithoutOverlapsWords >>= (λ x. just true)) or just false
MaybeOverlaps false = just false

-- PRIMARY KEY "(" name {"," name} ["," name WITHOUT OVERLAPS] ")"
abbrev pub KeyEntry : Says Entry
KeyEntry = do
  primary_key ← PrimaryKeyWords
  opened ← Symbol 40
  names ← Listed Name
  overlaps ← MaybeOverlaps (nat_le 2 (length names))
  closed ← Symbol 41
  just (Key (record { names = names; without_overlaps = overlaps }))

abbrev pub ColumnEntry : Says Entry
ColumnEntry = Name >>= (λ name. GeneratedEntry name or UserEntry name)

abbrev pub EntryText : Says Entry
EntryText = PeriodEntry or KeyEntry or ColumnEntry

-- "(" entry {"," entry} ")"
abbrev pub Body : Says (List Entry)
Body = do
  opened ← Symbol 40
  entries ← Listed EntryText
  closed ← Symbol 41
  just entries

abbrev pub Versioning : Says (Unit {0})
Versioning = do
  with ← Word (codes "WITH")
  system ← Word (codes "SYSTEM")
  Word (codes "VERSIONING")

-- CREATE TABLE name "(" entry {"," entry} ")" WITH SYSTEM VERSIONING
abbrev pub CreateText : Says Declaration
CreateText = do
  create ← Word (codes "CREATE")
  table ← Word (codes "TABLE")
  name ← Name
  entries ← Body
  versioning ← Versioning
  just (record { name = name; entries = entries })

-- nothing but separators and comments
abbrev pub IsEnd : List ℕ → Type 0
IsEnd bytes = IsNext bytes []

-- create {";" create} [";"]
abbrev pub SchemaText : List Declaration → List ℕ → Type 0
SchemaText [] bytes = ⊥
SchemaText (d ∷ []) bytes =
    (after : List ℕ)
    × (CreateText d bytes after
    × (IsEnd after ⊎ ((more : List ℕ) × (Symbol 59 tt after more × IsEnd more))))
SchemaText (d ∷ e ∷ es) bytes =
    (after : List ℕ)
    × ((more : List ℕ)
    × (CreateText d bytes after × (Symbol 59 tt after more × SchemaText (e ∷ es) more)))
