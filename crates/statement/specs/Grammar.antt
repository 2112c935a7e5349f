-- The grammar of lines: which bytes may come, and what they say. A piece of a line is a relation
-- between the bytes from its start on and those after it.
use Rattle.std.specs.Prelude.{◌≡◌, ℕ, ◌<◌, ◌≤◌, ◌-◌, ◌^◌, ◌==◌, List, [], ◌∷◌, ◌++◌, Bool, true, false, Option, Some, None, ℤ, pos, neg_ℤ, ◌⊎◌, flat_map, length, codes, if◌then◌else◌, IsUtf8}
use Rattle.std.specs.Char.{is_ascii_digit}
use Rattle.std.specs.Str.Parse.{digits_value}
use Rattle.values.specs.declared.value.Value.{Value}
use Rattle.values.specs.declared.value.Value.TheVariants.{Int, Text, Bool as Truth, Null}
use Rattle.values.specs.Tables.{Schema}
use Rattle.values.specs.declared.table.ColumnType.{ColumnType}
use Rattle.values.specs.declared.table.ColumnType.TheVariants.{Int as IsInt, Text as IsText, Varchar as IsVarchar, Boolean as IsBoolean}
use Rattle.values.specs.declared.query.Comparison.{Comparison}
use Rattle.values.specs.declared.query.Form.{Form}
use Rattle.values.specs.declared.query.Form.TheVariants.{Plain, AsOf, FromTo, Between}
use Rattle.values.specs.declared.query.Operator.{Operator}
use Rattle.values.specs.declared.query.Operator.TheVariants.{Equal, Below, AtMost, Above, AtLeast}
use Rattle.values.specs.declared.query.Set.{Set}
use Rattle.values.specs.declared.key.Key.{Key}
use Rattle.values.specs.declared.period.Span.{Span}
use Rattle.values.specs.Log.{Row}
use Rattle.values.specs.Names.{same_name}
use Rattle.values.specs.Commits.{max_instant}
use Rattle.statement.specs.declared.line.Written.{Written}
use Rattle.statement.specs.declared.line.Written.TheVariants.{Clock, SplitKey, SplitTime, Migrate, Session, AddColumn}
use Rattle.statement.specs.declared.statement.Statement.{Statement}
use Rattle.statement.specs.declared.statement.Statement.TheVariants.{Begin, Insert, Update, Delete, Select, Commit, Rollback}
use Rattle.statement.specs.declared.portion.Portion.{Portion}
use Rattle.tokens.specs.Run.{AllBytes, Ends, Run}
use Rattle.tokens.specs.Word.{is_name_byte}
use Rattle.tokens.specs.Name.{is_name}
use Rattle.tokens.specs.Digit.{capped_from}
use Rattle.statement.specs.Token.{is_blank}
use Rattle.statement.specs.Condition.{table_of, column_of}
use Rattle.statement.specs.Portion.{is_period}

abbrev pub Piece : Type 1
Piece = List ℕ → List ℕ → Type 0

-- one piece, and then another
infixr 5 ◌⋯◌
abbrev pub ◌⋯◌ : Piece → Piece → Piece
(P ⋯ Q) bytes rest = (between : List ℕ) × (P bytes between × Q between rest)

-- one piece or another
infixr 4 ◌∣◌
abbrev pub ◌∣◌ : Piece → Piece → Piece
(P ∣ Q) bytes rest = P bytes rest ⊎ Q bytes rest

abbrev pub Empty : Piece
Empty bytes rest = bytes ≡ rest

-- spaces and tabs, or none
pub record Blanks (bytes rest : List ℕ) : Type 0 where
  pub blanks : List ℕ
  pub are_blank : AllBytes is_blank blanks
  pub spelled : bytes ≡ blanks ++ rest

-- these bytes
abbrev pub Exactly : List ℕ → Piece
Exactly text bytes rest = bytes ≡ text ++ rest

abbrev pub Symbol : ℕ → Piece
Symbol symbol = Blanks ⋯ Exactly (symbol ∷ [])

-- a word of the grammar, in any case
abbrev pub Word : List ℕ → Piece
Word word =
    Blanks ⋯ (λ bytes rest. (written : List ℕ)
    × (Run is_name_byte written bytes rest × (same_name word written ≡ true)))

abbrev pub Name : List ℕ → Piece
Name name = Blanks ⋯ (λ bytes rest. Run is_name_byte name bytes rest × (is_name name ≡ true))

-- digits whose number is at most so great
pub record Digits (most n : ℕ) (bytes rest : List ℕ) : Type 0 where
  pub digits : List ℕ
  pub some : 0 < length digits
  pub run : Run is_ascii_digit digits bytes rest
  pub value : digits_value 10 digits ≡ n
  pub within : n ≤ most

abbrev pub Number : ℤ → Piece
Number z = (λ bytes rest. (n : ℕ) × ((z ≡ pos n) × Digits (2 ^ 63 - 1) n bytes rest))
    ∣ (λ bytes rest. (n : ℕ)
    × ((z ≡ neg_ℤ (pos n)) × (Exactly (45 ∷ []) ⋯ Digits (2 ^ 63) n) bytes rest))

-- between its quotes a text has each of its own quotes twice
abbrev pub doubled : List ℕ → List ℕ
doubled text = flat_map (λ b. if b == 39 then 39 ∷ 39 ∷ [] else b ∷ []) text

abbrev pub is_quote : ℕ → Bool
is_quote b = b == 39

pub record Quoted (text bytes rest : List ℕ) : Type 0 where
  pub utf8 : IsUtf8 text
  pub ends : Ends is_quote rest
  pub spelled : bytes ≡ 39 ∷ (doubled text ++ 39 ∷ rest)

abbrev pub Literal : Value → Piece
Literal (Int z) = Blanks ⋯ Number z
Literal (Text text) = Blanks ⋯ Quoted text
Literal (Truth true) = Word (codes "TRUE")
Literal (Truth false) = Word (codes "FALSE")
Literal Null = Word (codes "NULL")

-- one item or more, with a separator between any two
abbrev pub Listed : {A : Type 0} → Piece → (A → Piece) → List A → Piece
Listed separator item [] = λ bytes rest. ⊥
Listed separator item (x ∷ []) = item x
Listed separator item (x ∷ y ∷ xs) = item x ⋯ separator ⋯ Listed separator item (y ∷ xs)

abbrev pub Enclosed : {A : Type 0} → (A → Piece) → List A → Piece
Enclosed item xs = Symbol 40 ⋯ Listed (Symbol 44) item xs ⋯ Symbol 41

abbrev pub IsRow : Row → Piece
IsRow row = Enclosed Literal row

abbrev pub IsOperator : Operator → Piece
IsOperator Equal = Symbol 61
IsOperator Below = Blanks ⋯ (λ bytes rest. Exactly (60 ∷ []) bytes rest × Ends (λ b. b == 61) rest)
IsOperator AtMost = Blanks ⋯ Exactly (60 ∷ 61 ∷ [])
IsOperator Above = Blanks ⋯ (λ bytes rest. Exactly (62 ∷ []) bytes rest × Ends (λ b. b == 61) rest)
IsOperator AtLeast = Blanks ⋯ Exactly (62 ∷ 61 ∷ [])

abbrev pub IsInstant : ℕ → Piece
IsInstant n = Blanks ⋯ Digits max_instant n

-- digits with their number, where 65,535 stands for all that are greater
pub record CappedDigits (n : ℕ) (bytes rest : List ℕ) : Type 0 where
  pub digits : List ℕ
  pub some : 0 < length digits
  pub run : Run is_ascii_digit digits bytes rest
  pub value : capped_from 0 digits ≡ n

abbrev pub IsSize : ℕ → Piece
IsSize n = Symbol 40 ⋯ (Blanks ⋯ CappedDigits n) ⋯ Symbol 41

-- the type of a column
abbrev pub IsType : ColumnType → Piece
IsType IsInt = Word (codes "INT") ∣ Word (codes "INTEGER") ∣ Word (codes "BIGINT")
IsType IsText = Word (codes "TEXT")
IsType IsBoolean = Word (codes "BOOLEAN")
IsType (IsVarchar n) = Word (codes "VARCHAR") ⋯ IsSize n

-- which versions a SELECT asks for
abbrev pub IsForm : Form → Piece
IsForm Plain = Empty
IsForm (AsOf instant) =
    Word (codes "FOR") ⋯ Word (codes "SYSTEM_TIME") ⋯ Word (codes "AS") ⋯ Word (codes "OF")
    ⋯ IsInstant instant
IsForm (FromTo start end) =
    Word (codes "FOR") ⋯ Word (codes "SYSTEM_TIME") ⋯ Word (codes "FROM") ⋯ IsInstant start
    ⋯ Word (codes "TO") ⋯ IsInstant end
IsForm (Between start end) =
    Word (codes "FOR") ⋯ Word (codes "SYSTEM_TIME") ⋯ Word (codes "BETWEEN") ⋯ IsInstant start
    ⋯ Word (codes "AND") ⋯ IsInstant end

abbrev pub IsNumber : ℤ → Piece
IsNumber z = Blanks ⋯ Number z

-- where a portion begins and ends, whichever is less
abbrev pub Bounds : Span → Piece
Bounds span = Word (codes "FROM") ⋯ IsNumber span.from ⋯ Word (codes "TO") ⋯ IsNumber span.to

module _ (schema : Schema) where
  -- a name, which is that of the table that has it, or of none
  abbrev pub IsTable : ℕ → Piece
  IsTable number bytes rest =
      (name : List ℕ) × (Name name bytes rest × (table_of schema name ≡ number))

  module _ (table : ℕ) where
    -- a name, which is that of the user column that has it, or of none
    abbrev pub IsColumn : ℕ → Piece
    IsColumn number bytes rest =
        (name : List ℕ) × (Name name bytes rest × (column_of schema table name ≡ number))

    abbrev pub IsSet : Set → Piece
    IsSet set = IsColumn set.column ⋯ Symbol 61 ⋯ Literal set.value

    abbrev pub IsComparison : Comparison → Piece
    IsComparison comparison =
        IsColumn comparison.column ⋯ IsOperator comparison.operator ⋯ Literal comparison.value

    abbrev pub IsColumnList : Option (List ℕ) → Piece
    IsColumnList None = Empty
    IsColumnList (Some columns) = Enclosed IsColumn columns

    abbrev pub IsWhere : List Comparison → Piece
    IsWhere [] = Empty
    IsWhere (c ∷ cs) = Word (codes "WHERE") ⋯ Listed (Word (codes "AND")) IsComparison (c ∷ cs)

    -- a name, and whether it is that of the table's period
    abbrev pub IsPeriod : Bool → Piece
    IsPeriod of_period bytes rest =
        (name : List ℕ) × (Name name bytes rest × (is_period schema table name ≡ of_period))

    -- the portion of application time that is changed, where there is one
    abbrev pub IsPortion : Option Portion → Piece
    IsPortion None = Empty
    IsPortion (Some portion) =
        Word (codes "FOR") ⋯ Word (codes "PORTION") ⋯ Word (codes "OF")
        ⋯ IsPeriod portion.of_period ⋯ Bounds portion.span

  abbrev pub IsStatement : Statement → Piece
  IsStatement Begin = Word (codes "BEGIN") ∣ Word (codes "START") ⋯ Word (codes "TRANSACTION")
  IsStatement Commit = Word (codes "COMMIT") ⋯ (Empty ∣ Word (codes "WORK"))
  IsStatement Rollback = Word (codes "ROLLBACK") ⋯ (Empty ∣ Word (codes "WORK"))
  IsStatement (Insert table columns rows) =
      Word (codes "INSERT") ⋯ Word (codes "INTO") ⋯ IsTable table ⋯ IsColumnList table columns
      ⋯ Word (codes "VALUES") ⋯ Listed (Symbol 44) IsRow rows
  IsStatement (Update keys portion sets) =
      Word (codes "UPDATE") ⋯ IsTable keys.table ⋯ IsPortion keys.table portion
      ⋯ Word (codes "SET") ⋯ Listed (Symbol 44) (IsSet keys.table) sets
      ⋯ IsWhere keys.table keys.comparisons
  IsStatement (Delete keys portion) =
      Word (codes "DELETE") ⋯ Word (codes "FROM") ⋯ IsTable keys.table
      ⋯ IsPortion keys.table portion ⋯ IsWhere keys.table keys.comparisons
  IsStatement (Select form keys) =
      Word (codes "SELECT") ⋯ Symbol 42 ⋯ Word (codes "FROM") ⋯ IsTable keys.table ⋯ IsForm form
      ⋯ IsWhere keys.table keys.comparisons

  -- a table, and values for its key
  abbrev pub IsKey : Key → Piece
  IsKey key = IsTable key.table ⋯ IsRow key.parts

  -- a statement, with or without a semicolon
  abbrev pub IsRequest : Statement → Piece
  IsRequest statement = IsStatement statement ⋯ (Empty ∣ Symbol 59) ⋯ Blanks

  -- a table, and a column that it gets
  abbrev pub IsAlteration : ℕ → List ℕ → ColumnType → Piece
  IsAlteration table name of =
      Word (codes "ALTER") ⋯ Word (codes "TABLE") ⋯ IsTable table ⋯ Word (codes "ADD")
      ⋯ Word (codes "COLUMN") ⋯ Name name ⋯ IsType of

  -- a line of no session: a split or a migration
  abbrev pub IsServiceLine : Written → List ℕ → Type 0
  IsServiceLine (SplitKey key) bytes =
      (Word (codes "SPLIT") ⋯ Symbol 58 ⋯ Word (codes "KEY") ⋯ IsKey key ⋯ Blanks) bytes []
  IsServiceLine (SplitTime key instant) bytes =
      (Word (codes "SPLIT") ⋯ Symbol 58 ⋯ Word (codes "TIME") ⋯ IsKey key ⋯ Word (codes "AT")
      ⋯ IsInstant instant ⋯ Blanks) bytes []
  IsServiceLine Migrate bytes = (Word (codes "MIGRATE") ⋯ Symbol 58 ⋯ Blanks) bytes []
  IsServiceLine (Clock instant) bytes = ⊥
  IsServiceLine (Session session statement) bytes = ⊥
  IsServiceLine (AddColumn session table name of) bytes = ⊥

  -- a line of a script, up to its end
  abbrev pub IsLine : Written → List ℕ → Type 0
  IsLine (Clock instant) bytes =
      (Word (codes "CLOCK") ⋯ Symbol 58 ⋯ IsInstant instant ⋯ Blanks) bytes []
  IsLine (SplitKey key) bytes = IsServiceLine (SplitKey key) bytes
  IsLine (SplitTime key instant) bytes = IsServiceLine (SplitTime key instant) bytes
  IsLine Migrate bytes = IsServiceLine Migrate bytes
  IsLine (Session session statement) bytes =
      ((Blanks ⋯ Digits (2 ^ 63 - 1) session) ⋯ Symbol 58 ⋯ IsRequest statement) bytes []
  IsLine (AddColumn session table name of) bytes =
      ((Blanks ⋯ Digits (2 ^ 63 - 1) session) ⋯ Symbol 58 ⋯ IsAlteration table name of
      ⋯ (Empty ∣ Symbol 59) ⋯ Blanks) bytes []

  -- a line that this session sends: its statement without its number, or a line of no session
  abbrev pub IsServedLine : ℕ → Written → List ℕ → Type 0
  IsServedLine session (Clock instant) bytes = ⊥
  IsServedLine session (SplitKey key) bytes = IsServiceLine (SplitKey key) bytes
  IsServedLine session (SplitTime key instant) bytes = IsServiceLine (SplitTime key instant) bytes
  IsServedLine session Migrate bytes = IsServiceLine Migrate bytes
  IsServedLine session (Session number statement) bytes =
      (number ≡ session) × IsRequest statement bytes []
  IsServedLine session (AddColumn number table name of) bytes = ⊥

-- a blank line, or a comment
abbrev pub IsNothing : List ℕ → Type 0
IsNothing bytes = Blanks bytes [] ⊎ ((rest : List ℕ) × (Blanks ⋯ Exactly (45 ∷ 45 ∷ [])) bytes rest)
