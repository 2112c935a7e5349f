-- Which declarations are good tables: by what occurs once, what occurs twice, and how many there
-- are.
use Rattle.std.specs.Prelude.{◌≡◌, ℕ, ◌+◌, ◌≤◌, ◌↔◌, ◌⊎◌, List, [], ◌∷◌, ◌++◌, Bool, true, false, Option, Some, None, length, map}
use Rattle.std.specs.List.{count_by}
use Rattle.std.specs.Option.{ForSome}
use Rattle.std.specs.Char.{to_ascii_lowercase}
use Rattle.values.specs.declared.table.ColumnType.{ColumnType}
use Rattle.values.specs.declared.table.ColumnType.TheVariants.{Int, Varchar}
use Rattle.values.specs.declared.period.Period.{Period as TablePeriod}
use Rattle.values.specs.declared.table.Column.{Column}
use Rattle.values.specs.declared.table.Table.{Table}
use Rattle.values.specs.Each.{Each}
use Rattle.values.specs.Fit.{longest_text}
use Rattle.values.specs.Tables.{widest}
use Rattle.values.specs.TableRules.{most_digits, most_key_columns, most_tables}
use Rattle.rows.specs.declared.declaration.Mark.TheVariants.{NotNull, PrimaryKey}
use Rattle.rows.specs.declared.declaration.Side.{Side}
use Rattle.rows.specs.declared.declaration.Side.TheVariants.{Start, End}
use Rattle.rows.specs.declared.declaration.UserColumn.{UserColumn}
use Rattle.rows.specs.declared.declaration.GeneratedColumn.{GeneratedColumn}
use Rattle.rows.specs.declared.declaration.PeriodNames.{PeriodNames}
use Rattle.rows.specs.declared.declaration.ApplicationPeriod.{ApplicationPeriod}
use Rattle.rows.specs.declared.declaration.KeyClause.{KeyClause}
use Rattle.rows.specs.declared.declaration.Entry.{Entry}
use Rattle.rows.specs.declared.declaration.Entry.TheVariants.{User, Generated, Period, Application, Key}
use Rattle.rows.specs.declared.declaration.Declaration.{Declaration}

-- the element is somewhere in the list
abbrev pub IsElement : {A : Type 0} → A → List A → Type 0
IsElement {A = A} x xs = (before : List A) × ((after : List A) × (xs ≡ before ++ x ∷ after))

-- this element is so, and no other is
pub record IsTheOne {A : Type 0} (P : A → Type 0) (x : A) (xs : List A) : Type 0 where
  pub before : List A
  pub after : List A
  pub place : xs ≡ before ++ x ∷ after
  pub is_so : P x
  pub none_before : Each (λ y. P y → ⊥) before
  pub none_after : Each (λ y. P y → ⊥) after

-- no two of the elements, at two places, stand so to one another
abbrev pub NoTwo : {A : Type 0} → (A → A → Type 0) → List A → Type 0
NoTwo {A = A} R xs =
    (before between after : List A) (x y : A)
    → xs ≡ before ++ x ∷ (between ++ y ∷ after) → R x y → ⊥

-- names are the same in any case
abbrev pub SameName : List ℕ → List ℕ → Type 0
SameName a b = map to_ascii_lowercase a ≡ map to_ascii_lowercase b

abbrev pub is_user : Entry → Bool
is_user (User c) = true
is_user (Generated g) = false
is_user (Period p) = false
is_user (Application p) = false
is_user (Key clause) = false

-- a ROW START or a ROW END column
abbrev pub IsGenerated : Side → Entry → Type 0
IsGenerated side (Generated g) = g.side ≡ side
IsGenerated side (User c) = ⊥
IsGenerated side (Period p) = ⊥
IsGenerated side (Application p) = ⊥
IsGenerated side (Key clause) = ⊥

abbrev pub IsPeriod : Entry → Type 0
IsPeriod (Period p) = Unit {0}
IsPeriod (User c) = ⊥
IsPeriod (Generated g) = ⊥
IsPeriod (Application p) = ⊥
IsPeriod (Key clause) = ⊥

abbrev pub IsApplication : Entry → Type 0
IsApplication (Application p) = Unit {0}
IsApplication (User c) = ⊥
IsApplication (Generated g) = ⊥
IsApplication (Period p) = ⊥
IsApplication (Key clause) = ⊥

-- the one period of application time, or none
abbrev pub HasApplication : List Entry → Option ApplicationPeriod → Type 0
HasApplication entries None = Each (λ e. IsApplication e → ⊥) entries
HasApplication entries (Some p) = IsTheOne IsApplication (Application p) entries

-- a key is given by a clause, and by each PRIMARY KEY that marks a column
abbrev pub GivesKeys : Entry → Type 0
GivesKeys (Key clause) = Unit {0}
GivesKeys (User c) = IsElement PrimaryKey c.marks
GivesKeys (Generated g) = ⊥
GivesKeys (Period p) = ⊥
GivesKeys (Application p) = ⊥

abbrev pub GivesOneKey : Entry → KeyClause → Type 0
GivesOneKey (Key clause) given = clause ≡ given
GivesOneKey (User c) given =
    (record { names = c.name ∷ []; without_overlaps = false } ≡ given)
    × IsTheOne (λ mark. mark ≡ PrimaryKey) PrimaryKey c.marks
GivesOneKey (Generated g) given = ⊥
GivesOneKey (Period p) given = ⊥
GivesOneKey (Application p) given = ⊥

-- a key WITHOUT OVERLAPS of the period: after the entity's columns it has the period's start, where
-- the clause has the period's name
pub record HasNoOverlaps (p : ApplicationPeriod) (clause : KeyClause) (key : List (List ℕ)) : Type 0 where
  pub entity : List (List ℕ)
  pub name : List ℕ
  pub without_overlaps : clause.without_overlaps ≡ true
  pub given : clause.names ≡ entity ++ name ∷ []
  pub of_period : SameName p.name name
  pub ends : key ≡ entity ++ p.columns.start ∷ []

-- the names of the key's columns
abbrev pub IsKeyOf : Option ApplicationPeriod → KeyClause → List (List ℕ) → Type 0
IsKeyOf None clause key = (clause.without_overlaps ≡ false) × (clause.names ≡ key)
IsKeyOf (Some p) clause key = HasNoOverlaps p clause key

-- the column, or the period of application time, is declared under the name
abbrev pub Declares : Entry → List ℕ → Type 0
Declares (User c) name = c.name ≡ name
Declares (Generated g) name = g.name ≡ name
Declares (Application p) name = p.name ≡ name
Declares (Period p) name = ⊥
Declares (Key clause) name = ⊥

-- two columns of one name, or a column and a period of application time
abbrev pub ShareAName : Entry → Entry → Type 0
ShareAName e f = (a : List ℕ) × ((b : List ℕ) × (Declares e a × (Declares f b × SameName a b)))

-- a user column has the name
abbrev pub HasUserColumn : List Entry → List ℕ → Type 0
HasUserColumn entries name = (c : UserColumn) × (IsElement (User c) entries × SameName c.name name)

-- a user column of whole numbers has the name
abbrev pub HasIntColumn : List Entry → List ℕ → Type 0
HasIntColumn entries name =
    (c : UserColumn) × (IsElement (User c) entries × (SameName c.name name × (c.of ≡ Int)))

-- the period is between two columns of whole numbers, of which the end is none of the key's: so it
-- is not the start, which is one
pub record ApplicationIsGood (entries : List Entry) (key : List (List ℕ)) (p : ApplicationPeriod) : Type 0 where
  pub from_int : HasIntColumn entries p.columns.start
  pub to_int : HasIntColumn entries p.columns.end
  pub end_outside : Each (λ name. SameName p.columns.end name → ⊥) key

-- VARCHAR has 1 to 1,000 characters
abbrev pub TypeIsGood : ColumnType → Type 0
TypeIsGood (Varchar n) = (1 ≤ n) × (n ≤ longest_text)
TypeIsGood _ = Unit {0}

-- TIMESTAMP has no more digits than it may
abbrev pub DigitsAreGood : Option ℕ → Type 0
DigitsAreGood None = Unit {0}
DigitsAreGood (Some n) = n ≤ most_digits

-- what is in one entry: its number in range, and NOT NULL not repeated
abbrev pub EntryIsGood : Entry → Type 0
EntryIsGood (User c) = TypeIsGood c.of × NoTwo (λ a b. (a ≡ NotNull) × (b ≡ NotNull)) c.marks
EntryIsGood (Generated g) =
    DigitsAreGood g.digits × (g.not_null_before ≡ true → g.not_null_after ≡ true → ⊥)
EntryIsGood (Period p) = Unit {0}
EntryIsGood (Application p) = Unit {0}
EntryIsGood (Key clause) = Unit {0}

-- a declaration that makes a table, but for the other tables
pub record TableIsGood (d : Declaration) : Type 0 where
  pub start : GeneratedColumn
  pub end : GeneratedColumn
  pub period : PeriodNames
  pub application : Option ApplicationPeriod
  pub giver : Entry
  pub clause : KeyClause
  pub key : List (List ℕ)
  pub one_start : IsTheOne (IsGenerated Start) (Generated start) d.entries
  pub one_end : IsTheOne (IsGenerated End) (Generated end) d.entries
  pub one_period : IsTheOne IsPeriod (Period period) d.entries
  pub period_from_start : SameName start.name period.start
  pub period_to_end : SameName end.name period.end
  pub few_applications : HasApplication d.entries application
  pub application_is_good : ForSome application (ApplicationIsGood d.entries key)
  pub one_giver : IsTheOne GivesKeys giver d.entries
  pub one_key : GivesOneKey giver clause
  pub key_is : IsKeyOf application clause key
  -- the grammar gives it one name at least
  pub few_in_key : length key ≤ most_key_columns
  pub key_differs : NoTwo SameName key
  pub key_of_columns : Each (HasUserColumn d.entries) key
  pub some_columns : 1 ≤ count_by is_user d.entries
  pub few_columns : count_by is_user d.entries ≤ widest
  pub columns_differ : NoTwo ShareAName d.entries
  pub entries_are_good : Each EntryIsGood d.entries

-- the period of application time has the column
abbrev pub IsOfPeriod : Option ApplicationPeriod → List ℕ → Type 0
IsOfPeriod None name = ⊥
IsOfPeriod (Some p) name = SameName p.columns.start name ⊎ SameName p.columns.end name

-- a user column as it is declared, which takes no NULL where a mark says so, or where it is one of
-- the period of application time
pub record IsColumnOf (application : Option ApplicationPeriod) (u : UserColumn) (c : Column) : Type 0 where
  pub named : c.name ≡ u.name
  pub of_type : c.of ≡ u.of
  pub marked : (c.not_null ≡ true) ↔ (IsElement NotNull u.marks ⊎ IsOfPeriod application u.name)

-- the user columns in the order in which they stand, the generated columns left out
abbrev pub AreColumnsOf : Option ApplicationPeriod → List Entry → List Column → Type 0
AreColumnsOf p [] [] = Unit {0}
AreColumnsOf p [] (c ∷ cs) = ⊥
AreColumnsOf p (User u ∷ entries) [] = ⊥
AreColumnsOf p (User u ∷ entries) (c ∷ cs) = IsColumnOf p u c × AreColumnsOf p entries cs
AreColumnsOf p (Generated g ∷ entries) cs = AreColumnsOf p entries cs
AreColumnsOf p (Period q ∷ entries) cs = AreColumnsOf p entries cs
AreColumnsOf p (Application q ∷ entries) cs = AreColumnsOf p entries cs
AreColumnsOf p (Key clause ∷ entries) cs = AreColumnsOf p entries cs

-- the column with a number, from 1, has the name
pub record IsNumberOf (columns : List Column) (name : List ℕ) (number : ℕ) : Type 0 where
  pub before : List Column
  pub column : Column
  pub after : List Column
  pub place : columns ≡ before ++ column ∷ after
  pub counted : number ≡ length before + 1
  pub named : SameName column.name name

abbrev pub AreNumbersOf : List Column → List (List ℕ) → List ℕ → Type 0
AreNumbersOf columns [] [] = Unit {0}
AreNumbersOf columns [] (number ∷ numbers) = ⊥
AreNumbersOf columns (name ∷ names) [] = ⊥
AreNumbersOf columns (name ∷ names) (number ∷ numbers) =
    IsNumberOf columns name number × AreNumbersOf columns names numbers

-- the period of application time, by the numbers of its columns
pub record IsPeriodOf (columns : List Column) (p : ApplicationPeriod) (q : TablePeriod) : Type 0 where
  pub named : q.name ≡ p.name
  pub starts : IsNumberOf columns p.columns.start q.from
  pub ends : IsNumberOf columns p.columns.end q.to

abbrev pub HasPeriodOf : List Column → Option ApplicationPeriod → Option TablePeriod → Type 0
HasPeriodOf columns None None = Unit {0}
HasPeriodOf columns None (Some q) = ⊥
HasPeriodOf columns (Some p) None = ⊥
HasPeriodOf columns (Some p) (Some q) = IsPeriodOf columns p q

-- the table that a good declaration makes
pub record IsTableOf (d : Declaration) (number : ℕ) (t : Table) : Type 0 where
  pub good : TableIsGood d
  pub numbered : t.number ≡ number
  pub named : t.name ≡ d.name
  pub columns_are : AreColumnsOf good.application d.entries t.columns
  pub key_is : AreNumbersOf t.columns good.key t.key
  pub starts : t.row_start ≡ good.start.name
  pub ends : t.row_end ≡ good.end.name
  pub period_is : HasPeriodOf t.columns good.application t.period

-- the tables in order, numbered from this number on
abbrev pub AreTablesOf : ℕ → List Declaration → List Table → Type 0
AreTablesOf number [] [] = Unit {0}
AreTablesOf number [] (t ∷ ts) = ⊥
AreTablesOf number (d ∷ ds) [] = ⊥
AreTablesOf number (d ∷ ds) (t ∷ ts) = IsTableOf d number t × AreTablesOf (number + 1) ds ts

-- declarations that make tables beside one another
pub record TablesAreGood (ds : List Declaration) : Type 0 where
  pub few : length ds ≤ most_tables
  pub names_differ : NoTwo (λ d e. SameName d.name e.name) ds
  pub tables_are_good : Each TableIsGood ds

-- the first of them that makes none
pub record IsFirstBad (ds : List Declaration) (n : ℕ) : Type 0 where
  pub before : List Declaration
  pub bad : Declaration
  pub after : List Declaration
  pub place : ds ≡ before ++ bad ∷ after
  pub number : n ≡ length before + 1
  pub good_before : TablesAreGood before
  pub bad_here : TablesAreGood (before ++ bad ∷ []) → ⊥
