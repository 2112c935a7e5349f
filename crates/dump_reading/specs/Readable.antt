-- Tables and a log whose dump can be read.
use Rattle.std.specs.Prelude.{◌≡◌, ℕ, ◌≤◌, List, [], ◌∷◌, ◌++◌, Option, false, true, map, IfSome}
use Rattle.std.specs.List.{AllByRecursion, list_any}
use Rattle.values.specs.declared.key.Key.{Key}
use Rattle.values.specs.declared.key.Transaction.{Transaction}
use Rattle.values.specs.declared.table.Column.{Column}
use Rattle.values.specs.declared.table.Table.{Table}
use Rattle.values.specs.Commits.{max_instant}
use Rattle.values.specs.Log.{Log, Net, Row}
use Rattle.values.specs.Names.{same_name}
use Rattle.values.specs.TableRules.{AreTables}
use Rattle.values.specs.Tables.{Schema}
use Rattle.tokens.specs.Name.{is_name}
use Rattle.tokens.specs.Run.{AllBytes}
use Rattle.tokens.specs.Word.{is_name_byte}
use Rattle.statement.specs.GrammarLaw.{ArePlain}

-- ---- names

-- a name as lines have it
pub record IsReadableName (name : List ℕ) : Type 0 where
  pub bytes : AllBytes is_name_byte name
  pub named : is_name name ≡ true

-- no two are the same, in any case
abbrev pub AreApart : List (List ℕ) → Type 0
AreApart [] = Unit {0}
AreApart (name ∷ names) = (list_any (same_name name) names ≡ false) × AreApart names

abbrev pub AreReadableNames : List (List ℕ) → Type 0
AreReadableNames names = AllByRecursion IsReadableName names × AreApart names

abbrev pub column_names : Table → List (List ℕ)
column_names table = map (λ c. c.name) table.columns

-- of the tables, and of the columns of each
pub record HaveReadableNames (tables : List Table) : Type 0 where
  pub own : AreReadableNames (map (λ t. t.name) tables)
  pub columns : AllByRecursion (λ t. AreReadableNames (column_names t)) tables

-- ---- tables

-- the later table is the earlier one with more columns, which may be NULL, or with none
pub record IsWithColumns (earlier later : Table) : Type 0 where
  pub more : List Column
  pub may_be_null : AllByRecursion (λ c. c.not_null ≡ false) more
  pub later_is : later ≡ record earlier { columns = earlier.columns ++ more }

abbrev pub AreWithColumns : (earlier later : List Table) → Type 0
AreWithColumns [] [] = Unit {0}
AreWithColumns [] (u ∷ us) = ⊥
AreWithColumns (t ∷ ts) [] = ⊥
AreWithColumns (t ∷ ts) (u ∷ us) = IsWithColumns t u × AreWithColumns ts us

pub record AreReadableTables (first last : Schema) : Type 0 where
  pub before : AreTables 1 first.tables
  pub after : AreTables 1 last.tables
  pub grown : AreWithColumns first.tables last.tables
  pub names : HaveReadableNames last.tables

-- ---- transactions

-- a table's key, and its row or none: their values can be printed
pub record IsReadableChange (key : Key) (row : Option Row) : Type 0 where
  pub of_table : 1 ≤ key.table
  pub plain_key : ArePlain key.parts
  pub plain_row : IfSome row ArePlain

abbrev pub AreReadableChanges : Net → Type 0
AreReadableChanges net = AllByRecursion (λ c. IsReadableChange c.0 c.1) net

pub record IsReadableTransaction (t : Transaction) : Type 0 where
  pub within : t.instant ≤ max_instant
  pub changes : AreReadableChanges t.net

abbrev pub IsReadableLog : Log → Type 0
IsReadableLog log = AllByRecursion IsReadableTransaction log
