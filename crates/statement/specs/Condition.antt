-- Names of tables and columns by their numbers, which are 0 where there is none, and what is said
-- of columns.
use Rattle.std.specs.Prelude.{ℕ, List, [], ◌∷◌, ◌==◌, Some, None, Ok, Err, codes, if◌then◌else◌}
use Rattle.std.specs.Option.{unwrap_or}
use Rattle.values.specs.Tables.{Schema}
use Rattle.values.specs.declared.query.Comparison.{Comparison}
use Rattle.values.specs.declared.query.Keys.{Keys}
use Rattle.values.specs.declared.query.Operator.{Operator}
use Rattle.values.specs.declared.query.Operator.TheVariants.{Equal, Below, AtMost, Above, AtLeast}
use Rattle.values.specs.declared.query.Set.{Set}
use Rattle.values.specs.Names.{column_number}
use Rattle.values.specs.TableNumber.{table_number}
use Rattle.values.specs.Tables.{table_at}
use Rattle.tokens.specs.Token.{Read, ◌>>=◌}
use Rattle.statement.specs.Token.{next, symbol_at, word_at, name_at}
use Rattle.statement.specs.List.{list_at, enclosed_at}
use Rattle.statement.specs.Literal.{literal_at}

-- a table's number, or 0
abbrev pub table_of : Schema → List ℕ → ℕ
table_of schema name = unwrap_or (table_number schema name) 0

-- the number of a user column of a table, or 0
unfoldable pub column_of : Schema → ℕ → List ℕ → ℕ
column_of schema table name =
    elim (table_at schema table) [ None ↦ 0 | Some t ↦ unwrap_or (column_number t name) 0 ]

unfoldable pub table_name_at : Schema → List ℕ → Read ℕ
table_name_at schema bytes = do
  name ← name_at bytes
  Ok (table_of schema name.0, name.1)

abbrev pub or_equal : Operator → Operator → List ℕ → Operator × List ℕ
or_equal strict loose [] = (strict, [])
or_equal strict loose (b ∷ bytes) = if b == 61 then (loose, bytes) else (strict, b ∷ bytes)

abbrev pub operator_of : List ℕ → Read Operator
operator_of [] = Err []
operator_of (b ∷ bytes) =
    if b == 61 then Ok (Equal, bytes)
    else if b == 60 then Ok (or_equal Below AtMost bytes)
    else if b == 62 then Ok (or_equal Above AtLeast bytes)
    else Err (b ∷ bytes)

unfoldable pub operator_at : List ℕ → Read Operator
operator_at bytes = operator_of (next bytes)

module _ (schema : Schema) (table : ℕ) where
  unfoldable pub column_name_at : List ℕ → Read ℕ
  column_name_at bytes = do
    name ← name_at bytes
    Ok (column_of schema table name.0, name.1)

  unfoldable pub set_at : List ℕ → Read Set
  set_at bytes = do
    column ← column_name_at bytes
    rest ← symbol_at 61 column.1
    value ← literal_at rest
    Ok (record { column = column.0; value = value.0 }, value.1)

  unfoldable pub comparison_at : List ℕ → Read Comparison
  comparison_at bytes = do
    column ← column_name_at bytes
    operator ← operator_at column.1
    value ← literal_at operator.1
    Ok (record { column = column.0; operator = operator.0; value = value.0 }, value.1)

  unfoldable pub sets_at : List ℕ → Read (List Set)
  sets_at bytes = list_at (symbol_at 44) set_at bytes

  unfoldable pub comparisons_at : List ℕ → Read (List Comparison)
  comparisons_at bytes = list_at (word_at (codes "AND")) comparison_at bytes

  -- a column list
  unfoldable pub columns_at : List ℕ → Read (List ℕ)
  columns_at bytes = enclosed_at (symbol_at 44) column_name_at bytes

  -- the keys of the table that meet a WHERE; all of them where there is none
  unfoldable pub keys_at : List ℕ → Read Keys
  keys_at bytes = elim (word_at (codes "WHERE") bytes) [
    | Err _ ↦ Ok (record { table = table; comparisons = [] }, bytes)
    | Ok rest ↦ comparisons_at rest >>= λ x. Ok (record { table = table; comparisons = x.0 }, x.1)
  ]
