-- ALTER TABLE, which a session asks on a line of a script.
use Rattle.std.specs.Prelude.{ℕ, List, Ok, Err, codes}
use Rattle.values.specs.Tables.{Schema}
use Rattle.values.specs.declared.table.ColumnType.{ColumnType}
use Rattle.statement.specs.declared.line.Written.{Written}
use Rattle.statement.specs.declared.line.Written.TheVariants.{AddColumn, Session}
use Rattle.tokens.specs.Token.{Read, ◌>>=◌}
use Rattle.tokens.specs.TypeName.{type_at as type_after}
use Rattle.statement.specs.Token.{next, word_at, name_at, end_at, after_semicolon}
use Rattle.statement.specs.Condition.{table_name_at}
use Rattle.statement.specs.Statement.{statement_at}

abbrev pub type_at : List ℕ → Read ColumnType
type_at bytes = type_after next bytes

module _ (schema : Schema) (session : ℕ) where
  -- after the word ALTER
  unfoldable pub alter_at : List ℕ → Read Written
  alter_at bytes = do
    rest ← word_at (codes "TABLE") bytes
    table ← table_name_at schema rest
    rest ← word_at (codes "ADD") table.1
    rest ← word_at (codes "COLUMN") rest
    name ← name_at rest
    of ← type_at name.1
    rest ← end_at (after_semicolon of.1)
    Ok (AddColumn session table.0 name.0 of.0, rest)

  -- a statement, up to the line's end
  unfoldable pub request_at : List ℕ → Read Written
  request_at bytes = do
    statement ← statement_at schema bytes
    rest ← end_at (after_semicolon statement.1)
    Ok (Session session statement.0, rest)

  -- ALTER, or a statement
  unfoldable pub asked_at : List ℕ → Read Written
  asked_at bytes = elim (word_at (codes "ALTER") bytes) [
    | Ok rest ↦ alter_at rest
    | Err _ ↦ request_at bytes
  ]
