-- The type of a column, as it is written.
use Rattle.std.specs.Prelude.{ℕ, List, Ok, Err, codes}
use Rattle.values.specs.declared.table.ColumnType.{ColumnType}
use Rattle.values.specs.declared.table.ColumnType.TheVariants.{Int, Text, Varchar, Boolean}
use Rattle.tokens.specs.Token.{Read, symbol_at, ◌>>=◌}
use Rattle.tokens.specs.Word.{word_at}
use Rattle.tokens.specs.Digit.{capped_at}

module _ (next : List ℕ → List ℕ) where
  -- "(" digits ")"
  unfoldable pub size_at : List ℕ → Read ℕ
  size_at bytes = do
    opened ← symbol_at next 40 bytes
    n ← capped_at next opened
    closed ← symbol_at next 41 n.1
    Ok (n.0, closed)

  -- after VARCHAR
  unfoldable pub varchar_at : List ℕ → Read ColumnType
  varchar_at bytes = do
    n ← size_at bytes
    Ok (Varchar n.0, n.1)

  unfoldable pub type_at : List ℕ → Read ColumnType
  type_at bytes = elim (word_at next (codes "INT") bytes) [
    | Ok rest ↦ Ok (Int, rest)
    | Err _ ↦ elim (word_at next (codes "INTEGER") bytes) [
      | Ok rest ↦ Ok (Int, rest)
      | Err _ ↦ elim (word_at next (codes "BIGINT") bytes) [
        | Ok rest ↦ Ok (Int, rest)
        | Err _ ↦ elim (word_at next (codes "TEXT") bytes) [
          | Ok rest ↦ Ok (Text, rest)
          | Err _ ↦ elim (word_at next (codes "BOOLEAN") bytes) [
            | Ok rest ↦ Ok (Boolean, rest)
            | Err _ ↦ elim (word_at next (codes "VARCHAR") bytes) [
              | Ok rest ↦ varchar_at rest
              | Err at ↦ Err at
            ]
          ]
        ]
      ]
    ]
  ]
