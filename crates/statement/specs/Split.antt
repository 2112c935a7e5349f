-- Lines that split the node at a key.
use Rattle.std.specs.Prelude.{List, ℕ, Ok, Err, codes}
use Rattle.values.specs.Tables.{Schema}
use Rattle.values.specs.declared.key.Key.{Key}
use Rattle.statement.specs.declared.line.Written.{Written}
use Rattle.statement.specs.declared.line.Written.TheVariants.{SplitKey, SplitTime}
use Rattle.tokens.specs.Token.{Read, ◌>>=◌}
use Rattle.statement.specs.Token.{symbol_at, word_at, end_at}
use Rattle.statement.specs.Literal.{row_at}
use Rattle.statement.specs.Condition.{table_name_at}
use Rattle.statement.specs.Statement.{instant_at}

module _ (schema : Schema) where
  -- a table, and values for its key
  unfoldable pub key_at : List ℕ → Read Key
  key_at bytes = do
    table ← table_name_at schema bytes
    parts ← row_at table.1
    Ok (record { table = table.0; parts = parts.0 }, parts.1)

  unfoldable pub split_key_at : List ℕ → Read Written
  split_key_at bytes = do
    key ← key_at bytes
    rest ← end_at key.1
    Ok (SplitKey key.0, rest)

  unfoldable pub split_time_at : List ℕ → Read Written
  split_time_at bytes = do
    key ← key_at bytes
    rest ← word_at (codes "AT") key.1
    instant ← instant_at rest
    rest ← end_at instant.1
    Ok (SplitTime key.0 instant.0, rest)

  -- at a key or in time, by the word after the colon
  unfoldable pub kind_at : List ℕ → Read Written
  kind_at bytes = elim (word_at (codes "KEY") bytes) [
    | Ok rest ↦ split_key_at rest
    | Err _ ↦ elim (word_at (codes "TIME") bytes) [
      | Ok rest ↦ split_time_at rest
      | Err at ↦ Err at
    ]
  ]

  -- after the word SPLIT
  unfoldable pub split_at : List ℕ → Read Written
  split_at bytes = do
    rest ← symbol_at 58 bytes
    kind_at rest
