-- Statements as they are written: names by their numbers, and rows in the order in which their
-- values stand.
use Rattle.std.specs.Prelude.{ℕ, List, Option, Some, None, Ok, Err, codes}
use Rattle.values.specs.Tables.{Schema}
use Rattle.values.specs.Commits.{max_instant}
use Rattle.values.specs.declared.query.Form.{Form}
use Rattle.values.specs.declared.query.Form.TheVariants.{Plain, AsOf, FromTo, Between}
use Rattle.statement.specs.declared.statement.Statement.{Statement}
use Rattle.statement.specs.declared.statement.Statement.TheVariants.{Begin, Insert, Update, Delete, Select, Commit, Rollback}
use Rattle.tokens.specs.Token.{Read, ◌>>=◌}
use Rattle.statement.specs.Token.{symbol_at, word_at, after_optional_word}
use Rattle.statement.specs.Literal.{digits_at, rows_at}
use Rattle.statement.specs.Condition.{table_name_at, columns_at, sets_at, keys_at}
use Rattle.statement.specs.Portion.{portion_at}

-- an instant, of which this is the last
unfoldable pub instant_at : List ℕ → Read ℕ
instant_at bytes = digits_at max_instant bytes

unfoldable pub as_of_at : List ℕ → Read Form
as_of_at bytes = do
  rest ← word_at (codes "OF") bytes
  instant ← instant_at rest
  Ok (AsOf instant.0, instant.1)

-- two instants with a word between them
unfoldable pub period_at : List ℕ → (ℕ → ℕ → Form) → List ℕ → Read Form
period_at word form bytes = do
  start ← instant_at bytes
  rest ← word_at word start.1
  end ← instant_at rest
  Ok (form start.0 end.0, end.1)

abbrev pub from_to_at : List ℕ → Read Form
from_to_at bytes = period_at (codes "TO") FromTo bytes

abbrev pub between_at : List ℕ → Read Form
between_at bytes = period_at (codes "AND") Between bytes

-- by the word after SYSTEM_TIME
unfoldable pub selection_at : List ℕ → Read Form
selection_at bytes = elim (word_at (codes "AS") bytes) [
  | Ok rest ↦ as_of_at rest
  | Err _ ↦ elim (word_at (codes "FROM") bytes) [
    | Ok rest ↦ from_to_at rest
    | Err _ ↦ elim (word_at (codes "BETWEEN") bytes) [
      | Ok rest ↦ between_at rest
      | Err at ↦ Err at
    ]
  ]
]

unfoldable pub system_time_at : List ℕ → Read Form
system_time_at bytes = do
  rest ← word_at (codes "SYSTEM_TIME") bytes
  selection_at rest

-- which versions a SELECT asks for
unfoldable pub form_at : List ℕ → Read Form
form_at bytes =
    elim (word_at (codes "FOR") bytes) [ Err _ ↦ Ok (Plain, bytes) | Ok rest ↦ system_time_at rest ]

unfoldable pub start_at : List ℕ → Read Statement
start_at bytes = do
  rest ← word_at (codes "TRANSACTION") bytes
  Ok (Begin, rest)

module _ (schema : Schema) where
  -- a column list, which may come before the rows
  unfoldable pub listed_at : ℕ → List ℕ → Read (Option (List ℕ))
  listed_at table bytes = elim (symbol_at 40 bytes) [
    | Err _ ↦ Ok (None, bytes)
    | Ok _ ↦ columns_at schema table bytes >>= λ columns. Ok (Some columns.0, columns.1)
  ]

  unfoldable pub insert_at : List ℕ → Read Statement
  insert_at bytes = do
    rest ← word_at (codes "INTO") bytes
    table ← table_name_at schema rest
    columns ← listed_at table.0 table.1
    rest ← word_at (codes "VALUES") columns.1
    rows ← rows_at rest
    Ok (Insert table.0 columns.0 rows.0, rows.1)

  unfoldable pub update_at : List ℕ → Read Statement
  update_at bytes = do
    table ← table_name_at schema bytes
    portion ← portion_at schema table.0 table.1
    rest ← word_at (codes "SET") portion.1
    sets ← sets_at schema table.0 rest
    keys ← keys_at schema table.0 sets.1
    Ok (Update keys.0 portion.0 sets.0, keys.1)

  unfoldable pub delete_at : List ℕ → Read Statement
  delete_at bytes = do
    rest ← word_at (codes "FROM") bytes
    table ← table_name_at schema rest
    portion ← portion_at schema table.0 table.1
    keys ← keys_at schema table.0 portion.1
    Ok (Delete keys.0 portion.0, keys.1)

  unfoldable pub select_at : List ℕ → Read Statement
  select_at bytes = do
    rest ← symbol_at 42 bytes
    rest ← word_at (codes "FROM") rest
    table ← table_name_at schema rest
    form ← form_at table.1
    keys ← keys_at schema table.0 form.1
    Ok (Select form.0 keys.0, keys.1)

  -- a statement on rows, by its first word
  unfoldable pub data_at : List ℕ → Read Statement
  data_at bytes = elim (word_at (codes "INSERT") bytes) [
    | Ok rest ↦ insert_at rest
    | Err _ ↦ elim (word_at (codes "UPDATE") bytes) [
      | Ok rest ↦ update_at rest
      | Err _ ↦ elim (word_at (codes "DELETE") bytes) [
        | Ok rest ↦ delete_at rest
        | Err _ ↦ elim (word_at (codes "SELECT") bytes) [
          | Ok rest ↦ select_at rest
          | Err at ↦ Err at
        ]
      ]
    ]
  ]

  -- any statement, by its first word
  unfoldable pub statement_at : List ℕ → Read Statement
  statement_at bytes = elim (word_at (codes "BEGIN") bytes) [
    | Ok rest ↦ Ok (Begin, rest)
    | Err _ ↦ elim (word_at (codes "START") bytes) [
      | Ok rest ↦ start_at rest
      | Err _ ↦ elim (word_at (codes "COMMIT") bytes) [
        | Ok rest ↦ Ok (Commit, after_optional_word (codes "WORK") rest)
        | Err _ ↦ elim (word_at (codes "ROLLBACK") bytes) [
          | Ok rest ↦ Ok (Rollback, after_optional_word (codes "WORK") rest)
          | Err _ ↦ data_at bytes
        ]
      ]
    ]
  ]
