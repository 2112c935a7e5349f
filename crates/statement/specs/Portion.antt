-- The portion of application time that an UPDATE or a DELETE changes.
use Rattle.std.specs.Prelude.{ℕ, List, Bool, false, Option, Some, None, Ok, Err, codes}
use Rattle.values.specs.Tables.{Schema, table_at}
use Rattle.values.specs.Names.{names_period}
use Rattle.values.specs.declared.period.Span.{Span}
use Rattle.statement.specs.declared.portion.Portion.{Portion}
use Rattle.tokens.specs.Token.{Read, ◌>>=◌}
use Rattle.statement.specs.Token.{word_at, name_at}
use Rattle.statement.specs.Literal.{number_at}

-- a number and another one
unfoldable pub bounds_at : List ℕ → Read Span
bounds_at bytes = do
  rest ← word_at (codes "FROM") bytes
  from ← number_at rest
  rest ← word_at (codes "TO") from.1
  to ← number_at rest
  Ok (record { from = from.0; to = to.0 }, to.1)

-- a table has a period of this name
unfoldable pub is_period : Schema → ℕ → List ℕ → Bool
is_period schema table name =
    elim (table_at schema table) [ None ↦ false | Some t ↦ names_period t.period name ]

module _ (schema : Schema) (table : ℕ) where
  unfoldable pub period_name_at : List ℕ → Read Bool
  period_name_at bytes = do
    name ← name_at bytes
    Ok (is_period schema table name.0, name.1)

  -- after FOR
  unfoldable pub named_portion_at : List ℕ → Read Portion
  named_portion_at bytes = do
    rest ← word_at (codes "PORTION") bytes
    rest ← word_at (codes "OF") rest
    of_period ← period_name_at rest
    span ← bounds_at of_period.1
    Ok (record { of_period = of_period.0; span = span.0 }, span.1)

  -- a portion, which may be missing
  unfoldable pub portion_at : List ℕ → Read (Option Portion)
  portion_at bytes = elim (word_at (codes "FOR") bytes) [
    | Err _ ↦ Ok (None, bytes)
    | Ok rest ↦ named_portion_at rest >>= λ portion. Ok (Some portion.0, portion.1)
  ]
