-- Lines that a session sends: those of a script without the session's number, and without the clock.
use Rattle.std.specs.Prelude.{ℕ, ◌-◌, List, nat_lt, Result, Ok, Err, length, codes, if◌then◌else◌}
use Rattle.values.specs.Tables.{Schema}
use Rattle.values.specs.declared.refusal.Refusal.{Refusal}
use Rattle.values.specs.declared.refusal.Refusal.TheVariants.{Syntax, LineTooLong}
use Rattle.lines.specs.Partial.{longest_line}
use Rattle.statement.specs.declared.line.Line.{Line}
use Rattle.statement.specs.declared.line.Line.TheVariants.{Nothing}
use Rattle.statement.specs.declared.line.Written.{Written}
use Rattle.tokens.specs.Token.{Read}
use Rattle.statement.specs.Token.{next, word_at}
use Rattle.statement.specs.Alteration.{request_at}
use Rattle.statement.specs.Split.{split_at}
use Rattle.statement.specs.Line.{before_feed, body_of, is_nothing, meaning_of, migrate_at}

module _ (schema : Schema) where
  -- a line that a session sends, by its first word; a statement is that session's
  unfoldable pub served_at : ℕ → List ℕ → Read Written
  served_at session bytes = elim (word_at (codes "SPLIT") bytes) [
    | Ok rest ↦ split_at schema rest
    | Err _ ↦ elim (word_at (codes "MIGRATE") bytes) [
      | Ok rest ↦ migrate_at rest
      | Err _ ↦ request_at schema session bytes
    ]
  ]

  -- what the bytes of a served line's tokens say
  unfoldable pub served_body_says : ℕ → ℕ → List ℕ → Result Line Refusal
  served_body_says session reading bytes =
      if is_nothing (next bytes) then Ok Nothing
      else elim (served_at session bytes) [
        | Err at ↦ Err (Syntax (length bytes - length at))
        | Ok x ↦ meaning_of schema reading x.0
      ]

  -- what a line says that a session sends: a statement without its number, a split or a migration
  unfoldable pub served_line_says : ℕ → ℕ → List ℕ → Result Line Refusal
  served_line_says session reading line =
      if nat_lt longest_line (length (before_feed line)) then Err LineTooLong
      else served_body_says session reading (body_of line)
