-- Lines, and what each says.
use Rattle.std.specs.Prelude.{ℕ, ◌-◌, ◌^◌, List, [], ◌∷◌, ◌==◌, ◌&&◌, nat_lt, Bool, true, false, Result, Ok, Err, slice_index, length, take, codes, if◌then◌else◌}
use Rattle.std.specs.Char.{is_ascii_digit}
use Rattle.values.specs.Tables.{Schema}
use Rattle.steps.specs.declared.step.Step.{Step}
use Rattle.steps.specs.declared.step.Step.TheVariants.{SplitKey as SplitsKey, SplitTime as SplitsTime, Migrate as Migrates}
use Rattle.values.specs.declared.refusal.Refusal.{Refusal}
use Rattle.values.specs.declared.refusal.Refusal.TheVariants.{Syntax, LineTooLong}
use Rattle.statement.specs.declared.line.Line.{Line}
use Rattle.statement.specs.declared.line.Line.TheVariants.{Nothing, Clock, Step as IsStep}
use Rattle.statement.specs.declared.line.Written.{Written}
use Rattle.statement.specs.declared.line.Written.TheVariants.{Clock as SetsClock, SplitKey, SplitTime, Migrate, Session, AddColumn}
use Rattle.lines.specs.Partial.{longest_line}
use Rattle.tokens.specs.Token.{Read, ◌>>=◌}
use Rattle.statement.specs.Token.{next, symbol_at, word_at, end_at}
use Rattle.statement.specs.Literal.{digits_at}
use Rattle.statement.specs.Statement.{instant_at}
use Rattle.statement.specs.Alteration.{asked_at}
use Rattle.statement.specs.Meaning.{fitting_step, step_of, column_step}
use Rattle.statement.specs.Split.{split_at}

-- the bytes without the last, where that is this one
abbrev pub without_last : ℕ → List ℕ → List ℕ
without_last byte bytes =
    if nat_lt 0 (length bytes) && (slice_index bytes (length bytes - 1) == byte)
    then take (length bytes - 1) bytes else bytes

-- what is before the line feed, where there is one
abbrev pub before_feed : List ℕ → List ℕ
before_feed line = without_last 10 line

-- the bytes of a line's tokens: a carriage return right before the line feed is none of them
abbrev pub body_of : List ℕ → List ℕ
body_of line =
    if length (before_feed line) == length line then line else without_last 13 (before_feed line)

-- at its first token a line is blank or a comment
abbrev pub is_nothing : List ℕ → Bool
is_nothing [] = true
is_nothing (a ∷ []) = false
is_nothing (a ∷ b ∷ bytes) = (a == 45) && (b == 45)

abbrev pub begins_digit : List ℕ → Bool
begins_digit [] = false
begins_digit (b ∷ bytes) = is_ascii_digit b

unfoldable pub clock_at : List ℕ → Read Written
clock_at bytes = do
  rest ← word_at (codes "CLOCK") bytes
  rest ← symbol_at 58 rest
  instant ← instant_at rest
  rest ← end_at instant.1
  Ok (SetsClock instant.0, rest)

unfoldable pub migrate_at : List ℕ → Read Written
migrate_at bytes = do
  rest ← symbol_at 58 bytes
  rest ← end_at rest
  Ok (Migrate, rest)

-- what asks for a step, if it fits
abbrev pub line_of : Result Step Refusal → Result Line Refusal
line_of step = step >>= λ fits. Ok (IsStep fits)

module _ (schema : Schema) where
  unfoldable pub session_at : List ℕ → Read Written
  session_at bytes = do
    session ← digits_at (2 ^ 63 - 1) bytes
    rest ← symbol_at 58 session.1
    asked_at schema session.0 rest

  -- a line of no session, by its first word
  unfoldable pub service_at : List ℕ → Read Written
  service_at bytes = elim (word_at (codes "SPLIT") bytes) [
    | Ok rest ↦ split_at schema rest
    | Err _ ↦ elim (word_at (codes "MIGRATE") bytes) [
      | Ok rest ↦ migrate_at rest
      | Err _ ↦ clock_at bytes
    ]
  ]

  unfoldable pub written_at : List ℕ → Read Written
  written_at bytes = if begins_digit (next bytes) then session_at bytes else service_at bytes

  unfoldable pub meaning_of : ℕ → Written → Result Line Refusal
  meaning_of reading (SetsClock instant) = Ok (Clock instant)
  meaning_of reading (SplitKey key) = line_of (fitting_step schema (SplitsKey key))
  meaning_of reading (SplitTime key instant) =
      line_of (fitting_step schema (SplitsTime key instant))
  meaning_of reading Migrate = Ok (IsStep Migrates)
  meaning_of reading (Session session statement) =
      line_of (step_of schema reading session statement)
  meaning_of reading (AddColumn session table name of) =
      line_of (column_step schema session table name of)

  -- what the bytes of a line's tokens say
  unfoldable pub body_says : ℕ → List ℕ → Result Line Refusal
  body_says reading bytes =
      if is_nothing (next bytes) then Ok Nothing
      else elim (written_at bytes) [
        | Err at ↦ Err (Syntax (length bytes - length at))
        | Ok x ↦ meaning_of reading x.0
      ]

  -- what a line of a text says, which ends with its line feed or, as a last line may, without one
  unfoldable pub line_says : ℕ → List ℕ → Result Line Refusal
  line_says reading line =
      if nat_lt longest_line (length (before_feed line)) then Err LineTooLong
      else body_says reading (body_of line)
