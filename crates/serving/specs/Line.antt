-- What serving one line does.
use Rattle.std.specs.Prelude.{◌≡◌, ◌⊎◌, ℕ, List, ◌++◌, Bool, true, Option, Result, Err}
use Rattle.std.specs.Io.KnownBytes.{Appends}
use Rattle.values.specs.declared.refusal.Refusal.{Refusal}
use Rattle.values.specs.declared.refusal.Refusal.TheVariants.{Memory}
use Rattle.values.specs.Tables.{Schema}
use Rattle.steps.specs.declared.step.Step.{Step}
use Rattle.statement.specs.declared.line.Line.{Line}
use Rattle.statement.specs.Memory.{UnlessMemory}
use Rattle.statement.specs.Writer.{AppendsPrefix}
use Rattle.lines.specs.Partial.{Partial}
use Rattle.sessions.specs.SessionState.{SessionState}
use Rattle.serving.specs.ServedSession.{said, reading_takes}
use Rattle.serving.specs.Serving.{AnswerState, IsStepped, given_of, kept_of, reply_of, text_of}
use Rattle.serving.specs.Account.{AccountState, LeavesAll}

-- this was read of a line: memory may have run out where reading it takes some
pub record IsRead (schema : Schema) (i : ℕ) (line : Partial)
    (r : Result Line Refusal) : Type 0 where
  pub unless : UnlessMemory r (said schema i line)
  pub memory : r ≡ Err Memory → reading_takes schema i line ≡ true

-- an answer's receipts were put behind those of the lines before, and what the book refused it for is kept
pub record IsReported (answer : AnswerState) (a b : AccountState) : Type 0 where
  pub given_is : b.given ≡ a.given ++ given_of answer
  pub refused_is : b.refused ≡ kept_of a.refused answer.sent

-- by which readings of the clock may be given
module _ (may_give : ℕ → Bool) where
  -- a step was taken, and its receipts were kept
  pub record IsTaken (step : Step) (answer : AnswerState) (old new : SessionState)
      (a b : AccountState) : Type 0 where
    pub stepped : IsStepped may_give step old new answer
    pub told : IsReported answer a b

  -- and what is sent for it was written
  pub record Sends (step : Step) (old new : SessionState) (a b : AccountState)
      (w w' : Option (List ℕ)) : Type 0 where
    pub answer : AnswerState
    pub taken : IsTaken step answer old new a b
    pub wrote : Appends w w' (text_of (reply_of answer))

  -- or a prefix of that
  pub record SendsPrefix (step : Step) (old new : SessionState) (a b : AccountState)
      (w w' : Option (List ℕ)) : Type 0 where
    pub answer : AnswerState
    pub taken : IsTaken step answer old new a b
    pub wrote : AppendsPrefix w w' (text_of (reply_of answer))

  -- the session ended in a step: it was taken, or nothing was done
  abbrev pub IsBrokenStep : Step → SessionState → SessionState → AccountState → AccountState
      → Option (List ℕ) → Option (List ℕ) → Type 0
  IsBrokenStep step old new a b w w' =
      SendsPrefix step old new a b w w' ⊎ LeavesAll old new a b w w'
