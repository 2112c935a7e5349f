-- What is kept of the lines of a served session, and what serving some of them did.
use Rattle.std.specs.Prelude.{◌≡◌, ◌⊎◌, ℕ, ◌<◌, List, [], ◌++◌, Bool, Option}
use Rattle.std.specs.Io.KnownBytes.{Appends, Keeps}
use Rattle.std.specs.List.{AllByRecursion}
use Rattle.statement.specs.Writer.{AppendsPrefix}
use Rattle.lines.specs.Partial.{Partial}
use Rattle.lines.specs.Lines.{EndsLines, lines_from}
use Rattle.sessions.specs.SessionState.{SessionState}
use Rattle.serving.specs.BookRefusals.{BookRefusalsState, GoesOn, IsKnown}
use Rattle.serving.specs.Progress.{Given, Progress}
use Rattle.serving.specs.ServedSession.{Told, Serves}
use Rattle.serving.specs.Serving.{AnswerState, IsAt, given_of}

-- the receipts that the lines took, for how many more there is room, and what the book refused lines for
pub record AccountState : Type 0 where
  pub given : List Given
  pub room : ℕ
  pub refused : BookRefusalsState

-- an answer has no receipt, or there is room for two
abbrev pub HasRoomFor : AnswerState → AccountState → Type 0
HasRoomFor answer a = (given_of answer ≡ []) ⊎ (1 < a.room)

-- none of the lines was taken, and nothing was written
pub record LeavesAll (old new : SessionState) (a b : AccountState) (w w' : Option (List ℕ)) : Type 0
  where
    pub session_is : new ≡ old
    pub given_is : b.given ≡ a.given
    pub refused_is : b.refused ≡ a.refused
    pub wrote : Keeps w w'

-- by which readings of the clock may be given
module _ (may_give : ℕ → Bool) where
  -- some lines were served with this text: whatever the session had come to, it goes on from there
  pub record Served (lines : List Partial) (out : List ℕ) (old new : SessionState)
      (a b : AccountState) : Type 0 where
    pub told : List Told
    pub given : List Given
    pub given_is : b.given ≡ a.given ++ given
    pub known : AllByRecursion (λ t. IsKnown b.refused t.refused) told
    pub goes_on : GoesOn a.refused b.refused
    pub schema_is : new.schema ≡ old.schema
    pub number_is : new.number ≡ old.number
    pub steps : (p : Progress) → IsAt old p
        → (p' : Progress)
        × (IsAt new p' × Serves may_give old.schema old.number lines told p given out p')

  -- and the text was written
  pub record Writes (lines : List Partial) (old new : SessionState) (a b : AccountState)
      (w w' : Option (List ℕ)) : Type 0 where
    pub out : List ℕ
    pub wrote : Appends w w' out
    pub served : Served lines out old new a b

  -- and a prefix of the text was written
  pub record WritesPrefix (lines : List Partial) (old new : SessionState) (a b : AccountState)
      (w w' : Option (List ℕ)) : Type 0 where
    pub out : List ℕ
    pub wrote : AppendsPrefix w w' out
    pub served : Served lines out old new a b

  -- some bytes were taken: the lines that they end were served
  pub record Feeds (line next : Partial) (bytes : List ℕ) (old new : SessionState)
      (a b : AccountState) (w w' : Option (List ℕ)) : Type 0 where
    pub lines : List Partial
    pub ends : EndsLines line bytes lines next
    pub writes : Writes lines old new a b w w'

  -- of some bytes that were read the first lines were served, and then the session ended
  pub record Breaks (line : Partial) (bytes : List ℕ) (old new : SessionState) (a b : AccountState)
      (w w' : Option (List ℕ)) : Type 0 where
    pub lines : List Partial
    pub go_on : (rest : List ℕ)
        → (more : List Partial) × (lines_from line (bytes ++ rest) ≡ lines ++ more)
    pub writes : WritesPrefix lines old new a b w w'

  -- the session ended in such lines: they were served and a prefix of the text was written, or none was taken
  abbrev pub IsBroken : List Partial → SessionState → SessionState → AccountState → AccountState
      → Option (List ℕ) → Option (List ℕ) → Type 0
  IsBroken lines old new a b w w' =
      WritesPrefix lines old new a b w w' ⊎ LeavesAll old new a b w w'
