-- How a served session ended.
use Rattle.std.specs.Prelude.{◌≡◌, ℕ, List, [], ◌++◌, Bool, Option}
use Rattle.std.specs.Io.KnownBytes.{Consumes, IsAtEnd}
use Rattle.lines.specs.Partial.{Partial}
use Rattle.lines.specs.Lines.{lines_of}
use Rattle.sessions.specs.SessionState.{SessionState}
use Rattle.serving.specs.Account.{AccountState, Writes, WritesPrefix}
use Rattle.serving.specs.Progress.{Given}

-- nothing was read, and nothing was written
pub record HasNotBegun (unread left w w' : Option (List ℕ)) : Type 0 where
  pub reads_nothing : left ≡ unread
  pub writes_nothing : w' ≡ w

-- and no receipt was taken
pub record IsUnserved (given : List Given) (unread left w w' : Option (List ℕ)) : Type 0 where
  pub takes_nothing : given ≡ []
  pub has_not_begun : HasNotBegun unread left w w'

-- by which readings of the clock may be given
module _ (may_give : ℕ → Bool) where
  -- a text was read to its end, and its lines were served
  pub record Ends (old new : SessionState) (a b : AccountState) (unread left w w' : Option (List ℕ))
      : Type 0 where
    pub text : List ℕ
    pub took : Consumes unread left text
    pub ended_there : IsAtEnd left
    pub writes : Writes may_give (lines_of text) old new a b w w'

  -- a text was read, and its first lines were served
  pub record EndsInPart (old new : SessionState) (a b : AccountState)
      (unread left w w' : Option (List ℕ)) : Type 0 where
    pub text : List ℕ
    pub took : Consumes unread left text
    pub lines : List Partial
    pub rest : List Partial
    pub are_first : lines_of text ≡ lines ++ rest
    pub writes : WritesPrefix may_give lines old new a b w w'
