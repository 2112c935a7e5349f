-- What a client over a reader and a writer comes to.
use Rattle.std.specs.Prelude.{ℕ, Bool, List, Option, None}
use Rattle.std.specs.List.{AllByRecursion}
use Rattle.std.specs.Io.KnownBytes.{Keeps}
use Rattle.values.specs.Tables.{Schema}
use Rattle.values.specs.declared.refusal.Refusal.TheVariants.{Memory as OutOfMemory}
use Rattle.lines.specs.Partial.{Partial}
use Rattle.statement.specs.Print.{refusal_text}
use Rattle.statement.specs.Writer.{AppendsPrefix}
use Rattle.serving.specs.BookRefusals.{BookRefusalsState, IsKnown}
use Rattle.serving.specs.Progress.{Given, Progress, after}
use Rattle.serving.specs.ServedSession.{IsServed, IsServedInPart, Serves, Told}
use Rattle.listening.specs.declared.client.Unserved.{Unserved}
use Rattle.listening.specs.declared.client.Unserved.TheVariants.{Memory, Read, Foreign, NoLine}

module _ (may_give : ℕ → Bool) (schema : Schema) (number : ℕ) (refused : BookRefusalsState) where
  -- its text was read to its end, and what follows for its lines was written
  pub record IsServedWhole (given : List Given) (unread old new : Option (List ℕ)) : Type 0 where
    pub left : Option (List ℕ)
    pub receipt : ℕ
    pub served : IsServed may_give schema number given (after 0 None) receipt refused
        unread left old new

  -- its text was read in part, and of what follows for its first lines a prefix was written
  pub record IsBrokenOff (given : List Given) (unread old new : Option (List ℕ)) : Type 0 where
    pub left : Option (List ℕ)
    pub receipt : ℕ
    pub served : IsServedInPart may_give schema number given (after 0 None) receipt refused
        unread left old new

  -- some lines were served, and took these receipts; of what the book refused them for this is known
  pub record HasTaken (given : List Given) : Type 0 where
    pub lines : List Partial
    pub told : List Told
    pub known : AllByRecursion (λ t. IsKnown refused t.refused) told
    pub text : List ℕ
    pub later : Progress
    pub serves : Serves may_give schema number lines told (after 0 None) given text later

-- no line was served: nothing was sent but that memory ran out, where it did
abbrev pub IsUnserved : Unserved → (old new : Option (List ℕ)) → Type 0
IsUnserved Memory old new = AppendsPrefix old new (refusal_text OutOfMemory)
IsUnserved Read old new = Keeps old new
IsUnserved Foreign old new = Keeps old new
IsUnserved NoLine old new = Keeps old new
