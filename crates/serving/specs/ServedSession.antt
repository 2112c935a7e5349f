-- What a client is sent, by the lines that it sends, what is kept of each, and its receipts.
use Rattle.std.specs.Prelude.{◌≡◌, ℕ, List, [], ◌∷◌, ◌++◌, ◌⊎◌, Bool, true, false, Option, Some, None, Result, Ok, Err, length}
use Rattle.std.specs.Io.KnownBytes.{Appends, Consumes, IsAtEnd}
use Rattle.std.specs.List.{AllByRecursion}
use Rattle.values.specs.declared.refusal.Refusal.{Refusal}
use Rattle.values.specs.declared.refusal.Refusal.TheVariants.{LineTooLong, Memory}
use Rattle.values.specs.Tables.{Schema}
use Rattle.steps.specs.declared.step.Reply.{Reply}
use Rattle.statement.specs.declared.line.Line.{Line}
use Rattle.statement.specs.declared.line.Line.TheVariants.{Nothing, Clock, Step as Asks}
use Rattle.statement.specs.ServedLine.{served_line_says}
use Rattle.statement.specs.Memory.{serving_takes_memory}
use Rattle.statement.specs.Print.{refusal_text, reply_text}
use Rattle.statement.specs.Writer.{AppendsPrefix}
use Rattle.lines.specs.Partial.{Partial}
use Rattle.lines.specs.Lines.{lines_of}
use Rattle.serving.specs.BookRefusals.{BookRefusalsState, IsKnown}
use Rattle.serving.specs.Progress.{Given, Progress, Takes, IsRefusedStep}

-- what is told of a line: how many receipts it took, and what it was refused for where that was memory, a full journal, or a transaction that is not open at the store
pub record Told : Type 0 where
  pub taken : ℕ
  pub refused : Option Refusal

module _ (schema : Schema) (i : ℕ) where
  -- what a line says; a COMMIT's reading is its receipt's
  abbrev pub said : Partial → Result Line Refusal
  said None = Err LineTooLong
  said (Some line) = served_line_says schema i 0 line

  abbrev pub reading_takes : Partial → Bool
  reading_takes None = false
  reading_takes (Some line) = serving_takes_memory line

  -- memory ran out while the line was read, and nothing is changed
  abbrev pub IsUnread : Partial → Progress → List Given → Refusal → Progress → Type 0
  IsUnread line p given refusal p' =
      (reading_takes line ≡ true) × ((refusal ≡ Memory) × ((given ≡ []) × (p' ≡ p)))

  -- memory ran out while the line was read, or its step is refused
  abbrev pub IsRefusedLine : Partial → Result Line Refusal → Progress → List Given → Refusal
      → Progress → Type 0
  IsRefusedLine line (Ok (Asks step)) p given refusal p' =
      IsUnread line p given refusal p' ⊎ IsRefusedStep schema i step p given refusal p'
  IsRefusedLine line said p given refusal p' = IsUnread line p given refusal p'

  pub record RefusesLine (line : Partial) (p : Progress) (given : List Given) (refusal : Refusal)
      (out : List ℕ) (p' : Progress) : Type 0 where
    pub refused : IsRefusedLine line (said line) p given refusal p'
    pub out_is : out ≡ refusal_text refusal

-- by which readings of the clock may be given
module _ (may_give : ℕ → Bool) (schema : Schema) (i : ℕ) where
  -- no receipt, this text, and nothing is changed
  pub record PrintsText (text : List ℕ) (p : Progress) (given : List Given) (out : List ℕ)
      (p' : Progress) : Type 0 where
    pub takes : given ≡ []
    pub out_is : out ≡ text
    pub left : p' ≡ p

  -- a step's reply
  pub record PrintsReply (P : List Given → Reply → Progress → Type 0) (given : List Given)
      (out : List ℕ) (p' : Progress) : Type 0 where
    pub reply : Reply
    pub taken : P given reply p'
    pub out_is : out ≡ reply_text reply

  -- a line that is answered by its meaning: what is refused is no step, and a blank line and a comment have no reply; no line that a session sends sets the clock
  abbrev pub Answers : Result Line Refusal → Progress → List Given → List ℕ → Progress → Type 0
  Answers (Err refusal) p given out p' = PrintsText (refusal_text refusal) p given out p'
  Answers (Ok Nothing) p given out p' = PrintsText [] p given out p'
  Answers (Ok (Clock reading)) p given out p' = PrintsText [] p given out p'
  Answers (Ok (Asks step)) p given out p' =
      PrintsReply (Takes may_give schema i step p) given out p'

  -- by what is told of it, a line was refused since there was no room, or answered by its meaning
  abbrev pub IsKept : Option Refusal → Partial → Progress → List Given → List ℕ → Progress → Type 0
  IsKept (Some refusal) line p given out p' = RefusesLine schema i line p given refusal out p'
  IsKept None line p given out p' = Answers (said schema i line) p given out p'

  -- a line takes as many receipts as are told of it
  pub record IsAnswered (line : Partial) (told : Told) (p : Progress) (given : List Given)
      (out : List ℕ) (p' : Progress) : Type 0 where
    pub counted : length given ≡ told.taken
    pub kept : IsKept told.refused line p given out p'

  -- each line has its own of what is told, and the receipts that it takes come next, and none is left over
  abbrev pub Serves : List Partial → List Told → Progress → List Given → List ℕ → Progress → Type 0
  Serves [] [] p given out p' = (given ≡ []) × ((out ≡ []) × (p' ≡ p))
  Serves (line ∷ lines) (t ∷ told) p given out p' =
      (own : List Given) × ((more : List Given) × ((text : List ℕ) × ((texts : List ℕ)
      × ((between : Progress) × ((given ≡ own ++ more) × ((out ≡ text ++ texts)
      × (IsAnswered line t p own text between × Serves lines told between more texts p')))))))
  Serves [] (t ∷ told) p given out p' = ⊥
  Serves (line ∷ lines) [] p given out p' = ⊥

  -- a text was read to its end, what follows for its lines was written, this is the number of the last receipt, and
  -- these are what the book refused lines for
  pub record IsServed (given : List Given) (p : Progress) (receipt : ℕ) (refused : BookRefusalsState)
      (unread left old new : Option (List ℕ)) : Type 0 where
    pub told : List Told
    pub known : AllByRecursion (λ t. IsKnown refused t.refused) told
    pub text : List ℕ
    pub took : Consumes unread left text
    pub ended_there : IsAtEnd left
    pub out : List ℕ
    pub wrote : Appends old new out
    pub later : Progress
    pub last : receipt ≡ later.receipt
    pub serves : Serves (lines_of text) told p given out later

  -- a text was read, of what follows for its first lines a prefix was written, this is the number of their last
  -- receipt, and these are what the book refused them for
  pub record IsServedInPart (given : List Given) (p : Progress) (receipt : ℕ) (refused : BookRefusalsState)
      (unread left old new : Option (List ℕ)) : Type 0 where
    pub told : List Told
    pub known : AllByRecursion (λ t. IsKnown refused t.refused) told
    pub text : List ℕ
    pub took : Consumes unread left text
    pub lines : List Partial
    pub rest : List Partial
    pub are_first : lines_of text ≡ lines ++ rest
    pub out : List ℕ
    pub wrote : AppendsPrefix old new out
    pub later : Progress
    pub last : receipt ≡ later.receipt
    pub serves : Serves lines told p given out later
