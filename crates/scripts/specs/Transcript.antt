-- What is written for a text of lines.
use Rattle.std.specs.Prelude.{ℕ, List, [], ◌∷◌, ◌++◌, ◌==◌, ◌&&◌, ◌||◌, not, Bool, false, Option, Some, None, Result, Ok, Err, if◌then◌else◌, codes}
use Rattle.std.specs.Io.KnownBytes.{Appends, Consumes, IsAtEnd}
use Rattle.values.specs.Tables.{Schema}
use Rattle.values.specs.declared.refusal.Refusal.{Refusal}
use Rattle.values.specs.declared.refusal.Refusal.TheVariants.{Memory, LineTooLong}
use Rattle.histories.specs.History.{History, schema_after, reply}
use Rattle.histories.specs.Memory.{takes_no_memory_after}
use Rattle.interleaving.specs.SystemState.{SystemState, Stands}
use Rattle.statement.specs.declared.line.Line.{Line}
use Rattle.statement.specs.declared.line.Line.TheVariants.{Nothing, Clock, Step as Asks}
use Rattle.statement.specs.Memory.{takes_memory}
use Rattle.statement.specs.Print.{line, refusal_text, reply_text}
use Rattle.statement.specs.Writer.{AppendsPrefix}
use Rattle.lines.specs.Partial.{Partial, add, ended}

-- reading the line takes memory: it is not read where it is too long
abbrev pub reading_takes : Partial → Bool
reading_takes None = false
reading_takes (Some bytes) = takes_memory bytes

-- what lines leave: the steps that were answered, the newest first, and the clock's last reading
pub record Progress : Type 0 where
  pub history : History
  pub reading : ℕ

-- after these steps, with the clock at 0
abbrev pub after : History → Progress
after first = record { history = first; reading = 0 }

-- how a line is read by some tables and at a reading of the clock
abbrev pub Reading : Type 0
Reading = Schema → ℕ → List ℕ → Result Line Refusal

abbrev pub read_at : Reading → Schema → ℕ → Partial → Result Line Refusal
read_at read schema reading None = Err LineTooLong
read_at read schema reading (Some bytes) = read schema reading bytes

-- by the first tables
module _ (schema : Schema) where
  -- the reply to what was read: a blank line and a comment have none
  abbrev pub answered : Progress → Result Line Refusal → List ℕ
  answered p (Err refusal) = refusal_text refusal
  answered p (Ok Nothing) = []
  answered p (Ok (Clock reading)) = line (codes "ok")
  answered p (Ok (Asks step)) = reply_text (reply schema p.history step)

  abbrev pub left_by : Progress → Result Line Refusal → Progress
  left_by p (Err refusal) = p
  left_by p (Ok Nothing) = p
  left_by p (Ok (Clock reading)) = record { history = p.history; reading = reading }
  left_by p (Ok (Asks step)) = record { history = step ∷ p.history; reading = p.reading }

  -- the step that was read takes memory
  abbrev pub asks_memory : Progress → Result Line Refusal → Bool
  asks_memory p (Ok (Asks step)) = not (takes_no_memory_after schema p.history step)
  asks_memory p _ = false

  -- memory can run out at a line while it is read, or at its step
  abbrev pub can_run_out : Progress → Partial → Result Line Refusal → Bool
  can_run_out p bytes said = reading_takes bytes || asks_memory p said

module _ (schema : Schema) (read : Reading) where
  -- what a line says after the steps so far: by the tables as they are then
  abbrev pub said : Progress → Partial → Result Line Refusal
  said p bytes = read_at read (schema_after schema p.history) p.reading bytes

  -- the line is one at which memory can run out
  abbrev pub is_risky : Progress → Partial → Bool
  is_risky p bytes = can_run_out schema p bytes (said p bytes)

  -- the reply to a line, where its mark says whether memory ran out: no other line heeds its mark
  abbrev pub line_reply : Bool → Progress → Partial → List ℕ
  line_reply m p bytes =
      if m && is_risky p bytes then refusal_text Memory
      else answered schema p (said p bytes)

  -- a line at which memory ran out is no step
  abbrev pub line_leaves : Bool → Progress → Partial → Progress
  line_leaves m p bytes =
      if m && is_risky p bytes then p
      else left_by schema p (said p bytes)

abbrev pub mark : List Bool → Bool
mark [] = false
mark (m ∷ ms) = m

abbrev pub marks_after : List Bool → List Bool
marks_after [] = []
marks_after (m ∷ ms) = ms

-- what is written at the end of a text, for a last line without a line feed
abbrev pub Ending : Type 0
Ending = Bool → Progress → Partial → List ℕ

-- nothing
abbrev pub no_reply : Ending
no_reply m p bytes = []

module _ (schema : Schema) (read : Reading) where
  -- its reply, where it has a byte
  abbrev pub last_reply : Ending
  last_reply m p (Some []) = []
  last_reply m p bytes = line_reply schema read m p bytes

  -- what is written for the rest of a text, where this line has begun: the marks go with its lines
  abbrev pub written : Ending → List Bool → Progress → Partial → List ℕ → List ℕ
  written ending ms p bytes [] = ending (mark ms) p bytes
  written ending ms p bytes (b ∷ bs) =
      if b == 10
      then line_reply schema read (mark ms) p (ended bytes)
      ++ written ending (marks_after ms)
      (line_leaves schema read (mark ms) p (ended bytes)) (Some []) bs
      else written ending ms p (add bytes b) bs

  -- what a last line with no line feed leaves, where it has a byte
  abbrev pub last_leaves : Bool → Progress → Partial → Progress
  last_leaves m p (Some []) = p
  last_leaves m p bytes = line_leaves schema read m p bytes

  -- what the rest of a text leaves, with the marks of its transcript
  abbrev pub leaves : List Bool → Progress → Partial → List ℕ → Progress
  leaves ms p bytes [] = last_leaves (mark ms) p bytes
  leaves ms p bytes (b ∷ bs) =
      if b == 10
      then leaves (marks_after ms) (line_leaves schema read (mark ms) p (ended bytes)) (Some []) bs
      else leaves ms p (add bytes b) bs

module _ (schema : Schema) (read : Reading) (first : History) where
  -- the replies to all lines of a text, after these steps
  abbrev pub transcript_after : List Bool → List ℕ → List ℕ
  transcript_after ms text =
      written schema read (last_reply schema read) ms (after first) (Some []) text

  -- the replies to those that have ended
  abbrev pub whole_replies_after : List Bool → List ℕ → List ℕ
  whole_replies_after ms text = written schema read no_reply ms (after first) (Some []) text

  -- what the text leaves
  abbrev pub leaves_after : List Bool → List ℕ → Progress
  leaves_after ms text = leaves schema read ms (after first) (Some []) text

  -- A text was read to its end, and its transcript was written: nothing but that. Where a reader's
  -- bytes are known, the text is what was left of them.
  pub record IsTranscriptAfter (unread left old new : Option (List ℕ)) : Type 0 where
    pub text : List ℕ
    pub took : Consumes unread left text
    pub ended_there : IsAtEnd left
    pub marks : List Bool
    pub wrote : Appends old new (transcript_after marks text)

  -- the same, and a system stands for what the text leaves
  pub record IsRunAfter (s : SystemState) (unread left old new : Option (List ℕ)) : Type 0 where
    pub ran : IsTranscriptAfter unread left old new
    pub stands : Stands schema s (leaves_after ran.marks ran.text).history

  -- some bytes were read, and just the replies to their lines that ended were written
  pub record IsCutAfter (unread left old new : Option (List ℕ)) : Type 0 where
    pub text : List ℕ
    pub took : Consumes unread left text
    pub marks : List Bool
    pub wrote : Appends old new (whole_replies_after marks text)

  -- some bytes were read, and a prefix of their transcript was written
  pub record IsStoppedAfter (unread left old new : Option (List ℕ)) : Type 0 where
    pub text : List ℕ
    pub took : Consumes unread left text
    pub marks : List Bool
    pub wrote : AppendsPrefix old new (transcript_after marks text)

-- ---- the same from the beginning

abbrev pub IsRun : Schema → Reading → SystemState → (unread left old new : Option (List ℕ)) → Type 0
IsRun schema read s unread left old new = IsRunAfter schema read [] s unread left old new

abbrev pub IsCut : Schema → Reading → (unread left old new : Option (List ℕ)) → Type 0
IsCut schema read unread left old new = IsCutAfter schema read [] unread left old new

abbrev pub IsStopped : Schema → Reading → (unread left old new : Option (List ℕ)) → Type 0
IsStopped schema read unread left old new = IsStoppedAfter schema read [] unread left old new
