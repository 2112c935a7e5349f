-- What calls of a replay do, wherever it was.
use Rattle.std.specs.Prelude.{◌≡◌, ◌⊎◌, ◌<◌, ◌≤◌, ◌+◌, ◌++◌, ℕ, List, [], Bool, Some, None, Ok, Err}
use Rattle.values.specs.Tables.{Schema}
use Rattle.values.specs.declared.refusal.Refusal.{Refusal}
use Rattle.statement.specs.Line.{line_says}
use Rattle.lines.specs.Partial.{Partial}
use Rattle.lines.specs.Lines.{lines_from}
use Rattle.scripts.specs.Replay.{line_refusal, lines_leave, refusal_to}
use Rattle.scripts.specs.Script.{IsAt}
use Rattle.scripts.specs.Transcript.{Progress, left_by, said}
use Rattle.scripts.specs.declared.replay.Replaying.{Replaying}
use Rattle.scripts.specs.declared.replay.ReplayFault.{ReplayFault}
use Rattle.scripts.specs.declared.replay.ReplayFault.TheVariants.{Refused, Open, Read, Memory as OutOfMemory}
use Rattle.scripts.specs.declared.script.Script.{Script}

-- a line was taken, and is not refused
pub record Passed (s : Script) (schema : Schema) (p : Progress) (line : Partial) : Type 0 where
  pub none : refusal_to schema p (said schema line_says p line) ≡ None
  pub left : IsAt s schema (left_by schema p (said schema line_says p line))

abbrev pub PassesLine : Script → Script → Type 0
PassesLine s s' = (schema : Schema) (p : Progress) → IsAt s schema p → Passed s' schema p s.line

-- this is why the line is refused, where its mark says whether memory ran out
abbrev pub RefusesLine : Refusal → Script → Type 0
RefusesLine refusal s =
    (schema : Schema) (p : Progress) → IsAt s schema p
    → (m : Bool) × (line_refusal schema line_says m p s.line ≡ Some refusal)

-- a fault at the line
abbrev pub StopsAtLine : ReplayFault → Replaying → Type 0
StopsAtLine (Refused number refusal) r =
    (number ≡ r.taken + 1) × RefusesLine refusal r.script
StopsAtLine Read r = Unit {0}
StopsAtLine Open r = ⊥
StopsAtLine OutOfMemory r = ⊥

-- memory runs out at a line behind so many others, or at none
abbrev pub IsBeyond : (out n : ℕ) → Type 0
IsBeyond out n = (out ≡ 0) ⊎ (n < out)

-- some bytes were taken: whatever follows them, the rest of the text leaves what it leaves from here on
pub record GoesOn (r r' : Replaying) (schema : Schema) (p : Progress) (bytes : List ℕ) : Type 0 where
  pub later : Progress
  pub left : IsAt r'.script schema later
  pub more : r.taken ≤ r'.taken
  pub goes_on : (out : ℕ) → IsBeyond out r'.taken → (rest : List ℕ)
      → lines_leave schema line_says out r.taken p (lines_from r.script.line (bytes ++ rest))
      ≡ lines_leave schema line_says out r'.taken later (lines_from r'.script.line rest)

abbrev pub TakesOn : Replaying → Replaying → List ℕ → Type 0
TakesOn r r' bytes =
    (schema : Schema) (p : Progress) → IsAt r.script schema p → GoesOn r r' schema p bytes

-- whatever follows these bytes, this line is the first that is refused, or memory ran out at it
abbrev pub RefusesIn : ℕ → Refusal → Replaying → List ℕ → Type 0
RefusesIn number refusal r bytes =
    (schema : Schema) (p : Progress) → IsAt r.script schema p
    → (out : ℕ) × IsBeyond out r.taken × ((rest : List ℕ)
    → lines_leave schema line_says out r.taken p (lines_from r.script.line (bytes ++ rest))
    ≡ Err (number, refusal))

-- a fault in these bytes
abbrev pub StopsIn : ReplayFault → Replaying → List ℕ → Type 0
StopsIn (Refused number refusal) r bytes = RefusesIn number refusal r bytes
StopsIn Read r bytes = Unit {0}
StopsIn Open r bytes = ⊥
StopsIn OutOfMemory r bytes = ⊥

-- the text ended
pub record Ended (r r' : Replaying) (schema : Schema) (p : Progress) : Type 0 where
  pub later : Progress
  pub left : IsAt r'.script schema later
  pub leaves : lines_leave schema line_says 0 r.taken p (lines_from r.script.line []) ≡ Ok later

abbrev pub EndsReplay : Replaying → Replaying → Type 0
EndsReplay r r' =
    (schema : Schema) (p : Progress) → IsAt r.script schema p → Ended r r' schema p

-- its last line, without a line feed, is the first that is refused, or memory ran out at it
abbrev pub RefusesLast : ℕ → Refusal → Replaying → Type 0
RefusesLast number refusal r =
    (schema : Schema) (p : Progress) → IsAt r.script schema p
    → (out : ℕ) × IsBeyond out r.taken
    × (lines_leave schema line_says out r.taken p (lines_from r.script.line [])
    ≡ Err (number, refusal))

abbrev pub StopsAtEnd : ReplayFault → Replaying → Type 0
StopsAtEnd (Refused number refusal) r = RefusesLast number refusal r
StopsAtEnd Read r = Unit {0}
StopsAtEnd Open r = ⊥
StopsAtEnd OutOfMemory r = ⊥
