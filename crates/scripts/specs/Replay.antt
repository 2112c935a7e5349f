-- What a script leaves whose lines are taken in turn, where none of them is refused.
use Rattle.std.specs.Prelude.{◌≡◌, ◌⊎◌, ◌+◌, ◌++◌, ◌==◌, ◌&&◌, ℕ, List, [], ◌∷◌, Bool, Option, Some, None, true, false, Result, Ok, Err, if◌then◌else◌}
use Rattle.std.specs.Io.KnownBytes.{Consumes, IsAtEnd, Keeps}
use Rattle.values.specs.Tables.{Schema}
use Rattle.values.specs.declared.refusal.Refusal.{Refusal}
use Rattle.values.specs.declared.refusal.Refusal.TheVariants.{Memory}
use Rattle.steps.specs.Idle.{is_idle}
use Rattle.histories.specs.History.{History, has_open, reply}
use Rattle.interleaving.specs.SystemState.{SystemState, Stands}
use Rattle.statement.specs.declared.line.Line.{Line}
use Rattle.statement.specs.declared.line.Line.TheVariants.{Nothing, Clock, Step as Asks}
use Rattle.lines.specs.Partial.{Partial}
use Rattle.lines.specs.Lines.{lines_of}
use Rattle.scripts.specs.First.{refusal_in}
use Rattle.scripts.specs.Transcript.{Progress, Reading, after, is_risky, left_by, said}
use Rattle.scripts.specs.declared.replay.ReplayFault.{ReplayFault}
use Rattle.scripts.specs.declared.replay.ReplayFault.TheVariants.{Refused, Open, Read, Memory as OutOfMemory}

-- why what was read of a line is refused, where it is
abbrev pub refusal_to : Schema → Progress → Result Line Refusal → Option Refusal
refusal_to schema p (Err refusal) = Some refusal
refusal_to schema p (Ok Nothing) = None
refusal_to schema p (Ok (Clock reading)) = None
refusal_to schema p (Ok (Asks step)) = refusal_in (reply schema p.history step)

module _ (schema : Schema) (read : Reading) where
  -- why a line is refused, where its mark says whether memory ran out: only one that takes some heeds it
  abbrev pub line_refusal : Bool → Progress → Partial → Option Refusal
  line_refusal m p line =
      if m && is_risky schema read p line then Some Memory
      else refusal_to schema p (said schema read p line)

  -- what lines leave behind so many others; or the number of the first that is refused, from 1, and why.
  -- Memory runs out at the line with the number `out`, or where that is 0 at none
  abbrev pub lines_leave : (out n : ℕ) → Progress → List Partial → Result Progress (ℕ × Refusal)
  lines_leave out n p [] = Ok p
  lines_leave out n p (line ∷ lines) = elim (line_refusal (out == n + 1) p line) [
    | Some refusal ↦ Err (n + 1, refusal)
    | None ↦ lines_leave out (n + 1) (left_by schema p (said schema read p line)) lines
  ]

  -- the same of the lines of a text, after a history and with the clock at 0
  abbrev pub replay_of : (out : ℕ) → History → List ℕ → Result Progress (ℕ × Refusal)
  replay_of out h text = lines_leave out 0 (after h) (lines_of text)

-- the text leaves a history, and no session has a transaction open then
pub record Replays (schema : Schema) (read : Reading) (h : History) (text : List ℕ)
    (later : History) : Type 0 where
  pub progress : Progress
  pub leaves : replay_of schema read 0 h text ≡ Ok progress
  pub later_is : later ≡ progress.history
  pub idle : is_idle (has_open later) ≡ true

-- a session has one open
pub record LeavesOpen (schema : Schema) (read : Reading) (h : History) (text : List ℕ) : Type 0 where
  pub progress : Progress
  pub leaves : replay_of schema read 0 h text ≡ Ok progress
  pub busy : is_idle (has_open progress.history) ≡ false

module _ (schema : Schema) (read : Reading) (h : History) where
  -- A text was read to its end, and a system stands for what it leaves. Where a reader's bytes are
  -- known, the text is what was left of them.
  pub record IsReplayed (s : SystemState) (unread left : Option (List ℕ)) : Type 0 where
    pub text : List ℕ
    pub took : Consumes unread left text
    pub ended_there : IsAtEnd left
    pub later : History
    pub replays : Replays schema read h text later
    pub stands : Stands schema s later

  -- some bytes were read, and of their lines this is the first that is refused, or memory ran out at it;
  -- so it is whatever follows them, where anything can
  pub record IsRefusedAt (number : ℕ) (refusal : Refusal) (unread left : Option (List ℕ)) : Type 0
    where
      pub text : List ℕ
      pub took : Consumes unread left text
      pub out : ℕ
      pub refuses : replay_of schema read out h text ≡ Err (number, refusal)
      pub stays : IsAtEnd left
          ⊎ ((rest : List ℕ) → replay_of schema read out h (text ++ rest) ≡ Err (number, refusal))

  -- a text was read to its end, and leaves a transaction open
  pub record IsLeftOpen (unread left : Option (List ℕ)) : Type 0 where
    pub text : List ℕ
    pub took : Consumes unread left text
    pub ended_there : IsAtEnd left
    pub leaves : LeavesOpen schema read h text

-- why a text was not replayed
abbrev pub IsUnreplayed : ReplayFault → Schema → Reading → History
    → (unread left : Option (List ℕ)) → Type 0
IsUnreplayed (Refused number refusal) schema read h unread left =
    IsRefusedAt schema read h number refusal unread left
IsUnreplayed Open schema read h unread left = IsLeftOpen schema read h unread left
IsUnreplayed Read schema read h unread left = Unit {0}
IsUnreplayed OutOfMemory schema read h unread left = Keeps unread left
