-- What a run of a script keeps, by what contracts see of it.
use Rattle.std.specs.Prelude.{◌≡◌, ℕ, List, Option, Bool, true, Result, Err}
use Rattle.std.specs.Io.KnownBytes.{Appends, Keeps}
use Rattle.values.specs.Tables.{Schema}
use Rattle.values.specs.declared.refusal.Refusal.{Refusal}
use Rattle.values.specs.declared.refusal.Refusal.TheVariants.{Memory}
use Rattle.interleaving.specs.SystemState.{Stands}
use Rattle.statement.specs.declared.line.Line.{Line}
use Rattle.statement.specs.Line.{line_says}
use Rattle.statement.specs.Memory.{UnlessMemory}
use Rattle.statement.specs.Writer.{AppendsPrefix}
use Rattle.lines.specs.Partial.{Partial}
use Rattle.scripts.specs.Transcript.{Progress, read_at, reading_takes, line_reply, line_leaves, last_reply, last_leaves}
use Rattle.scripts.specs.Taking.{Feeds, Breaks}
use Rattle.scripts.specs.declared.script.Script.{Script}

-- what the line says
abbrev pub said_by : Script → Result Line Refusal
said_by s = read_at line_says s.system.schema s.reading s.line

-- this was read of the line: memory may have run out where reading it takes some
pub record IsRead (r : Result Line Refusal) (s : Script) : Type 0 where
  pub unless : UnlessMemory r (said_by s)
  pub memory : r ≡ Err Memory → reading_takes s.line ≡ true

-- a run that began with a schema's tables is as far as this
pub record IsAt (s : Script) (schema : Schema) (p : Progress) : Type 0 where
  pub stands : Stands schema s.system p.history
  pub reading_is : s.reading ≡ p.reading

-- a run that differs in its line alone
pub record SameRun (s s' : Script) : Type 0 where
  pub system : s'.system ≡ s.system
  pub reading : s'.reading ≡ s.reading

-- a line was answered, where its mark says whether memory ran out
pub record Answered
    (old new : Option (List ℕ)) (s : Script) (schema : Schema) (p : Progress) (line : Partial)
    : Type 0 where
  pub mark : Bool
  pub wrote : Appends old new (line_reply schema line_says mark p line)
  pub left : IsAt s schema (line_leaves schema line_says mark p line)

-- the writer failed in the reply to a line
pub record Broken
    (old new : Option (List ℕ)) (schema : Schema) (p : Progress) (line : Partial) : Type 0 where
  pub mark : Bool
  pub wrote : AppendsPrefix old new (line_reply schema line_says mark p line)

-- some bytes of the script were taken and answered
pub record Fed
    (old new : Option (List ℕ)) (s s' : Script) (schema : Schema) (p : Progress) (bytes : List ℕ)
    : Type 0 where
  pub later : Progress
  pub left : IsAt s' schema later
  pub fed : Feeds schema line_says old new p s.line later s'.line bytes

-- what was due after the last byte was written, and the run is at the end of its script
pub record Finished
    (old new : Option (List ℕ)) (s s' : Script) (schema : Schema) (p : Progress) : Type 0 where
  pub mark : Bool
  pub wrote : Appends old new (last_reply schema line_says mark p s.line)
  pub left : IsAt s' schema (last_leaves schema line_says mark p s.line)

pub record Unfinished
    (old new : Option (List ℕ)) (s : Script) (schema : Schema) (p : Progress) : Type 0 where
  pub mark : Bool
  pub wrote : AppendsPrefix old new (last_reply schema line_says mark p s.line)

-- nothing was read or written
pub record IsIdle (unread left old new : Option (List ℕ)) : Type 0 where
  pub read : Keeps unread left
  pub wrote : Keeps old new

-- ---- what a call did, wherever the run was

-- the line was answered
abbrev pub AnswersLine : (old new : Option (List ℕ)) → Script → Script → Type 0
AnswersLine old new s s' =
    (schema : Schema) (p : Progress) → IsAt s schema p → Answered old new s' schema p s.line

-- the writer failed in the line's reply
abbrev pub BreaksLine : (old new : Option (List ℕ)) → Script → Type 0
BreaksLine old new s =
    (schema : Schema) (p : Progress) → IsAt s schema p → Broken old new schema p s.line

-- these bytes were taken
abbrev pub TakesBytes : (old new : Option (List ℕ)) → Script → Script → List ℕ → Type 0
TakesBytes old new s s' bytes =
    (schema : Schema) (p : Progress) → IsAt s schema p → Fed old new s s' schema p bytes

-- the writer failed in these bytes
abbrev pub BreaksBytes : (old new : Option (List ℕ)) → Script → List ℕ → Type 0
BreaksBytes old new s bytes =
    (schema : Schema) (p : Progress) → IsAt s schema p
    → Breaks schema line_says old new p s.line bytes

-- the script ended
abbrev pub EndsScript : (old new : Option (List ℕ)) → Script → Script → Type 0
EndsScript old new s s' =
    (schema : Schema) (p : Progress) → IsAt s schema p → Finished old new s s' schema p

-- the writer failed at its end
abbrev pub BreaksEnd : (old new : Option (List ℕ)) → Script → Type 0
BreaksEnd old new s =
    (schema : Schema) (p : Progress) → IsAt s schema p → Unfinished old new s schema p
