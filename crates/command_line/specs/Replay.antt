-- What the script of a file leaves that is replayed before all else.
use Rattle.std.specs.Prelude.{◌≡◌, ℕ, List, [], Option, Some, None, Err}
use Rattle.clap.specs.Words.{Text}
use Rattle.values.specs.Tables.{Schema}
use Rattle.histories.specs.History.{History}
use Rattle.interleaving.specs.SystemState.{SystemState, Stands}
use Rattle.statement.specs.Line.{line_says}
use Rattle.scripts.specs.Replay.{LeavesOpen, Replays, replay_of}
use Rattle.command_line.specs.declared.fault.Fault.{Fault}
use Rattle.command_line.specs.declared.fault.Fault.TheVariants.{After, AfterOpen, Read, Memory}

-- some text leaves this history: none of its lines is refused, and no session has a transaction open
abbrev pub IsReplay : Schema → History → Type 0
IsReplay schema later = (text : List ℕ) × Replays schema line_says [] text later

-- the history before all else: that of a file's script, where one is named
abbrev pub HasReplayed : Schema → Option Text → History → Type 0
HasReplayed schema None later = later ≡ []
HasReplayed schema (Some file) later = IsReplay schema later

-- why some text is not replayed: this line of it is the first that is refused, or memory ran out at it; or
-- a session has a transaction open; or it could not be read, or memory ran out before
abbrev pub IsNotReplayed : Fault → Schema → Type 0
IsNotReplayed (After number refusal) schema =
    (out : ℕ) × (text : List ℕ) × (replay_of schema line_says out [] text ≡ Err (number, refusal))
IsNotReplayed AfterOpen schema = (text : List ℕ) × LeavesOpen schema line_says [] text
IsNotReplayed Read schema = Unit {0}
IsNotReplayed Memory schema = Unit {0}
IsNotReplayed fault schema = ⊥

-- why there is no store before all else
abbrev pub IsNotAfter : Fault → Schema → Option Text → Type 0
IsNotAfter fault schema None = fault ≡ Memory
IsNotAfter fault schema (Some file) = IsNotReplayed fault schema

-- a store that stands for such a history
pub record IsAfter (schema : Schema) (file : Option Text) (s : SystemState) : Type 0 where
  pub later : History
  pub replayed : HasReplayed schema file later
  pub stands : Stands schema s later
