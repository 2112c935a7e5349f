-- What a run of the program leaves, by its words, its standard input and its standard output.
use Rattle.std.specs.Prelude.{◌≡◌, ◌⊎◌, ◌≤◌, ℕ, Bool, List, Option, Some, None, Ok, Err, length}
use Rattle.std.specs.Io.KnownBytes.{Appends, Keeps}
use Rattle.clap.specs.Words.{Text}
use Rattle.values.specs.Sample.{sample}
use Rattle.values.specs.Tables.{Schema}
use Rattle.rows.specs.SchemaTable.{read_schema}
use Rattle.rows.specs.declared.schema_reading.SchemaFault.TheVariants as schema
use Rattle.histories.specs.History.{History}
use Rattle.interleaving.specs.SystemState.{SystemState}
use Rattle.statement.specs.Line.{line_says}
use Rattle.statement.specs.Writer.{AppendsPrefix}
use Rattle.listening.specs.declared.limit.Limit.{Limit}
use Rattle.listening.specs.declared.server.Plan.{Plan}
use Rattle.sessions.specs.book.Book.{BookState}
use Rattle.dump_reading.specs.Replayed.{IsTakenAgain}
use Rattle.scripts.specs.Script.{IsIdle}
use Rattle.scripts.specs.Transcript.{IsRunAfter, IsCutAfter, IsStoppedAfter, leaves_after}
use Rattle.command_line.specs.declared.fault.Fault.{Fault}
use Rattle.command_line.specs.declared.fault.Fault.TheVariants.{Words, SchemaSyntax, BadTable, SchemaMemory, NoExport, Read, Write, Memory}
use Rattle.command_line.specs.Options.{Asked, AskFor, AskedMode, Scripts, Listens, AreRequest, AreMistaken}
use Rattle.command_line.specs.Replay.{HasReplayed, IsNotAfter}
use Rattle.command_line.specs.Load.{HasLoaded, Unloaded}
use Rattle.command_line.specs.Export.{Exports, IsOfWriting, IsUnknown, HasExported, Unexported}
use Rattle.command_line.specs.Server.{HasServedAll, HaltsServing}

-- the sample schema, or where a file is named the schema of some text
abbrev pub IsSchemaOf : Option Text → Schema → Type 0
IsSchemaOf None schema = schema ≡ sample
IsSchemaOf (Some file) schema = (text : List ℕ) × (read_schema text ≡ Ok schema)

-- why there is no such schema: memory ran out; or where a file is named it could not be read, or some
-- text has this fault
abbrev pub IsOfSchema : Option Text → Fault → Type 0
IsOfSchema file SchemaMemory = Unit {0}
IsOfSchema (Some file) Read = Unit {0}
IsOfSchema (Some file) (SchemaSyntax at) =
    (text : List ℕ) × (read_schema text ≡ Err (schema.Syntax at))
IsOfSchema (Some file) (BadTable number) =
    (text : List ℕ) × (read_schema text ≡ Err (schema.BadTable number))
IsOfSchema file fault = ⊥

-- ---- the script, after a history

-- where a script's bytes come from: standard input, or a file, whose bytes are not known, and then
-- nothing of standard input is read
abbrev pub ComesFrom : Option Text → (unread left from to : Option (List ℕ)) → Type 0
ComesFrom None unread left from to = (from ≡ unread) × (to ≡ left)
ComesFrom (Some file) unread left from to = Keeps unread left

-- a script was run to its end, and a store stands for what it leaves
pub record HasRun (script : Option Text) (schema : Schema) (h : History) (s : SystemState)
    (unread left old new : Option (List ℕ)) : Type 0 where
  pub from : Option (List ℕ)
  pub to : Option (List ℕ)
  pub source : ComesFrom script unread left from to
  pub run : IsRunAfter schema line_says h s from to old new
  pub end : History
  pub end_is : end ≡ (leaves_after schema line_says h run.ran.marks run.ran.text).history

-- a script was run up to a fault of its reader
pub record HasReadFault (script : Option Text) (schema : Schema) (h : History)
    (unread left old new : Option (List ℕ)) : Type 0 where
  pub from : Option (List ℕ)
  pub to : Option (List ℕ)
  pub source : ComesFrom script unread left from to
  pub cut : IsCutAfter schema line_says h from to old new

-- a script was run up to a fault of the writer
pub record HasWriteFault (script : Option Text) (schema : Schema) (h : History)
    (unread left old new : Option (List ℕ)) : Type 0 where
  pub from : Option (List ℕ)
  pub to : Option (List ℕ)
  pub source : ComesFrom script unread left from to
  pub stopped : IsStoppedAfter schema line_says h from to old new

-- what a fault of a script leaves: it may have been read up to a read fault or a write fault, and
-- nothing was read or written where memory ran out
abbrev pub Leaves : Fault → Option Text → Schema → History → (unread left old new : Option (List ℕ))
    → Type 0
Leaves Read script schema h unread left old new =
    IsIdle unread left old new ⊎ HasReadFault script schema h unread left old new
Leaves Write script schema h unread left old new = HasWriteFault script schema h unread left old new
Leaves Memory script schema h unread left old new = IsIdle unread left old new
Leaves fault script schema h unread left old new = ⊥

-- ---- the script and then the export

pub record HasRunOn (script : Option Text) (number : Option ℕ) (schema : Schema) (h end : History)
    (unread left old new : Option (List ℕ)) : Type 0 where
  pub s : SystemState
  pub between : Option (List ℕ)
  pub ran : HasRun script schema h s unread left old between
  pub end_is : end ≡ ran.end
  pub exported : HasExported schema number ran.end between new

-- a fault of the export
pub record HaltsLate (fault : Fault) (script : Option Text) (number : Option ℕ) (schema : Schema)
    (h : History) (unread left old new : Option (List ℕ)) : Type 0 where
  pub s : SystemState
  pub between : Option (List ℕ)
  pub ran : HasRun script schema h s unread left old between
  pub unexported : Unexported fault schema number ran.end between new

abbrev pub HaltsOn : Fault → Option Text → Option ℕ → Schema → History
    → (unread left old new : Option (List ℕ)) → Type 0
HaltsOn fault script number schema h unread left old new =
    Leaves fault script schema h unread left old new
    ⊎ HaltsLate fault script number schema h unread left old new

-- ---- the load before them

pub record HasRunLoaded (load script : Option Text) (number : Option ℕ) (schema : Schema)
    (before end : History) (unread left old new : Option (List ℕ)) : Type 0 where
  pub later : History
  pub between : Option (List ℕ)
  pub loaded : HasLoaded schema load before later old between
  pub rest : HasRunOn script number schema later end unread left between new

-- a fault of the load: nothing was read of standard input
pub record HaltsEarly (fault : Fault) (load : Option Text) (schema : Schema) (before : History)
    (unread left old new : Option (List ℕ)) : Type 0 where
  pub read : Keeps unread left
  pub unloaded : Unloaded fault schema load before old new

pub record HaltsLoaded (fault : Fault) (load script : Option Text) (number : Option ℕ)
    (schema : Schema) (before : History) (unread left old new : Option (List ℕ)) : Type 0 where
  pub later : History
  pub between : Option (List ℕ)
  pub loaded : HasLoaded schema load before later old between
  pub rest : HaltsOn fault script number schema later unread left between new

abbrev pub HaltsAfter : Fault → (load script : Option Text) → Option ℕ → Schema → History
    → (unread left old new : Option (List ℕ)) → Type 0
HaltsAfter fault load script number schema before unread left old new =
    HaltsEarly fault load schema before unread left old new
    ⊎ HaltsLoaded fault load script number schema before unread left old new

-- ---- what is asked for, after a history

abbrev pub plan_of : (port : ℕ) → Limit → (entries : ℕ) → (idle : Option ℕ) → (log : Bool) → (number : Option ℕ) → Plan
plan_of port limit entries idle log number =
    record { port = port; limit = limit; entries = entries; idle = idle; is_logged = log; export = number }

abbrev pub HasRunMode : AskedMode → Option Text → Option ℕ → Schema → (before end : History)
    → (unread left old new : Option (List ℕ)) → Type 0
HasRunMode (Scripts script) load number schema before end unread left old new =
    HasRunLoaded load script number schema before end unread left old new
HasRunMode (Listens port limit entries idle log) load number schema before end unread left old new =
    (b : BookState)
    × HasServedAll load (plan_of port limit entries idle log number) schema before end b unread left old new

abbrev pub HaltsMode : Fault → AskedMode → Option Text → Option ℕ → Schema → History
    → (unread left old new : Option (List ℕ)) → Type 0
HaltsMode fault (Scripts script) load number schema before unread left old new =
    HaltsAfter fault load script number schema before unread left old new
HaltsMode fault (Listens port limit entries idle log) load number schema before unread left old new =
    HaltsServing fault load (plan_of port limit entries idle log number) schema before unread left old new

-- ---- the replay before all else

-- all of it was done, which came to this history
pub record HasRunAll (mode : AskedMode) (after load : Option Text) (number : Option ℕ)
    (schema : Schema) (end : History) (unread left old new : Option (List ℕ)) : Type 0 where
  pub before : History
  pub replayed : HasReplayed schema after before
  pub rest : HasRunMode mode load number schema before end unread left old new

pub record HaltsReplayed (fault : Fault) (mode : AskedMode) (after load : Option Text)
    (number : Option ℕ) (schema : Schema) (unread left old new : Option (List ℕ)) : Type 0 where
  pub before : History
  pub replayed : HasReplayed schema after before
  pub rest : HaltsMode fault mode load number schema before unread left old new

-- a fault of the replay, at which nothing was read or written; or one that came after it
abbrev pub HaltsAt : Fault → AskedMode → (after load : Option Text) → Option ℕ → Schema
    → (unread left old new : Option (List ℕ)) → Type 0
HaltsAt fault mode after load number schema unread left old new =
    (IsNotAfter fault schema after × IsIdle unread left old new)
    ⊎ HaltsReplayed fault mode after load number schema unread left old new

-- ---- the dump behind all else

-- the dump stopped: all before it was done
pub record IsUndumped (fault : Fault) (asked : Asked) (number : Option ℕ) (schema : Schema)
    (unread left old new : Option (List ℕ)) : Type 0 where
  pub file : Text
  pub dump_is : asked.dump ≡ Some file
  pub why : IsOfWriting fault
  pub end : History
  pub ran : HasRunAll asked.mode asked.after asked.load number schema end unread left old new

abbrev pub HaltsOrUndumped : Fault → Asked → Option ℕ → Schema
    → (unread left old new : Option (List ℕ)) → Type 0
HaltsOrUndumped fault asked number schema unread left old new =
    HaltsAt fault asked.mode asked.after asked.load number schema unread left old new
    ⊎ IsUndumped fault asked number schema unread left old new

-- ---- what is asked for, over a schema

pub record HasDone (asked : Asked) (schema : Schema) (unread left old new : Option (List ℕ))
    : Type 0 where
  pub number : Option ℕ
  pub exports : Exports schema asked.exports number
  pub end : History
  pub ran : HasRunAll asked.mode asked.after asked.load number schema end unread left old new

-- there is no table to be exported: nothing was read or written
pub record HasNoExport (fault : Fault) (asked : Asked) (schema : Schema)
    (unread left old new : Option (List ℕ)) : Type 0 where
  pub fault_is : fault ≡ NoExport
  pub unknown : IsUnknown schema asked.exports
  pub idle : IsIdle unread left old new

pub record HasHalted (fault : Fault) (asked : Asked) (schema : Schema)
    (unread left old new : Option (List ℕ)) : Type 0 where
  pub number : Option ℕ
  pub exports : Exports schema asked.exports number
  pub halts : HaltsOrUndumped fault asked number schema unread left old new

abbrev pub Halts : Fault → Asked → Schema → (unread left old new : Option (List ℕ)) → Type 0
Halts fault asked schema unread left old new =
    HasNoExport fault asked schema unread left old new
    ⊎ HasHalted fault asked schema unread left old new

-- ---- the words

-- help or the version was asked for, and a text was written, which is not empty
pub record HasAnswered (words : List Text) (old new : Option (List ℕ)) : Type 0 where
  pub request : AreRequest words
  pub text : List ℕ
  pub some : 1 ≤ length text
  pub wrote : Appends old new text

-- the writer failed in that text
pub record HasHalfAnswered (words : List Text) (old new : Option (List ℕ)) : Type 0 where
  pub request : AreRequest words
  pub text : List ℕ
  pub wrote : AppendsPrefix old new text

-- what a fault leaves of a text
abbrev pub IsUnshown : Fault → (old new : Option (List ℕ)) → Type 0
IsUnshown Write old new = (text : List ℕ) × AppendsPrefix old new text
IsUnshown Memory old new = Keeps old new
IsUnshown fault old new = ⊥

-- what a fault leaves where the words are not taken
abbrev pub IsUnanswered : Fault → List Text → (old new : Option (List ℕ)) → Type 0
IsUnanswered (Words fault) words old new = AreMistaken words × Keeps old new
IsUnanswered Write words old new = HasHalfAnswered words old new
IsUnanswered Memory words old new = Keeps old new
IsUnanswered fault words old new = ⊥

-- nothing was read
abbrev pub IsAnswered : List Text → (unread left old new : Option (List ℕ)) → Type 0
IsAnswered words unread left old new = Keeps unread left × HasAnswered words old new

abbrev pub IsHalfAnswered : List Text → (unread left old new : Option (List ℕ)) → Type 0
IsHalfAnswered words unread left old new = Keeps unread left × HasHalfAnswered words old new

-- what is asked for was done; and the dump of the history that it came to is taken before a later run
-- over the same schema, and leaves that history's tables and transactions
pub record IsComplete (asked : Asked) (unread left old new : Option (List ℕ)) : Type 0 where
  pub schema : Schema
  pub schema_is : IsSchemaOf asked.schema schema
  pub did : HasDone asked schema unread left old new
  pub again : IsTakenAgain schema did.end

pub record IsRun (words : List Text) (unread left old new : Option (List ℕ)) : Type 0 where
  pub asked : Asked
  pub ask_for : AskFor words asked
  pub complete : IsComplete asked unread left old new

abbrev pub IsDone : List Text → (unread left old new : Option (List ℕ)) → Type 0
IsDone words unread left old new =
    IsAnswered words unread left old new ⊎ IsRun words unread left old new

-- a fault came over a schema
pub record IsHalted (fault : Fault) (asked : Asked) (unread left old new : Option (List ℕ))
    : Type 0 where
  pub schema : Schema
  pub schema_is : IsSchemaOf asked.schema schema
  pub halts : Halts fault asked schema unread left old new

-- there is no schema, or a fault came over one
abbrev pub IsStuck : Fault → Asked → (unread left old new : Option (List ℕ)) → Type 0
IsStuck fault asked unread left old new =
    (IsOfSchema asked.schema fault × IsIdle unread left old new)
    ⊎ IsHalted fault asked unread left old new

pub record IsBroken (words : List Text) (unread left old new : Option (List ℕ)) : Type 0 where
  pub asked : Asked
  pub ask_for : AskFor words asked
  pub fault : Fault
  pub stuck : IsStuck fault asked unread left old new

pub record IsRefused (words : List Text) (unread left old new : Option (List ℕ)) : Type 0 where
  pub refused : AreMistaken words
  pub idle : IsIdle unread left old new

-- memory ran out before the words were read, help or the version was not written whole, or the words
-- are taken and a fault came
abbrev pub IsFaulty : List Text → (unread left old new : Option (List ℕ)) → Type 0
IsFaulty words unread left old new =
    IsIdle unread left old new
    ⊎ (IsHalfAnswered words unread left old new ⊎ IsBroken words unread left old new)
