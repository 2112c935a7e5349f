-- What a run that serves connections leaves.
use Rattle.std.specs.Prelude.{◌≡◌, ◌⊎◌, ℕ, List, Option, Some, None, Result, Ok, Err}
use Rattle.clap.specs.Words.{Text}
use Rattle.values.specs.Tables.{Schema}
use Rattle.histories.specs.History.{History, schema_after}
use Rattle.scripts.specs.Script.{IsIdle}
use Rattle.listening.specs.declared.server.Plan.{Plan}
use Rattle.listening.specs.declared.server.TableRows.{TableRows}
use Rattle.listening.specs.declared.server.Served.{Served}
use Rattle.listening.specs.declared.server.ServerFault.{ServerFault}
use Rattle.listening.specs.Connection.{HasRead}
use Rattle.listening.specs.Server.{HasServed, HasStopped, IsRunAfter}
use Rattle.runs.specs.Event.{history_after}
use Rattle.serving.specs.Progress.{Given}
use Rattle.sessions.specs.book.Book.{BookState}
use Rattle.command_line.specs.declared.dumped.Left.{Left}
use Rattle.command_line.specs.declared.dumped.Store.TheVariants.{Closed}
use Rattle.command_line.specs.declared.fault.Fault.{Fault}
use Rattle.command_line.specs.Fault.{of_server}
use Rattle.command_line.specs.Load.{FileSays, HasNoRows}

-- the rows that are loaded, where a file is named: those of some bytes for the table that is named
abbrev pub IsFirst : Schema → Option Text → Option TableRows → Type 0
IsFirst schema None first = first ≡ None
IsFirst schema (Some text) first =
    (rows : TableRows) × (first ≡ Some rows) × FileSays schema text rows.number (Ok rows.rows.items)

-- what a closed store leaves, with its tables
abbrev pub left_by : Served → Left
left_by served = record { tables = served.tables; store = Closed served.closed }

-- what a server leaves: a fault is reported as it is
abbrev pub left_of : Result Served ServerFault → Result Left Fault
left_of (Ok served) = Ok (left_by served)
left_of (Err stopped) = Err (of_server stopped)

-- the history of a run of sessions
abbrev pub IsEndOf : (start : Schema) (before : History) (plan : Plan) (first : Option TableRows)
    (receipts : List Given) (b : BookState) → IsRunAfter start before plan first receipts b
    → (end : History) → Type 0
IsEndOf start before plan None receipts b run end =
    end ≡ history_after before run.history.events
IsEndOf start before plan (Some rows) receipts b run end =
    end ≡ history_after before run.history.events

-- after a history a server was served to its end, which is this history; of standard input nothing was read
-- where the server has a limit
pub record HasServedAll (load : Option Text) (plan : Plan) (start : Schema) (before end : History)
    (b : BookState) (unread left old new : Option (List ℕ)) : Type 0 where
  pub first : Option TableRows
  pub first_is : IsFirst (schema_after start before) load first
  pub read : HasRead plan.limit unread left
  pub served : HasServed start before first plan b old new
  pub ends : IsEndOf start before plan first served.receipts b served.run end

-- there are no rows for the text of --load
abbrev pub IsNoFirst : Fault → Option Text → Schema → Type 0
IsNoFirst fault None schema = ⊥
IsNoFirst fault (Some text) schema = HasNoRows fault schema text

-- the server stopped before its end
pub record StopsServing (fault : Fault) (load : Option Text) (plan : Plan) (start : Schema)
    (before : History) (unread left old new : Option (List ℕ)) : Type 0 where
  pub first : Option TableRows
  pub first_is : IsFirst (schema_after start before) load first
  pub read : HasRead plan.limit unread left
  pub why : ServerFault
  pub fault_is : fault ≡ of_server why
  pub stopped : HasStopped why start before first plan old new

abbrev pub HaltsServing : Fault → Option Text → Plan → Schema → History
    → (unread left old new : Option (List ℕ)) → Type 0
HaltsServing fault load plan start before unread left old new =
    (IsNoFirst fault load (schema_after start before) × IsIdle unread left old new)
    ⊎ StopsServing fault load plan start before unread left old new
