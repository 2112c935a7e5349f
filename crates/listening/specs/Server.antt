-- What a server writes, and what its closed store is.
use Rattle.std.specs.Prelude.{◌≡◌, ◌≢◌, ◌⊎◌, ℕ, List, [], Option, Some, None, IfSome, IsSome, All, codes, length}
use Rattle.std.specs.Io.KnownBytes.{Appends, Keeps}
use Rattle.values.specs.Commits.{max_instant}
use Rattle.values.specs.Log.{Row, changes}
use Rattle.values.specs.Tables.{Schema, table_at}
use Rattle.growlog.specs.Origin.{Origin}
use Rattle.values.specs.Versions.{answer}
use Rattle.values.specs.declared.table.Table.{Table}
use Rattle.values.specs.declared.query.Form.TheVariants.{Between}
use Rattle.values.specs.declared.refusal.Refusal.{Refusal}
use Rattle.statement.specs.Print.{numbered}
use Rattle.statement.specs.Writer.{AppendsPrefix}
use Rattle.interchange.specs.Version.{export_text}
use Rattle.interchange.specs.Report.{loaded_text}
use Rattle.sessions.specs.journal.Entries.{entry_at, log}
use Rattle.sessions.specs.book.Book.{BookState, IsBook}
use Rattle.histories.specs.History.{History, schema_after}
use Rattle.serving.specs.Progress.{Given}
use Rattle.runs.specs.OneHistory.{come_to}
use Rattle.listening.specs.Loading.{IsLoadedAt, IsUnloaded}
use Rattle.listening.specs.Connection.{IsOneRun, IsServedRun}
use Rattle.listening.specs.declared.connection.ListenFault.TheVariants.{Socket, Memory, NotClosed}
use Rattle.listening.specs.declared.limit.Limit.{Limit}
use Rattle.listening.specs.declared.server.Plan.{Plan}
use Rattle.listening.specs.declared.server.TableRows.{TableRows}
use Rattle.listening.specs.declared.server.ServerFault.{ServerFault}
use Rattle.listening.specs.declared.server.ServerFault.TheVariants.{Load, Write, Listen}

-- ---- the rows that are loaded first

pub record HasReported (schema : Schema) (first : TableRows) (receipts : List Given)
    (old new : Option (List ℕ)) : Type 0 where
  pub instant : ℕ
  pub loaded : IsLoadedAt schema first.number first.rows.items receipts instant
  pub wrote : Appends old new (loaded_text (length first.rows.items) instant)

-- what is loaded, where something is, with its receipts, and its report
abbrev pub HasFirst : Schema → Option TableRows → List Given → (old new : Option (List ℕ)) → Type 0
HasFirst schema None receipts old new = (receipts ≡ []) × Keeps old new
HasFirst schema (Some first) receipts old new = HasReported schema first receipts old new

-- ---- a store that was served and closed

-- its journal is legal, its tree holds what the journal's log changed, and these receipts are of its entries
pub record IsClosedWith (o : Origin) (receipts : List Given) (b : BookState) : Type 0 where
  pub is_book : IsBook o b
  pub stand : All (λ g. entry_at b.entries g.number ≡ Some g.entry) receipts

-- what its sessions were sent goes on from a history as one with it, and this is how they were served,
-- receipt by receipt
pub record IsRunOf (start : Schema) (before : History) (limit : Limit) (most : ℕ) (table : ℕ) (rows : List Row)
    (receipts : List Given) (b : BookState) : Type 0 where
  pub history : IsOneRun start before limit most table rows b
  pub served : IsServedRun (come_to start before most) limit table rows receipts b

-- the run of its sessions, within the limits of the plan, after the rows that were loaded, where some were
abbrev pub IsRunAfter : Schema → History → Plan → Option TableRows → List Given → BookState → Type 0
IsRunAfter start before plan None receipts b = IsRunOf start before plan.limit plan.entries 0 [] receipts b
IsRunAfter start before plan (Some first) receipts b =
    IsRunOf start before plan.limit plan.entries first.number first.rows.items receipts b

-- the table that is exported, where one is, is one of these
abbrev pub IsExportOf : Schema → Option ℕ → Type 0
IsExportOf schema number = IfSome number (λ n. IsSome (table_at schema n))

-- the port is the one that is asked for, unless the system is to choose one
abbrev pub IsPortFor : (asked port : ℕ) → Type 0
IsPortFor asked port = asked ≢ 0 → port ≡ asked

-- the line that tells the port
abbrev pub HasListened : (asked : ℕ) → (old new : Option (List ℕ)) → Type 0
HasListened asked old new =
    (port : ℕ) × IsPortFor asked port × Appends old new (numbered (codes "listening ") port)

-- the line that tells how many entries there are
abbrev pub HasClosed : BookState → (old new : Option (List ℕ)) → Type 0
HasClosed b old new = Appends old new (numbered (codes "closed ") (length b.entries))

-- a table with all versions that the journal's log gives
abbrev pub versions_text : Origin → BookState → Table → List ℕ
versions_text o b table = export_text table
    (answer (changes (log o b.entries)) table (Between 0 max_instant)
    (record { table = table.number; comparisons = [] }))

pub record HasWritten (o : Origin) (number : ℕ) (b : BookState) (old new : Option (List ℕ))
    : Type 0 where
  pub table : Table
  pub table_is : table_at o.schema number ≡ Some table
  pub wrote : Appends old new (versions_text o b table)

-- the table that is exported, where one is
abbrev pub HasExported : Origin → Option ℕ → BookState → (old new : Option (List ℕ)) → Type 0
HasExported o None b old new = Keeps old new
HasExported o (Some number) b old new = HasWritten o number b old new

-- ---- all of it

-- the number of entries, and then the table that is exported
pub record EndsAfter (o : Origin) (number : Option ℕ) (b : BookState)
    (old new : Option (List ℕ)) : Type 0 where
  pub ended : Option (List ℕ)
  pub closes : HasClosed b old ended
  pub exported : HasExported o number b ended new

-- the report of what was loaded, the port, and the end of a store that began with what a history had
-- come to and has the receipts of the load; its run goes on from that history as one with it
pub record HasServed (start : Schema) (before : History) (first : Option TableRows) (plan : Plan)
    (b : BookState) (old new : Option (List ℕ)) : Type 0 where
  pub receipts : List Given
  pub reported : Option (List ℕ)
  pub listening : Option (List ℕ)
  pub loads : HasFirst (schema_after start before) first receipts old reported
  pub listens : HasListened plan.port reported listening
  pub closed : IsClosedWith (come_to start before plan.entries) receipts b
  pub run : IsRunAfter start before plan first receipts b
  pub ends : EndsAfter (come_to start before plan.entries) plan.export b listening new

-- ---- what a fault leaves: what came before it, and a prefix of what was to be written next

-- a prefix of the report of what was loaded
pub record StopsInReport (schema : Schema) (first : Option TableRows) (old new : Option (List ℕ))
    : Type 0 where
  pub rows : TableRows
  pub first_is : first ≡ Some rows
  pub receipts : List Given
  pub instant : ℕ
  pub loaded : IsLoadedAt schema rows.number rows.rows.items receipts instant
  pub wrote : AppendsPrefix old new (loaded_text (length rows.rows.items) instant)

-- a prefix of the line that tells the port
abbrev pub StopsInPort : (asked : ℕ) → (old new : Option (List ℕ)) → Type 0
StopsInPort asked old new =
    (port : ℕ) × IsPortFor asked port × AppendsPrefix old new (numbered (codes "listening ") port)

-- the writer failed in the line that tells the port; nothing was written where the port cannot be
-- listened at; and the port was told where sessions were not served to a closed store
abbrev pub StopsListening : ServerFault → (asked : ℕ) → (old new : Option (List ℕ)) → Type 0
StopsListening (Load refusal) asked old new = ⊥
StopsListening Write asked old new = StopsInPort asked old new
StopsListening (Listen Socket) asked old new = Keeps old new
StopsListening (Listen Memory) asked old new = HasListened asked old new
StopsListening (Listen NotClosed) asked old new = HasListened asked old new

pub record StopsAtPort (fault : ServerFault) (schema : Schema) (first : Option TableRows)
    (asked : ℕ) (old new : Option (List ℕ)) : Type 0 where
  pub receipts : List Given
  pub reported : Option (List ℕ)
  pub loads : HasFirst schema first receipts old reported
  pub stops : StopsListening fault asked reported new

-- a prefix of the table that is exported
pub record StopsInExport (o : Origin) (number : Option ℕ) (b : BookState)
    (old new : Option (List ℕ)) : Type 0 where
  pub ended : Option (List ℕ)
  pub closes : HasClosed b old ended
  pub n : ℕ
  pub number_is : number ≡ Some n
  pub table : Table
  pub table_is : table_at o.schema n ≡ Some table
  pub wrote : AppendsPrefix ended new (versions_text o b table)

-- the writer failed in the line that tells how many entries there are, or in the table; memory runs
-- out in the table alone
abbrev pub StopsLate : ServerFault → Origin → Option ℕ → BookState → (old new : Option (List ℕ))
    → Type 0
StopsLate Write o number b old new =
    AppendsPrefix old new (numbered (codes "closed ") (length b.entries))
    ⊎ StopsInExport o number b old new
StopsLate (Listen Memory) o number b old new = StopsInExport o number b old new
StopsLate (Listen Socket) o number b old new = ⊥
StopsLate (Listen NotClosed) o number b old new = ⊥
StopsLate (Load refusal) o number b old new = ⊥

pub record StopsAfter (fault : ServerFault) (start : Schema) (before : History)
    (first : Option TableRows) (plan : Plan) (old new : Option (List ℕ)) : Type 0 where
  pub receipts : List Given
  pub reported : Option (List ℕ)
  pub listening : Option (List ℕ)
  pub b : BookState
  pub loads : HasFirst (schema_after start before) first receipts old reported
  pub listens : HasListened plan.port reported listening
  pub closed : IsClosedWith (come_to start before plan.entries) receipts b
  pub run : IsRunAfter start before plan first receipts b
  pub stops : StopsLate fault (come_to start before plan.entries) plan.export b listening new

-- why an export stops: the writer failed, or memory ran out
abbrev pub IsOfExport : ServerFault → Type 0
IsOfExport fault = (fault ≡ Write) ⊎ (fault ≡ Listen Memory)

-- why rows are not loaded, where there are some
abbrev pub IsRefusedFirst : Schema → Option TableRows → Refusal → Type 0
IsRefusedFirst schema None refusal = ⊥
IsRefusedFirst schema (Some first) refusal =
    (receipts : List Given) × IsUnloaded schema first.number first.rows.items refusal receipts

-- the rows are refused, and nothing was written; or the writer failed in the report
abbrev pub HasNoFirst : ServerFault → Schema → Option TableRows
    → (old new : Option (List ℕ)) → Type 0
HasNoFirst (Load refusal) schema first old new = IsRefusedFirst schema first refusal × Keeps old new
HasNoFirst Write schema first old new = StopsInReport schema first old new
HasNoFirst (Listen fault) schema first old new = ⊥

-- memory ran out before there was a store
abbrev pub HasNoStore : ServerFault → (old new : Option (List ℕ)) → Type 0
HasNoStore fault old new = (fault ≡ Listen Memory) × Keeps old new

abbrev pub StopsSomewhere : ServerFault → Schema → History → Option TableRows → Plan
    → (old new : Option (List ℕ)) → Type 0
StopsSomewhere fault start before first plan old new =
    StopsAtPort fault (schema_after start before) first plan.port old new
    ⊎ StopsAfter fault start before first plan old new

-- where a server stopped, and what was written until then
abbrev pub HasStopped : ServerFault → Schema → History → Option TableRows → Plan
    → (old new : Option (List ℕ)) → Type 0
HasStopped fault start before first plan old new =
    HasNoStore fault old new
    ⊎ (HasNoFirst fault (schema_after start before) first old new
    ⊎ StopsSomewhere fault start before first plan old new)
