-- The faults of schemas and of runs as faults of the program.
use Rattle.std.specs.Prelude.{Bool, true, false, Result, Ok, Err}
use Rattle.scripts.specs.declared.replay.ReplayFault.{ReplayFault}
use Rattle.scripts.specs.declared.replay.ReplayFault.TheVariants as replay
use Rattle.scripts.specs.declared.script.RunFault.{RunFault}
use Rattle.scripts.specs.declared.script.RunFault.TheVariants as run
use Rattle.rows.specs.declared.schema_reading.SchemaFault.{SchemaFault}
use Rattle.rows.specs.declared.schema_reading.SchemaFault.TheVariants as schema
use Rattle.interchange.specs.declared.version.ExportFault.{ExportFault}
use Rattle.interchange.specs.declared.version.ExportFault.TheVariants as export
use Rattle.dumping.specs.declared.fault.DumpFault.{DumpFault}
use Rattle.dumping.specs.declared.fault.DumpFault.TheVariants as dump
use Rattle.listening.specs.declared.connection.ListenFault.TheVariants as listen
use Rattle.listening.specs.declared.server.ServerFault.{ServerFault}
use Rattle.listening.specs.declared.server.ServerFault.TheVariants as server
use Rattle.command_line.specs.declared.fault.Fault.{Fault}
use Rattle.command_line.specs.declared.fault.Fault.TheVariants.{Words, SchemaSyntax, BadTable, SchemaMemory, After, AfterOpen, Load, Read, Write, Socket, NotClosed, Memory}

-- the words are at fault
abbrev pub is_of_words : Fault → Bool
is_of_words (Words fault) = true
is_of_words fault = false

abbrev pub of_schema : SchemaFault → Fault
of_schema (schema.Syntax at) = SchemaSyntax at
of_schema (schema.BadTable number) = BadTable number
of_schema schema.Memory = SchemaMemory

-- a run over a store as it is meets no refusal before its script
abbrev pub of_run : RunFault → Fault
of_run (run.First refusal) = Memory
of_run run.Read = Read
of_run run.Write = Write
of_run run.Memory = Memory

-- what a run comes to: a fault is reported as it is
abbrev pub outcome_of : {S : Type 0} → Result S RunFault → Result S Fault
outcome_of (Ok system) = Ok system
outcome_of (Err stopped) = Err (of_run stopped)

abbrev pub of_replay : ReplayFault → Fault
of_replay (replay.Refused line refusal) = After line refusal
of_replay replay.Open = AfterOpen
of_replay replay.Read = Read
of_replay replay.Memory = Memory

abbrev pub of_export : ExportFault → Fault
of_export export.Write = Write
of_export export.Memory = Memory

abbrev pub of_dump : DumpFault → Fault
of_dump dump.Write = Write
of_dump dump.Memory = Memory

abbrev pub of_server : ServerFault → Fault
of_server (server.Load refusal) = Load refusal
of_server server.Write = Write
of_server (server.Listen listen.Socket) = Socket
of_server (server.Listen listen.Memory) = Memory
of_server (server.Listen listen.NotClosed) = NotClosed
