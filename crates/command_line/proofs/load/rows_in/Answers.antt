use Rattle.std.proofs.Common.{subst}
use Rattle.interchange.specs.Load.{rows_of}
use Rattle.interchange.specs.Stream.{IsUnloaded}
use Rattle.interchange.proofs.StreamRows.{loads_of, taken_rows}
use Rattle.command_line.proofs.LoadRefused.{unread_of}
use Rattle.command_line.proofs.load.rows_in.Goals as goal

pub returns-in-Ok-clause-ok : goal.returns-in-Ok-clause-ok
returns-in-Ok-clause-ok g c =
    let load = c.in-Ok.ensures.ok in
    (load.bytes, loads_of c.args.table.now load.bytes _ load.records load.are_records (taken_rows c.args.table.now (rows_of c.args.table.now load.records) _ load.rows_are))

pub returns-in-Err-Refused-clause-err : goal.returns-in-Err-Refused-clause-err
returns-in-Err-Refused-clause-err g c =
    unread_of c.args.table.now _ c.in-Err-Refused.refusal (subst (λ fault. IsUnloaded fault c.args.table.now (g.F.Read.remaining c.args.file.now)) c.in-Err-Refused.field-0-is c.in-Err-Refused.ensures.err)
