use Rattle.std.proofs.Common.{subst}
use Rattle.command_line.specs.Load.{IsNamed}
use Rattle.command_line.proofs.LoadParts.{no_rows_of}
use Rattle.command_line.proofs.load.rows_for.Goals as goal

pub returns-in-Err-clause-err : goal.returns-in-Err-clause-err
returns-in-Err-clause-err g c = no_rows_of c.in-Err.fault c.args.schema.now c.args.text.now c.in-Some.table.now (subst (λ name. IsNamed c.args.schema.now name c.in-Some.table.now) c.name_of.ensures c.in-Some.ensures.some) c.in-Err.ensures.err
