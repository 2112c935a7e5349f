use Rattle.std.proofs.Common.{refl}
use Rattle.lines.proofs.LineBufferAdding.{empty_fits}
use Rattle.scripts.proofs.ScriptRunning.{end_ok, end_err, on_ok}
use Rattle.scripts.proofs.script.take_feed.Goals as goal

pub returns-clause-ok : goal.returns-clause-ok
returns-clause-ok g c = end_ok _ _ c.end_line.result c.args.script.now (record c.args.script.now { line = c.end.new.self }) c.end_line.new.script 10 c.end.ensures (record { system = refl; reading = refl }) refl c.end_line.ensures.ok c.end_line.ensures.line

pub returns-clause-err : goal.returns-clause-err
returns-clause-err g c = end_err _ _ c.end_line.result c.args.script.now (record c.args.script.now { line = c.end.new.self }) 10 c.end.ensures (record { system = refl; reading = refl }) refl c.end_line.ensures.err

pub returns-clause-room : goal.returns-clause-room
returns-clause-room g c = on_ok c.end_line.result (empty_fits c.end_line.new.script.line) c.end_line.ensures.line
