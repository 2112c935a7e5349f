use Rattle.std.proofs.Common.{refl}
use Rattle.lines.proofs.LineBufferAdding.{empty_fits}
use Rattle.scripts.proofs.ReplayGoing.{feed_on_ok, feed_stops_err}
use Rattle.scripts.proofs.ScriptRunning.{on_ok}
use Rattle.scripts.proofs.replay.take_feed.Goals as goal

pub returns-clause-ok : goal.returns-clause-ok
returns-clause-ok c = feed_on_ok c.end_line.result c.args.replay.now (record c.args.replay.now { script = record c.args.replay.now.script { line = c.end.new.self } }) c.end_line.new.replay
    (record { line_is = c.end.ensures; same = record { system = refl; reading = refl }; taken_stays = refl }) c.end_line.ensures.ok c.end_line.ensures.taken c.end_line.ensures.line

pub returns-clause-err : goal.returns-clause-err
returns-clause-err c = feed_stops_err c.end_line.result c.args.replay.now (record c.args.replay.now { script = record c.args.replay.now.script { line = c.end.new.self } })
    (record { line_is = c.end.ensures; same = record { system = refl; reading = refl }; taken_stays = refl }) c.end_line.ensures.err

pub returns-clause-room : goal.returns-clause-room
returns-clause-room c = on_ok c.end_line.result (empty_fits c.end_line.new.replay.script.line) c.end_line.ensures.line
