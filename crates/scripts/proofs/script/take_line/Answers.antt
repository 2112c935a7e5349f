use Rattle.std.proofs.Common.{refl}
use Rattle.scripts.proofs.ScriptRunning.{piece_taken, stops_before, line_fed, line_broken}
use Rattle.scripts.proofs.script.take_line.Goals as goal

pub returns-then-n-bytes-clause-ok : goal.returns-then-n-bytes-clause-ok
returns-then-n-bytes-clause-ok g c = piece_taken (g.W.Write.contents c.args.writer.now) c.args.script.now (record c.args.script.now { line = c.add.new.self }) c.args.bytes.now c.split_at.result.0.now c.line_length-n.result
    c.line_length-n.ensures.length c.line_length-n.ensures.within c.split_at.ensures.front c.add.ensures.line (record { system = refl; reading = refl })

pub returns-in-Ok-clause-ok : goal.returns-in-Ok-clause-ok
returns-in-Ok-clause-ok g c = line_fed (g.W.Write.contents c.args.writer.now) (g.W.Write.contents c.take_feed.new.writer) c.args.script.now (record c.args.script.now { line = c.add.new.self }) c.take_feed.new.script c.args.bytes.now c.line_length-n.result
    c.line_length-n.ensures.length (stops_before _ _ c.line_length-n.ensures.within c.if-n-bytes.false)
    (piece_taken (g.W.Write.contents c.args.writer.now) c.args.script.now (record c.args.script.now { line = c.add.new.self }) c.args.bytes.now c.split_at.result.0.now c.line_length-n.result
    c.line_length-n.ensures.length c.line_length-n.ensures.within c.split_at.ensures.front c.add.ensures.line (record { system = refl; reading = refl }))
    c.in-Ok.ensures.ok

pub returns-in-Err-clause-err : goal.returns-in-Err-clause-err
returns-in-Err-clause-err g c = line_broken (g.W.Write.contents c.args.writer.now) (g.W.Write.contents c.take_feed.new.writer) c.args.script.now (record c.args.script.now { line = c.add.new.self }) c.args.bytes.now c.line_length-n.result
    c.line_length-n.ensures.length (stops_before _ _ c.line_length-n.ensures.within c.if-n-bytes.false)
    (piece_taken (g.W.Write.contents c.args.writer.now) c.args.script.now (record c.args.script.now { line = c.add.new.self }) c.args.bytes.now c.split_at.result.0.now c.line_length-n.result
    c.line_length-n.ensures.length c.line_length-n.ensures.within c.split_at.ensures.front c.add.ensures.line (record { system = refl; reading = refl }))
    c.in-Err.ensures.err
