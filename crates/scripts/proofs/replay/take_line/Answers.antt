use Rattle.std.proofs.Common.{refl}
use Rattle.scripts.proofs.ScriptRunning.{stops_before}
use Rattle.scripts.proofs.ReplayGoing.{line_on, line_stops, piece_on}
use Rattle.scripts.proofs.replay.take_line.Goals as goal

pub returns-then-n-bytes-clause-ok : goal.returns-then-n-bytes-clause-ok
returns-then-n-bytes-clause-ok c = piece_on c.args.replay.now (record c.args.replay.now { script = record c.args.replay.now.script { line = c.add.new.self } }) c.args.bytes.now c.split_at.result.0.now c.line_length-n.result
    c.line_length-n.ensures.length c.line_length-n.ensures.within c.split_at.ensures.front c.add.ensures.line (record { system = refl; reading = refl }) refl

pub returns-in-Ok-clause-ok : goal.returns-in-Ok-clause-ok
returns-in-Ok-clause-ok c = line_on c.args.replay.now (record c.args.replay.now { script = record c.args.replay.now.script { line = c.add.new.self } }) c.take_feed.new.replay c.args.bytes.now c.line_length-n.result
    c.line_length-n.ensures.length (stops_before _ _ c.line_length-n.ensures.within c.if-n-bytes.false)
    (piece_on c.args.replay.now (record c.args.replay.now { script = record c.args.replay.now.script { line = c.add.new.self } }) c.args.bytes.now c.split_at.result.0.now c.line_length-n.result
    c.line_length-n.ensures.length c.line_length-n.ensures.within c.split_at.ensures.front c.add.ensures.line (record { system = refl; reading = refl }) refl)
    c.in-Ok.ensures.ok

pub returns-in-Err-clause-err : goal.returns-in-Err-clause-err
returns-in-Err-clause-err c = line_stops c.in-Err.fault c.args.replay.now (record c.args.replay.now { script = record c.args.replay.now.script { line = c.add.new.self } }) c.args.bytes.now c.line_length-n.result
    c.line_length-n.ensures.length (stops_before _ _ c.line_length-n.ensures.within c.if-n-bytes.false)
    (piece_on c.args.replay.now (record c.args.replay.now { script = record c.args.replay.now.script { line = c.add.new.self } }) c.args.bytes.now c.split_at.result.0.now c.line_length-n.result
    c.line_length-n.ensures.length c.line_length-n.ensures.within c.split_at.ensures.front c.add.ensures.line (record { system = refl; reading = refl }) refl)
    c.in-Err.ensures.err
