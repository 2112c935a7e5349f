use Rattle.serving.proofs.ServeFeeding.{breaks_line, feeds_line, feeds_piece, less_than}
use Rattle.serving.proofs.serve.take_line.Goals as goal

pub returns-then-n-bytes-clause-ok : goal.returns-then-n-bytes-clause-ok
returns-then-n-bytes-clause-ok g c = feeds_piece g.C.Readings.may_give c.args.line.now c.add.new.self c.args.bytes.now c.split_at.result.0.now c.line_length-n.result c.args.session.now c.args.account.now (g.W.Write.contents c.args.writer.now) c.line_length-n.ensures.length c.line_length-n.ensures.within c.split_at.ensures.front c.add.ensures.line

pub returns-in-Ok-clause-ok : goal.returns-in-Ok-clause-ok
returns-in-Ok-clause-ok g c = feeds_line g.C.Readings.may_give c.args.line.now c.add.new.self c.end.new.self c.clear.new.self c.args.bytes.now c.line_length-n.result c.args.session.now c.serve_line.new.session c.args.account.now c.serve_line.new.account (g.W.Write.contents c.args.writer.now) (g.W.Write.contents c.serve_line.new.writer)
    c.line_length-n.ensures.length (less_than _ _ c.line_length-n.ensures.within c.if-n-bytes.false) (feeds_piece g.C.Readings.may_give c.args.line.now c.add.new.self c.args.bytes.now c.split_at.result.0.now c.line_length-n.result c.args.session.now c.args.account.now (g.W.Write.contents c.args.writer.now) c.line_length-n.ensures.length c.line_length-n.ensures.within c.split_at.ensures.front c.add.ensures.line) c.end.ensures c.clear.ensures c.in-Ok.ensures.ok

pub returns-in-Err-clause-err : goal.returns-in-Err-clause-err
returns-in-Err-clause-err g c = breaks_line g.C.Readings.may_give c.args.line.now c.add.new.self c.end.new.self c.args.bytes.now c.line_length-n.result c.args.session.now c.serve_line.new.session c.args.account.now c.serve_line.new.account (g.W.Write.contents c.args.writer.now) (g.W.Write.contents c.serve_line.new.writer)
    c.line_length-n.ensures.length (less_than _ _ c.line_length-n.ensures.within c.if-n-bytes.false) (feeds_piece g.C.Readings.may_give c.args.line.now c.add.new.self c.args.bytes.now c.split_at.result.0.now c.line_length-n.result c.args.session.now c.args.account.now (g.W.Write.contents c.args.writer.now) c.line_length-n.ensures.length c.line_length-n.ensures.within c.split_at.ensures.front c.add.ensures.line) c.end.ensures c.in-Err.ensures.err
