use Rattle.std.proofs.Common.{sym, ◌∙◌}
use Rattle.scripts.proofs.ScriptRunning.{finish_ok, finish_stuck, finish_err}
use Rattle.scripts.proofs.script.finish.Goals as goal

pub returns-in-Ok-clause-ok : goal.returns-in-Ok-clause-ok
returns-in-Ok-clause-ok g c = finish_ok (g.W.Write.contents c.args.writer.now) (g.W.Write.contents c.end_line.new.writer) (g.W.Write.contents c.flush.new.writer) c.flush.result
    c.args.script.now c.end_line.new.script (sym c.has_byte.ensures ∙ c.if-not-has_byte.false) c.in-Ok.ensures.ok c.flush.ensures

pub returns-in-Ok-clause-err : goal.returns-in-Ok-clause-err
returns-in-Ok-clause-err g c = finish_stuck (g.W.Write.contents c.args.writer.now) (g.W.Write.contents c.end_line.new.writer) (g.W.Write.contents c.flush.new.writer) c.flush.result
    c.args.script.now c.end_line.new.script (sym c.has_byte.ensures ∙ c.if-not-has_byte.false) c.in-Ok.ensures.ok c.flush.ensures

pub returns-in-Err-clause-err : goal.returns-in-Err-clause-err
returns-in-Err-clause-err g c = finish_err (g.W.Write.contents c.args.writer.now) (g.W.Write.contents c.end_line.new.writer) c.args.script.now (sym c.has_byte.ensures ∙ c.if-not-has_byte.false) c.in-Err.ensures.err
