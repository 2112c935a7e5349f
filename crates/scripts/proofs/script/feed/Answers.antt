use Rattle.std.proofs.Common.{sym, ◌∙◌}
use Rattle.scripts.proofs.ScriptRunning.{some_none, some_more, some_broken, all_flushed, all_stuck}
use Rattle.scripts.proofs.script.feed.Goals as goal

pub loop-rest-init : goal.loop-rest-init
loop-rest-init g c = record { some = some_none _ _ _; room = c.requires }

pub loop-rest-preserved : goal.loop-rest-preserved
loop-rest-preserved g c = record {
  some = rw c.split_at.ensures.back (some_more (g.W.Write.contents c.args.writer.now) (g.W.Write.contents c.loop-rest.writer) (g.W.Write.contents c.take_line.new.writer)
      c.args.script.now c.loop-rest.script c.take_line.new.script c.args.bytes.now c.loop-rest.rest.now c.in-Ok.n c.loop-rest.invariant.some c.in-Ok.ensures.ok);
  room = c.in-Ok.ensures.room;
}

pub returns-in-Err-clause-err : goal.returns-in-Err-clause-err
returns-in-Err-clause-err g c = some_broken (g.W.Write.contents c.args.writer.now) (g.W.Write.contents c.loop-rest.writer) (g.W.Write.contents c.take_line.new.writer)
    c.args.script.now c.loop-rest.script c.args.bytes.now c.loop-rest.rest.now c.loop-rest.invariant.some c.in-Err.ensures.err

pub returns-clause-ok : goal.returns-clause-ok
returns-clause-ok g c = all_flushed (g.W.Write.contents c.args.writer.now) (g.W.Write.contents c.loop-rest.writer) (g.W.Write.contents c.flush.new.writer) c.flush.result
    c.args.script.now c.loop-rest.script c.args.bytes.now c.loop-rest.rest.now c.loop-rest.invariant.some (sym c.is_empty.ensures ∙ c.loop-rest-test.false) c.flush.ensures

pub returns-clause-err : goal.returns-clause-err
returns-clause-err g c = all_stuck (g.W.Write.contents c.args.writer.now) (g.W.Write.contents c.loop-rest.writer) (g.W.Write.contents c.flush.new.writer) c.flush.result
    c.args.script.now c.loop-rest.script c.args.bytes.now c.loop-rest.rest.now c.loop-rest.invariant.some (sym c.is_empty.ensures ∙ c.loop-rest-test.false) c.flush.ensures
