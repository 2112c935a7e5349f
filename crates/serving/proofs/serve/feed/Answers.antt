use Rattle.std.proofs.Common.{refl, sym, ◌∙◌}
use Rattle.serving.proofs.ServeFeeding.{some_all, some_broken, some_more, some_none, feeds_stuck, feeds_flushed}
use Rattle.serving.proofs.serve.feed.Goals as goal

pub loop-rest-init : goal.loop-rest-init
loop-rest-init g c = record { some = some_none g.C.Readings.may_give _ _ _ _ _; fits = c.requires.fits; tables = refl }

pub loop-rest-preserved : goal.loop-rest-preserved
loop-rest-preserved g c = record {
  some = rw c.split_at.ensures.back (some_more g.C.Readings.may_give c.args.line.now c.loop-rest.line c.take_line.new.line c.args.bytes.now c.loop-rest.rest.now c.in-Ok.n c.args.session.now c.loop-rest.session c.take_line.new.session
      c.args.account.now c.loop-rest.account c.take_line.new.account (g.W.Write.contents c.args.writer.now) (g.W.Write.contents c.loop-rest.writer) (g.W.Write.contents c.take_line.new.writer) c.loop-rest.invariant.some c.in-Ok.ensures.ok);
  fits = c.in-Ok.ensures.fits;
  tables = c.take_line.ensures.tables ∙ c.loop-rest.invariant.tables;
}

pub returns-in-Err-clause-err : goal.returns-in-Err-clause-err
returns-in-Err-clause-err g c = some_broken g.C.Readings.may_give c.args.line.now c.loop-rest.line c.args.bytes.now c.loop-rest.rest.now c.args.session.now c.loop-rest.session c.take_line.new.session
    c.args.account.now c.loop-rest.account c.take_line.new.account (g.W.Write.contents c.args.writer.now) (g.W.Write.contents c.loop-rest.writer) (g.W.Write.contents c.take_line.new.writer) c.loop-rest.invariant.some c.in-Err.ensures.err

pub returns-clause-ok : goal.returns-clause-ok
returns-clause-ok g c = feeds_flushed c.flush.result (some_all g.C.Readings.may_give c.args.line.now c.loop-rest.line c.args.bytes.now c.loop-rest.rest.now c.args.session.now c.loop-rest.session c.args.account.now c.loop-rest.account (g.W.Write.contents c.args.writer.now) (g.W.Write.contents c.loop-rest.writer) (g.W.Write.contents c.flush.new.writer) c.loop-rest.invariant.some
    (sym c.is_empty.ensures ∙ c.loop-rest-test.false) c.flush.ensures.kept)

pub returns-clause-err : goal.returns-clause-err
returns-clause-err g c = feeds_stuck g.C.Readings.may_give c.flush.result c.args.line.now c.loop-rest.line c.args.bytes.now c.args.session.now c.loop-rest.session c.args.account.now c.loop-rest.account (g.W.Write.contents c.args.writer.now) (g.W.Write.contents c.flush.new.writer) (some_all g.C.Readings.may_give c.args.line.now c.loop-rest.line c.args.bytes.now c.loop-rest.rest.now c.args.session.now c.loop-rest.session c.args.account.now c.loop-rest.account (g.W.Write.contents c.args.writer.now) (g.W.Write.contents c.loop-rest.writer) (g.W.Write.contents c.flush.new.writer) c.loop-rest.invariant.some
    (sym c.is_empty.ensures ∙ c.loop-rest-test.false) c.flush.ensures.kept)
