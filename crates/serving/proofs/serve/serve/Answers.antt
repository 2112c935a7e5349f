use Rattle.std.proofs.Common.{take, [], refl, subst, ◌∙◌, arith, Some}
use Rattle.std.specs.Io.KnownBytes.{Consumes}
use Rattle.std.proofs.KnownBytes.{Keeps-refl}
use Rattle.lines.proofs.LineBufferAdding.{empty_fits}
use Rattle.serving.proofs.ServeFeeding.{going_none, going_more, going_cut, going_broken, going_done, going_unfinished}
use Rattle.serving.proofs.serve.serve.Goals as goal

pub loop-turn-init : goal.loop-turn-init
loop-turn-init g c = record { going = going_none g.C.Readings.may_give _ _ _ _ _ c.in-Ok.ensures.ok; fits = empty_fits _ c.in-Ok.ensures.ok; tables = refl }

pub loop-turn-preserved : goal.loop-turn-preserved
loop-turn-preserved g c = record {
  going = going_more g.C.Readings.may_give (g.I.Read.remaining c.args.reader.now) (g.I.Read.remaining c.loop-turn.reader) (g.I.Read.remaining c.read.new.self) c.loop-turn.line c.feed.new.line (take c.in-Ok-read.n c.read.new.buf) c.args.session.now c.loop-turn.session c.feed.new.session c.args.account.now c.loop-turn.account c.feed.new.account (g.W.Write.contents c.args.writer.now) (g.W.Write.contents c.loop-turn.writer) (g.W.Write.contents c.feed.new.writer) c.loop-turn.invariant.going c.in-Ok-read.ensures.bytes.0 (rw c.split_at.ensures.front at c.in-Ok-feed.ensures.ok);
  fits = c.in-Ok-feed.ensures.fits;
  tables = c.feed.ensures.tables ∙ c.loop-turn.invariant.tables;
}

pub returns-in-Err-clause-in_part : goal.returns-in-Err-clause-in_part
returns-in-Err-clause-in_part g c = λ _. going_cut g.C.Readings.may_give (g.I.Read.remaining c.args.reader.now) (g.I.Read.remaining c.loop-turn.reader) (g.I.Read.remaining c.read.new.self) c.loop-turn.line c.args.session.now c.loop-turn.session c.args.account.now c.loop-turn.account (g.W.Write.contents c.args.writer.now) (g.W.Write.contents c.loop-turn.writer) c.loop-turn.invariant.going c.in-Err.ensures.bytes

pub returns-in-Err-feed-clause-in_part : goal.returns-in-Err-feed-clause-in_part
returns-in-Err-feed-clause-in_part g c = λ _. going_broken g.C.Readings.may_give (g.I.Read.remaining c.args.reader.now) (g.I.Read.remaining c.loop-turn.reader) (g.I.Read.remaining c.read.new.self) c.loop-turn.line (take c.in-Ok-read.n c.read.new.buf) c.args.session.now c.loop-turn.session c.feed.new.session c.args.account.now c.loop-turn.account c.feed.new.account (g.W.Write.contents c.args.writer.now) (g.W.Write.contents c.loop-turn.writer) (g.W.Write.contents c.feed.new.writer) c.loop-turn.invariant.going c.in-Ok-read.ensures.bytes.0 (rw c.split_at.ensures.front at c.in-Err-feed.ensures.err)

pub returns-clause-in_part : goal.returns-clause-in_part
returns-clause-in_part g c = λ _. going_cut g.C.Readings.may_give (g.I.Read.remaining c.args.reader.now) (g.I.Read.remaining c.loop-turn.reader) (g.I.Read.remaining c.loop-turn.reader) c.loop-turn.line c.args.session.now c.loop-turn.session c.args.account.now c.loop-turn.account (g.W.Write.contents c.args.writer.now) (g.W.Write.contents c.loop-turn.writer) c.loop-turn.invariant.going (Keeps-refl _)

pub returns-in_default-clause-in_part : goal.returns-in_default-clause-in_part
returns-in_default-clause-in_part g c = λ _. going_cut g.C.Readings.may_give (g.I.Read.remaining c.args.reader.now) (g.I.Read.remaining c.args.reader.now) (g.I.Read.remaining c.args.reader.now) (Some []) c.args.session.now c.args.session.now c.args.account.now c.args.account.now (g.W.Write.contents c.args.writer.now) (g.W.Write.contents c.args.writer.now) (going_none g.C.Readings.may_give _ _ _ _ _ refl) (Keeps-refl _)

pub returns-in-Ok-finish-clause-closed : goal.returns-in-Ok-finish-clause-closed
returns-in-Ok-finish-clause-closed g c = λ _. going_done g.C.Readings.may_give (g.I.Read.remaining c.args.reader.now) (g.I.Read.remaining c.loop-turn.reader) (g.I.Read.remaining c.read.new.self) c.loop-turn.line c.args.session.now c.loop-turn.session c.finish.new.session c.args.account.now c.loop-turn.account c.finish.new.account (g.W.Write.contents c.args.writer.now) (g.W.Write.contents c.loop-turn.writer) (g.W.Write.contents c.finish.new.writer) c.loop-turn.invariant.going (subst (λ k. Consumes (g.I.Read.remaining c.loop-turn.reader) (g.I.Read.remaining c.read.new.self) (take k c.read.new.buf)) c.if-n-eq0.true c.in-Ok-read.ensures.bytes.0) (c.in-Ok-read.ensures.bytes.1 c.if-n-eq0.true (omega (arith, c.read.auto.buf))) c.in-Ok-finish.ensures.ok

pub returns-in-Err-finish-clause-in_part : goal.returns-in-Err-finish-clause-in_part
returns-in-Err-finish-clause-in_part g c = λ _. going_unfinished g.C.Readings.may_give (g.I.Read.remaining c.args.reader.now) (g.I.Read.remaining c.loop-turn.reader) (g.I.Read.remaining c.read.new.self) c.loop-turn.line c.args.session.now c.loop-turn.session c.finish.new.session c.args.account.now c.loop-turn.account c.finish.new.account (g.W.Write.contents c.args.writer.now) (g.W.Write.contents c.loop-turn.writer) (g.W.Write.contents c.finish.new.writer) c.loop-turn.invariant.going (subst (λ k. Consumes (g.I.Read.remaining c.loop-turn.reader) (g.I.Read.remaining c.read.new.self) (take k c.read.new.buf)) c.if-n-eq0.true c.in-Ok-read.ensures.bytes.0) c.in-Err-finish.ensures.err
