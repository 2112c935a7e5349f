use Rattle.std.proofs.Common.{take, [], subst, refl, arith}
use Rattle.std.specs.Io.KnownBytes.{Consumes}
use Rattle.lines.proofs.LineBufferAdding.{empty_fits}
use Rattle.scripts.proofs.ScriptLeading.{run_at}
use Rattle.scripts.proofs.ReplayGoing.{going_done_ok, going_more, going_none, going_open_err, going_refused, going_stops}
use Rattle.scripts.proofs.replay.replay_script.Goals as goal

pub loop-turn-init : goal.loop-turn-init
loop-turn-init g c = record {
  going = λ schema h at. going_none _ _ schema h (run_at c.in-Ok.script c.args.system schema h c.in-Ok.ensures.system c.in-Ok.ensures.reading at) c.in-Ok.ensures.line refl;
  room = empty_fits _ c.in-Ok.ensures.line;
}

pub loop-turn-preserved : goal.loop-turn-preserved
loop-turn-preserved g c = record {
  going = λ schema h at. going_more _ _ _ _ _ _ _ (take c.in-Ok-read.n c.read.new.buf) (c.loop-turn.invariant.going schema h at) c.in-Ok-read.ensures.bytes.0 (rw c.split_at.ensures.front at c.in-Ok-feed.ensures.ok);
  room = c.in-Ok-feed.ensures.room;
}

pub returns-in-Err-feed-clause-fault : goal.returns-in-Err-feed-clause-fault
returns-in-Err-feed-clause-fault g c = λ schema h at. going_stops c.in-Err-feed.fault _ _ _ _ _ _ (take c.in-Ok-read.n c.read.new.buf) (c.loop-turn.invariant.going schema h at) c.in-Ok-read.ensures.bytes.0 (rw c.split_at.ensures.front at c.in-Err-feed.ensures.err)

pub returns-in-Ok-finish-clause-done : goal.returns-in-Ok-finish-clause-done
returns-in-Ok-finish-clause-done g c =
    let none : Consumes (g.I.Read.remaining c.loop-turn.reader) (g.I.Read.remaining c.read.new.self) [] = subst (λ k. Consumes (g.I.Read.remaining c.loop-turn.reader) (g.I.Read.remaining c.read.new.self) (take k c.read.new.buf)) c.if-n-eq0.true c.in-Ok-read.ensures.bytes.0 in
    going_done_ok c.close.result _ _ _ c.loop-turn.replay c.finish.new.replay c.args.system c.loop-turn.invariant.going none (c.in-Ok-read.ensures.bytes.1 c.if-n-eq0.true (omega (arith, c.read.auto.buf))) c.in-Ok-finish.ensures.ok c.close.ensures.ok

pub returns-in-Ok-finish-clause-fault : goal.returns-in-Ok-finish-clause-fault
returns-in-Ok-finish-clause-fault g c =
    let none : Consumes (g.I.Read.remaining c.loop-turn.reader) (g.I.Read.remaining c.read.new.self) [] = subst (λ k. Consumes (g.I.Read.remaining c.loop-turn.reader) (g.I.Read.remaining c.read.new.self) (take k c.read.new.buf)) c.if-n-eq0.true c.in-Ok-read.ensures.bytes.0 in
    going_open_err c.close.result _ _ _ c.loop-turn.replay c.finish.new.replay c.args.system c.loop-turn.invariant.going none (c.in-Ok-read.ensures.bytes.1 c.if-n-eq0.true (omega (arith, c.read.auto.buf))) c.in-Ok-finish.ensures.ok c.close.ensures.err

pub returns-in-Err-finish-clause-fault : goal.returns-in-Err-finish-clause-fault
returns-in-Err-finish-clause-fault g c =
    let none : Consumes (g.I.Read.remaining c.loop-turn.reader) (g.I.Read.remaining c.read.new.self) [] = subst (λ k. Consumes (g.I.Read.remaining c.loop-turn.reader) (g.I.Read.remaining c.read.new.self) (take k c.read.new.buf)) c.if-n-eq0.true c.in-Ok-read.ensures.bytes.0 in
    λ schema h at. going_refused c.in-Err-finish.fault _ _ _ _ schema h (c.loop-turn.invariant.going schema h at) none (c.in-Ok-read.ensures.bytes.1 c.if-n-eq0.true (omega (arith, c.read.auto.buf))) c.in-Err-finish.ensures.err
