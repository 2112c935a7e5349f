use Rattle.std.proofs.Common.{take, [], subst, arith}
use Rattle.std.specs.Io.KnownBytes.{Consumes}
use Rattle.std.proofs.KnownBytes.{Keeps-refl}
use Rattle.lines.proofs.LineBufferAdding.{empty_fits}
use Rattle.scripts.proofs.ScriptLeading.{run_at}
use Rattle.scripts.proofs.ScriptRunning.{going_none, going_more, going_cut, going_broken, going_done, going_unfinished}
use Rattle.scripts.proofs.script.run_script_in.Goals as goal

pub loop-turn-init : goal.loop-turn-init
loop-turn-init g c = record {
  going = λ schema h at. going_none _ _ _ _ _ (run_at c.in-Ok.script c.args.system schema h c.in-Ok.ensures.system c.in-Ok.ensures.reading at) c.in-Ok.ensures.line;
  room = empty_fits _ c.in-Ok.ensures.line;
}

pub loop-turn-preserved : goal.loop-turn-preserved
loop-turn-preserved g c = record {
  going = λ schema h at. going_more _ _ _ _ _ _ _ _ _ _ (take c.in-Ok-read.n c.read.new.buf) (c.loop-turn.invariant.going schema h at) c.in-Ok-read.ensures.bytes.0 (rw c.split_at.ensures.front at c.in-Ok-feed.ensures.ok);
  room = c.in-Ok-feed.ensures.room;
}

pub returns-in-Err-clause-read : goal.returns-in-Err-clause-read
returns-in-Err-clause-read g c = λ _ schema h at. going_cut _ _ _ _ _ _ _ _ (c.loop-turn.invariant.going schema h at) c.in-Err.ensures.bytes

pub returns-in-Err-feed-clause-write : goal.returns-in-Err-feed-clause-write
returns-in-Err-feed-clause-write g c = λ _ schema h at. going_broken _ _ _ _ _ _ _ _ _ (take c.in-Ok-read.n c.read.new.buf) (c.loop-turn.invariant.going schema h at) c.in-Ok-read.ensures.bytes.0 (rw c.split_at.ensures.front at c.in-Err-feed.ensures.err)

pub returns-in-Ok-finish-clause-done : goal.returns-in-Ok-finish-clause-done
returns-in-Ok-finish-clause-done g c =
    let none : Consumes (g.I.Read.remaining c.loop-turn.reader) (g.I.Read.remaining c.read.new.self) [] = subst (λ k. Consumes (g.I.Read.remaining c.loop-turn.reader) (g.I.Read.remaining c.read.new.self) (take k c.read.new.buf)) c.if-n-eq0.true c.in-Ok-read.ensures.bytes.0 in
    λ schema h at. going_done _ _ _ _ _ _ _ _ _ _ (c.loop-turn.invariant.going schema h at) none (c.in-Ok-read.ensures.bytes.1 c.if-n-eq0.true (omega (arith, c.read.auto.buf))) c.in-Ok-finish.ensures.ok

pub returns-in-Err-finish-clause-write : goal.returns-in-Err-finish-clause-write
returns-in-Err-finish-clause-write g c =
    let none : Consumes (g.I.Read.remaining c.loop-turn.reader) (g.I.Read.remaining c.read.new.self) [] = subst (λ k. Consumes (g.I.Read.remaining c.loop-turn.reader) (g.I.Read.remaining c.read.new.self) (take k c.read.new.buf)) c.if-n-eq0.true c.in-Ok-read.ensures.bytes.0 in
    λ _ schema h at. going_unfinished _ _ _ _ _ _ _ _ _ (c.loop-turn.invariant.going schema h at) none c.in-Err-finish.ensures.err

pub returns-clause-read : goal.returns-clause-read
returns-clause-read g c = λ _ schema h at. going_cut _ _ _ _ _ _ _ _ (c.loop-turn.invariant.going schema h at) (Keeps-refl _)
