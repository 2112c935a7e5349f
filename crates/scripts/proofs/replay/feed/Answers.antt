use Rattle.std.proofs.Common.{sym, ◌∙◌}
use Rattle.scripts.proofs.ScriptRunning.{is_none_left}
use Rattle.scripts.proofs.ReplayGoing.{some_all, some_more, some_none, some_stops}
use Rattle.scripts.proofs.replay.feed.Goals as goal

pub loop-rest-init : goal.loop-rest-init
loop-rest-init c = record { some = some_none _ _; room = c.requires }

pub loop-rest-preserved : goal.loop-rest-preserved
loop-rest-preserved c = record {
  some = rw c.split_at.ensures.back (some_more c.args.replay.now c.loop-rest.replay c.take_line.new.replay c.args.bytes.now c.loop-rest.rest.now c.in-Ok.n c.loop-rest.invariant.some c.in-Ok.ensures.ok);
  room = c.in-Ok.ensures.room;
}

pub returns-in-Err-clause-err : goal.returns-in-Err-clause-err
returns-in-Err-clause-err c = some_stops c.in-Err.fault c.args.replay.now c.loop-rest.replay c.args.bytes.now c.loop-rest.rest.now c.loop-rest.invariant.some c.in-Err.ensures.err

pub returns-clause-ok : goal.returns-clause-ok
returns-clause-ok c = some_all c.args.replay.now c.loop-rest.replay c.args.bytes.now c.loop-rest.rest.now c.loop-rest.invariant.some (is_none_left _ (sym c.is_empty.ensures ∙ c.loop-rest-test.false))
