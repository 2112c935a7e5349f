use Rattle.std.proofs.Common.{length}
use Rattle.lines.specs.Partial.{Fits}
use Rattle.scripts.proofs.ReplayGoing.{OnSome}
use Rattle.scripts.proofs.replay.feed.Given as goal

abbrev pub invariant-loop-rest : goal.invariant-loop-rest
invariant-loop-rest l = record {
  some : OnSome l.fn.replay l.replay l.bytes l.rest;
  room : Fits l.replay.script.line;
}

abbrev pub decreases-loop-rest : goal.decreases-loop-rest
decreases-loop-rest l = length l.rest
