use Rattle.std.proofs.Common.{length}
use Rattle.lines.specs.Partial.{Fits}
use Rattle.scripts.proofs.ScriptRunning.{TakesSome}
use Rattle.scripts.proofs.script.feed.Given as goal

abbrev pub invariant-loop-rest : goal.invariant-loop-rest
invariant-loop-rest g l = record {
  some : TakesSome (g.W.Write.contents l.fn.writer) (g.W.Write.contents l.writer) l.fn.script l.script l.bytes l.rest;
  room : Fits l.script.line;
}

abbrev pub decreases-loop-rest : goal.decreases-loop-rest
decreases-loop-rest g l = length l.rest
