use Rattle.std.proofs.Common.{◌≡◌, length}
use Rattle.lines.specs.Partial.{Fits}
use Rattle.serving.proofs.ServeFeeding.{Some_fed}
use Rattle.serving.proofs.serve.feed.Given as goal

abbrev pub invariant-loop-rest : goal.invariant-loop-rest
invariant-loop-rest g l = record {
  some : Some_fed g.C.Readings.may_give l.fn.line l.line l.bytes l.rest l.fn.session l.session l.fn.account l.account (g.W.Write.contents l.fn.writer) (g.W.Write.contents l.writer);
  fits : Fits l.line;
  tables : l.session.schema ≡ l.fn.session.schema;
}

abbrev pub decreases-loop-rest : goal.decreases-loop-rest
decreases-loop-rest g l = length l.rest
