use Rattle.std.proofs.Common.{◌≡◌}
use Rattle.lines.specs.Partial.{Fits}
use Rattle.serving.proofs.ServeFeeding.{Going}
use Rattle.serving.proofs.serve.serve.Given as goal

abbrev pub invariant-loop-turn : goal.invariant-loop-turn
invariant-loop-turn g l = record {
  going : Going g.C.Readings.may_give (g.I.Read.remaining l.fn.reader) (g.I.Read.remaining l.reader) l.line l.fn.session l.session l.fn.account l.account (g.W.Write.contents l.fn.writer) (g.W.Write.contents l.writer);
  fits : Fits l.line;
  tables : l.session.schema ≡ l.fn.session.schema;
}
