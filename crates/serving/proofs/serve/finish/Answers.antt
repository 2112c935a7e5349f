use Rattle.std.proofs.Common.{sym, ◌∙◌}
use Rattle.serving.proofs.ServeFeeding.{last_none}
use Rattle.serving.proofs.serve.finish.Goals as goal

pub returns-then-not-has_byte-clause-ok : goal.returns-then-not-has_byte-clause-ok
returns-then-not-has_byte-clause-ok g c = last_none g.C.Readings.may_give c.args.line.now c.args.session.now c.args.account.now (g.W.Write.contents c.args.writer.now) (sym c.has_byte.ensures ∙ c.if-not-has_byte.true)
