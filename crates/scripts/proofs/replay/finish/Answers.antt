use Rattle.std.proofs.Common.{sym, ◌∙◌}
use Rattle.scripts.proofs.ReplayGoing.{last_line_ok, last_stops_err, no_line}
use Rattle.scripts.proofs.replay.finish.Goals as goal

pub returns-then-not-has_byte-clause-ok : goal.returns-then-not-has_byte-clause-ok
returns-then-not-has_byte-clause-ok c = no_line c.args.replay.now (sym c.has_byte.ensures ∙ c.if-not-has_byte.true)

pub returns-clause-ok : goal.returns-clause-ok
returns-clause-ok c = last_line_ok c.end_line.result c.args.replay.now c.end_line.new.replay (sym c.has_byte.ensures ∙ c.if-not-has_byte.false) c.end_line.ensures.ok

pub returns-clause-err : goal.returns-clause-err
returns-clause-err c = last_stops_err c.end_line.result c.args.replay.now (sym c.has_byte.ensures ∙ c.if-not-has_byte.false) c.end_line.ensures.err
