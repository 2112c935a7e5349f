use Rattle.std.proofs.Common.{append-nil, refl, subst, sym}
use Rattle.statement.specs.declared.line.Line.TheVariants.{Nothing, Clock, Step as Asks}
use Rattle.serving.specs.ServedSession.{said}
use Rattle.serving.specs.Line.{IsRead}
use Rattle.serving.proofs.ServeLineTelling.{nothing_written, clock_written, refusal_broken, refusal_written, said_of, step_broken, step_written}
use Rattle.serving.proofs.serve_line.serve_line.Goals as goal

pub returns-in-Ok-Nothing-clause-ok : goal.returns-in-Ok-Nothing-clause-ok
returns-in-Ok-Nothing-clause-ok g c = nothing_written g.C.Readings.may_give c.args.line.now c.args.session.now c.args.account.now c.args.account.now (g.W.Write.contents c.args.writer.now)
    (said_of c.read.result c.in-Ok-Nothing.field-0 Nothing (said c.args.session.now.schema c.args.session.now.number c.args.line.now) c.in-Ok-Nothing.is c.in-Ok-Nothing.field-0-is c.read.ensures.unless) (sym (append-nil c.args.account.now.given)) refl

pub returns-in-Ok-Clock-clause-ok : goal.returns-in-Ok-Clock-clause-ok
returns-in-Ok-Clock-clause-ok g c = clock_written g.C.Readings.may_give c.args.line.now c.args.session.now c.args.account.now c.args.account.now (g.W.Write.contents c.args.writer.now) c.in-Ok-Clock.field-0-0
    (said_of c.read.result c.in-Ok-Clock.field-0 (Clock c.in-Ok-Clock.field-0-0) (said c.args.session.now.schema c.args.session.now.number c.args.line.now) c.in-Ok-Clock.is c.in-Ok-Clock.field-0-is c.read.ensures.unless) (sym (append-nil c.args.account.now.given)) refl

pub returns-in-Ok-Step-clause-ok : goal.returns-in-Ok-Step-clause-ok
returns-in-Ok-Step-clause-ok g c = step_written g.C.Readings.may_give c.args.line.now c.args.session.now c.args.account.now c.serve_step.new.account c.serve_step.result c.serve_step.new.session c.in-Ok-Step.step (g.W.Write.contents c.args.writer.now) (g.W.Write.contents c.serve_step.new.writer)
    (said_of c.read.result c.in-Ok-Step.field-0 (Asks c.in-Ok-Step.step) (said c.args.session.now.schema c.args.session.now.number c.args.line.now) c.in-Ok-Step.is c.in-Ok-Step.field-0-is c.read.ensures.unless) c.serve_step.ensures.ok

pub returns-in-Ok-Step-clause-err : goal.returns-in-Ok-Step-clause-err
returns-in-Ok-Step-clause-err g c = step_broken g.C.Readings.may_give c.args.line.now c.args.session.now c.args.account.now c.serve_step.new.account c.serve_step.result c.serve_step.new.session c.in-Ok-Step.step (g.W.Write.contents c.args.writer.now) (g.W.Write.contents c.serve_step.new.writer)
    (said_of c.read.result c.in-Ok-Step.field-0 (Asks c.in-Ok-Step.step) (said c.args.session.now.schema c.args.session.now.number c.args.line.now) c.in-Ok-Step.is c.in-Ok-Step.field-0-is c.read.ensures.unless) c.serve_step.ensures.err

pub returns-in-Err-clause-ok : goal.returns-in-Err-clause-ok
returns-in-Err-clause-ok g c = refusal_written g.C.Readings.may_give c.args.line.now c.args.session.now c.args.account.now c.tell.new.account c.tell.result c.in-Err.refusal c.refused_write.result (g.W.Write.contents c.args.writer.now) (g.W.Write.contents c.tell.new.writer)
    c.refused_write.ensures (subst (IsRead c.args.session.now.schema c.args.session.now.number c.args.line.now) c.in-Err.is c.read.ensures) c.tell.ensures.given c.tell.ensures.wrote

pub returns-in-Err-clause-err : goal.returns-in-Err-clause-err
returns-in-Err-clause-err g c = refusal_broken g.C.Readings.may_give c.args.line.now c.args.session.now c.args.account.now c.tell.new.account c.tell.result c.in-Err.refusal c.refused_write.result (g.W.Write.contents c.args.writer.now) (g.W.Write.contents c.tell.new.writer)
    c.refused_write.ensures (subst (IsRead c.args.session.now.schema c.args.session.now.number c.args.line.now) c.in-Err.is c.read.ensures) c.tell.ensures.given c.tell.ensures.wrote
