use Rattle.std.proofs.Common.{Ok, Err}
use Rattle.steps.specs.StepOf.{step_of}
use Rattle.serving.proofs.WriteSteps.{may_write, takes_write, write_stepped}
use Rattle.serving.proofs.write.take_write.Goals as goal

pub returns-in-Ok : goal.returns-in-Ok
returns-in-Ok g c = λ may_give. rw c.reply.ensures (rw (c.of_write.ensures c.args.session.now.number) (write_stepped may_give (step_of c.args.session.now.number c.args.write) c.args.session.now c.write.new.self (Ok c.in-Ok.count) (takes_write may_give c.args.session.now.number c.args.session.now.schema c.args.session.now.receipt c.args.write) (may_write may_give c.args.session.now.number c.args.session.now.schema c.args.session.now.receipt c.args.write) c.in-Ok.ensures.answers c.in-Ok.ensures.no_memory c.in-Ok.ensures.rest c.in-Ok.ensures.refused))

pub returns-in-Err : goal.returns-in-Err
returns-in-Err g c = λ may_give. rw c.refused_write.ensures (write_stepped may_give (step_of c.args.session.now.number c.args.write) c.args.session.now c.write.new.self (Err c.in-Err.refusal) (takes_write may_give c.args.session.now.number c.args.session.now.schema c.args.session.now.receipt c.args.write) (may_write may_give c.args.session.now.number c.args.session.now.schema c.args.session.now.receipt c.args.write) c.in-Err.ensures.answers c.in-Err.ensures.no_memory c.in-Err.ensures.rest c.in-Err.ensures.refused)
