use Rattle.serving.proofs.StepOpening.{rollback_stepped, rolled_ok, rolled_err}
use Rattle.serving.proofs.commit.take_rollback.Goals as goal

pub returns-in-Ok : goal.returns-in-Ok
returns-in-Ok g c = λ may_give. rw c.reply.ensures (rollback_stepped may_give c.args.session.now c.rollback.new.self _ (rolled_ok c.args.session.now.transaction c.in-Ok.field-0 c.rollback.result c.in-Ok.is c.rollback.ensures.which) c.rollback.ensures.ok)

pub returns-in-Err : goal.returns-in-Err
returns-in-Err g c = λ may_give. rw c.reply-in-Err.ensures (rollback_stepped may_give c.args.session.now c.rollback.new.self _ (rolled_err c.args.session.now.transaction c.in-Err.refusal c.rollback.result c.in-Err.is c.rollback.ensures.which) c.rollback.ensures.ok)
