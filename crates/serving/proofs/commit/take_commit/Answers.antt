use Rattle.std.proofs.Common.{not, sym, ap, ◌∙◌}
use Rattle.std.specs.Option.{is_some}
use Rattle.serving.proofs.ProgressAsking.{commit_refused, open_some}
use Rattle.serving.proofs.StepOpening.{commit_stepped}
use Rattle.serving.proofs.commit.take_commit.Goals as goal

pub returns-in-Ok : goal.returns-in-Ok
returns-in-Ok g c = rw c.with_receipt.ensures (commit_stepped g.C.Readings.may_give c.args.session.now c.commit_lent.new.session c.in-Ok.ensures.committed.0 c.in-Ok.receipt.number c.in-Ok.receipt.entry c.in-Ok.ensures.committed.1.1 c.in-Ok.ensures.committed.1.0)

pub returns-in-Err : goal.returns-in-Err
returns-in-Err g c =
    let some = open_some c.args.session.now.transaction (λ t. t.begun.start) (ap is_some (sym c.start.ensures) ∙ c.is_none.ensures ∙ ap not c.if-is_none.false) in
    rw c.refusal.ensures (commit_refused g.C.Readings.may_give c.args.session.now c.commit_lent.new.session c.in-Err.refusal some c.in-Err.ensures.refused (c.in-Err.ensures.why some))
