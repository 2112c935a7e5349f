use Rattle.std.proofs.Common.{sym, ap, ◌∙◌}
use Rattle.std.specs.Option.{is_some, unwrap_or}
use Rattle.serving.proofs.StepOpening.{begin_stepped, not_open}
use Rattle.serving.proofs.begin.take_begin.Goals as goal

pub returns-in-Ok : goal.returns-in-Ok
returns-in-Ok g c = λ may_give. rw c.with_receipt.ensures (begin_stepped c.args.session.now c.begin_lent.new.session c.in-Ok.receipt.number c.in-Ok.receipt.entry c.in-Ok.ensures.begun may_give c.unwrap_or-instant.result
    (c.unwrap_or-instant.ensures ∙ ap (λ o. unwrap_or o 0) c.start-in-Ok.ensures)
    (not_open c.args.session.now (ap is_some (sym c.start.ensures) ∙ sym c.is_some.ensures ∙ c.if-is_some.false)))
