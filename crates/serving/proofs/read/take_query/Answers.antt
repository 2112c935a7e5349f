use Rattle.std.proofs.Common.{None, sym, ap, subst, ◌∙◌}
use Rattle.std.specs.Option.{is_some}
use Rattle.steps.specs.declared.step.Step.TheVariants.{Select}
use Rattle.sessions.specs.SessionState.{SessionState}
use Rattle.serving.specs.Serving.{IsStepped}
use Rattle.serving.proofs.StepOpening.{query_stepped, alone_stepped, is_open, not_open}
use Rattle.serving.proofs.read.take_query.Goals as goal

pub returns-then-is_some : goal.returns-then-is_some
returns-then-is_some g c = λ may_give.
    let t = is_open c.args.session.now (ap is_some (sym c.start.ensures) ∙ sym c.is_some.ensures ∙ c.if-is_some.true) in
    subst (λ (s : SessionState). IsStepped may_give (Select c.args.session.now.number c.args.form c.args.keys.now) c.args.session.now s (record { given = None; install = None; sent = c.sent_listing.result })) (sym c.select.ensures.same)
    (query_stepped may_give c.args.session.now c.args.form c.args.keys.now c.sent_listing.result t.0 t.1 (c.select.result, (c.select.ensures.answer, (c.select.ensures.no_memory, c.sent_listing.ensures))))

pub returns : goal.returns
returns g c = λ may_give. rw c.with_receipt.ensures (alone_stepped may_give c.args.session.now c.begin_lent.new.session c.read_and_roll_back-sent.new.session c.in-Ok.receipt.number c.in-Ok.receipt.entry c.args.form c.args.keys.now c.read_and_roll_back-sent.result c.in-Ok.ensures.begun
    (not_open c.args.session.now (ap is_some (sym c.start.ensures) ∙ sym c.is_some.ensures ∙ c.if-is_some.false)) c.read_and_roll_back-sent.ensures.sent c.read_and_roll_back-sent.ensures.left)
