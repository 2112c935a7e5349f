use Rattle.std.proofs.Common.{rules, sym, ap, ◌∙◌, Some}
use Rattle.sessions.specs.SessionState.{SessionTransactionState, session_transaction}
use Rattle.sessions.proofs.SessionEnding.{open_at}
use Rattle.sessions.proofs.session.Session.commit_at.Goals as goal

pub returns-in_err-receipt-clause-elsewhere : goal.returns-in_err-receipt-clause-elsewhere
returns-in_err-receipt-clause-elsewhere g c = λ some h.
    let is = sym (open_at c.self.inside.schema c.self.inside.transaction (session_transaction c.own.inside.begun c.own.inside.transaction) c.self.invariant.over (c.in-Some.is ∙ ap (λ (t : SessionTransactionState). Some t) (sym c.own.view_is)) c.self.inside.number c.self.inside.receipt c.args.book.now.entries c.args.self.now c.self.view_is) ∙ h in
    let refused = c.commit.ensures.none is in
    search rules

pub returns-in_err-receipt-clause-why : goal.returns-in_err-receipt-clause-why
returns-in_err-receipt-clause-why g c = λ h.
    let is = sym (open_at c.self.inside.schema c.self.inside.transaction (session_transaction c.own.inside.begun c.own.inside.transaction) c.self.invariant.over (c.in-Some.is ∙ ap (λ (t : SessionTransactionState). Some t) (sym c.own.view_is)) c.self.inside.number c.self.inside.receipt c.args.book.now.entries c.args.self.now c.self.view_is) ∙ h in
    let refused = c.commit.ensures.why is in
    search rules

pub returns-clause-elsewhere : goal.returns-clause-elsewhere
returns-clause-elsewhere g c = λ some h.
    let is = sym (open_at c.self.inside.schema c.self.inside.transaction (session_transaction c.own.inside.begun c.own.inside.transaction) c.self.invariant.over (c.in-Some.is ∙ ap (λ (t : SessionTransactionState). Some t) (sym c.own.view_is)) c.self.inside.number c.self.inside.receipt c.args.book.now.entries c.args.self.now c.self.view_is) ∙ h in
    let refused = c.commit.ensures.none is in
    absurd (cc (c.in_ok-receipt.was, refused))
