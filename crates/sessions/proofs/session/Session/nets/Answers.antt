use Rattle.std.proofs.Common.{sym, ap, ◌∙◌, Some}
use Rattle.values.specs.Events.{AreKeysIn}
use Rattle.sessions.specs.SessionState.{SessionTransactionState, session_transaction}
use Rattle.sessions.specs.Store.{IsNetOf}
use Rattle.sessions.proofs.SessionEnding.{if_ok, keys_of_session, net_of_session}
use Rattle.sessions.proofs.session.Session.nets.Goals as goal

pub returns-in-Some-clause-net : goal.returns-in-Some-clause-net
returns-in-Some-clause-net c =
    if_ok c.nets.result _ (λ nets. IsNetOf c.args.self.now nets.0)
    (λ nets is. net_of_session c.self.inside.schema c.self.inside.transaction (session_transaction c.own.inside.begun c.own.inside.transaction) c.self.invariant.over (c.in-Some.is ∙ ap (λ (t : SessionTransactionState). Some t) (sym c.own.view_is)) c.self.inside.number c.self.inside.receipt c.args.self.now nets.0 c.self.view_is is)
    c.nets.ensures.ok

pub returns-in-Some-clause-keys : goal.returns-in-Some-clause-keys
returns-in-Some-clause-keys c =
    if_ok c.nets.result _ (λ nets. AreKeysIn c.args.self.now.schema nets.0)
    (λ nets is. keys_of_session c.self.inside.schema c.self.inside.transaction (session_transaction c.own.inside.begun c.own.inside.transaction) c.self.invariant.over (c.in-Some.is ∙ ap (λ (t : SessionTransactionState). Some t) (sym c.own.view_is)) c.self.inside.number c.self.inside.receipt c.args.self.now nets.0 c.self.view_is is)
    c.nets.ensures.keys
