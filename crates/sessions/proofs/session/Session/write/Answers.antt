use Rattle.std.proofs.Common.{sym, ap, ◌∙◌, Some}
use Rattle.values.specs.Tables.{table_at}
use Rattle.values.specs.Fitting.{table_of}
use Rattle.sessions.specs.SessionState.{SessionTransactionState}
use Rattle.sessions.proofs.SessionWriting.{same_writes, with_new, written_is}
use Rattle.sessions.proofs.session.Session.write.Goals as goal

pub returns-in-Err-clause-rest : goal.returns-in-Err-clause-rest
returns-in-Err-clause-rest c = same_writes c.args.self.now

pub invariant_of-self-2 : goal.invariant_of-self-2
invariant_of-self-2 c =
    written_is c.self.inside.number c.self.inside.schema c.self.inside.receipt c.self.inside.transaction c.own.inside.begun c.own.inside.transaction c.write.new.self (c.in-Some.is ∙ ap (λ (t : SessionTransactionState). Some t) (sym c.own.view_is)) c.write.ensures.view
    c.in-Ok.fitting.table.now c.self.invariant (ap (table_at c.self.inside.schema) (sym c.in-Ok.fitting.own ∙ ap table_of c.in-Ok.ensures.write) ∙ c.in-Ok.ensures.table) c.write.ensures.keys

pub returns-clause-rest : goal.returns-clause-rest
returns-clause-rest c =
    with_new c.self.inside.number c.self.inside.schema c.self.inside.receipt c.self.inside.transaction c.own.inside.begun c.own.inside.transaction c.write.new.self (c.in-Some.is ∙ ap (λ (t : SessionTransactionState). Some t) (sym c.own.view_is)) c.write.ensures.view
    c.args.self.now c.self.view_is
