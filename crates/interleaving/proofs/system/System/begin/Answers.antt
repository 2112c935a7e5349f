use Rattle.std.proofs.Common.{ap, sym, ◌∙◌, rules}
use Rattle.interleaving.specs.SystemState.{SystemState, world}
use Rattle.transaction.specs.OpenTransactionState.{OpenTransactionState}
use Rattle.interleaving.proofs.SystemKeeps.{began, began_is, none_of, place_is, with_session}
use Rattle.interleaving.proofs.system.System.begin.Goals as goal

pub invariant_of-self : goal.invariant_of-self
invariant_of-self c =
    let seen = ap (λ (t : OpenTransactionState). t.view) c.in-Ok.ensures.ok ∙ ap (λ (s : SystemState). s.engine) (sym c.self.view_is) in
    with_session c.self.inside.schema c.self.inside.engine c.self.inside.sessions.items c.args.session _
    (began_is c.self.inside.schema c.self.inside.engine c.self.inside.sessions.items c.in-Ok.transaction c.self.invariant seen (ap (λ (t : OpenTransactionState). t.writes) c.in-Ok.ensures.ok))
    c.self.invariant

pub returns-in-Ok-clause-answered : goal.returns-in-Ok-clause-answered
returns-in-Ok-clause-answered c = λ _.
    let seen = ap (λ (t : OpenTransactionState). t.view) c.in-Ok.ensures.ok ∙ ap (λ (s : SystemState). s.engine) (sym c.self.view_is) in
    began c.self.inside.schema c.self.inside.engine c.self.inside.sessions.items (world c.args.self.now) c.args.session c.start-start.result c.in-Ok.transaction (ap world c.self.view_is) c.start-start.ensures
    (sym (place_is c.self.inside.schema c.self.inside.engine c.self.inside.sessions.items c.args.session c.index.result.now c.self.invariant c.requires c.index.ensures) ∙ none_of c.index.result.now (search rules))
    seen (ap (λ (t : OpenTransactionState). t.writes) c.in-Ok.ensures.ok)
