use Rattle.listening.proofs.LoadingCalls.{if_err, if_ok}
use Rattle.listening.proofs.ServerCarried.{carries, clock, holds}
use Rattle.listening.proofs.server.serve.Goals as goal

pub serve_store-requires-clause-holds : goal.serve_store-requires-clause-holds
serve_store-requires-clause-holds g c = λ κs h.
    let parts = c.into_parts-schema in
    let known = c.requires.known in
    holds c.histories_are_of_changes.ensures.changes c.args.system known.0 known.1 known.2 parts.result.0 parts.result.1 c.args.plan.entries parts.ensures.schema parts.ensures.engine parts.ensures.holds

pub serve_store-requires-clause-clock : goal.serve_store-requires-clause-clock
serve_store-requires-clause-clock g c = λ κs h.
    let parts = c.into_parts-schema in
    let known = c.requires.known in
    clock c.histories_are_of_changes.ensures.changes c.args.system known.0 known.1 known.2 parts.result.0 parts.result.1 c.args.plan.entries parts.ensures.schema parts.ensures.engine

pub returns-clause-ok : goal.returns-clause-ok
returns-clause-ok g c =
    let parts = c.into_parts-schema in
    if_ok c.serve_store.result _ _ (λ s served start before stands idle.
    served start before (carries c.histories_are_of_changes.ensures.changes c.args.system start before stands parts.result.0 parts.result.1 c.args.plan.entries parts.ensures.schema parts.ensures.engine idle)) c.serve_store.ensures.ok

pub returns-clause-err : goal.returns-clause-err
returns-clause-err g c =
    let parts = c.into_parts-schema in
    if_err c.serve_store.result _ _ (λ fault stopped start before stands idle.
    stopped start before (carries c.histories_are_of_changes.ensures.changes c.args.system start before stands parts.result.0 parts.result.1 c.args.plan.entries parts.ensures.schema parts.ensures.engine idle)) c.serve_store.ensures.err
