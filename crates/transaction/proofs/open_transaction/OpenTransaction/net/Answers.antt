use Rattle.std.proofs.Common.{◌≡◌, IfOk, subst}
use Rattle.values.specs.Log.{Changes}
use Rattle.values.specs.Tables.{Schema}
use Rattle.values.specs.Events.{AreKeysIn}
use Rattle.systime_query.specs.staging.View.{Holds}
use Rattle.systime_query.specs.staging.Own.{net_over}
use Rattle.transaction.specs.OpenTransactionState.{OpenTransactionState}
use Rattle.transaction.proofs.open_transaction.OpenTransaction.net.Goals as goal

pub returns-clause-ok : goal.returns-clause-ok
returns-clause-ok c =
    subst (λ (t : OpenTransactionState). IfOk c.net.result (λ net. (schema : Schema) (m : Changes) → Holds schema t.view m → AreKeysIn schema t.writes → net ≡ net_over m t.writes)) c.self.view_is c.net.ensures.ok

pub returns-clause-keys : goal.returns-clause-keys
returns-clause-keys c =
    subst (λ (t : OpenTransactionState). IfOk c.net.result (λ net. (schema : Schema) → AreKeysIn schema t.writes → AreKeysIn schema net)) c.self.view_is c.net.ensures.keys
