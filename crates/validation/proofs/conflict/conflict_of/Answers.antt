use Rattle.std.proofs.Common.{rules, ◌≡◌, IfOk, Some, None, subst}
use Rattle.std.proofs.lemmas.Result.{IfOk-weaker}
use Rattle.std.specs.Option.{option_map}
use Rattle.values.specs.Tables.{table_at}
use Rattle.values.specs.TableRules.{IsTable}
use Rattle.values.specs.Events.{IsKeyIn, event_since}
use Rattle.values.specs.KeyEncoding.{bytes_of_key}
use Rattle.values.specs.Log.{Changes}
use Rattle.values.specs.Period.{periods_of}
use Rattle.staging.specs.tsbtree.View.{events}
use Rattle.staging.specs.View.{Holds}
use Rattle.validation.specs.Conflict.{IsOfEntity, conflict_of}
use Rattle.validation.proofs.ConflictUnits.{of_entity, of_key, none_of_table}
use Rattle.validation.proofs.conflict.conflict_of.Goals as goal

pub returns-in-Some-period-clause-ok : goal.returns-in-Some-period-clause-ok
returns-in-Some-period-clause-ok c =
    let schema = c.args.schema.now in
    let view = c.args.view.now in
    let key = c.args.change.now.0 in
    let table = c.in-Some.table.now in
    let at : table_at schema key.table ≡ Some table = search rules in
    let good : IsTable key.table table = search rules in
    let has : table.period ≡ Some c.in-Some-period.field-0 = search rules in
    IfOk-weaker c.conflict_of_entity.result (IsOfEntity table (events view) c.args.start key)
    (λ found. (m : Changes) → Holds schema view m → IsKeyIn schema key → found ≡ conflict_of (periods_of schema) m c.args.start key)
    (λ found is. of_entity schema view table c.in-Some-period.field-0 c.args.start key found at good has is)
    (subst (λ k. IfOk c.conflict_of_entity.result (IsOfEntity table (events view) c.args.start k)) c.key-key.ensures c.conflict_of_entity.ensures.ok)

pub returns-in-None-clause-ok : goal.returns-in-None-clause-ok
returns-in-None-clause-ok c =
    let schema = c.args.schema.now in
    let view = c.args.view.now in
    let key = c.args.change.now.0 in
    let table = c.in-Some.table.now in
    let at : table_at schema key.table ≡ Some table = search rules in
    let none : table.period ≡ None = search rules in
    IfOk-weaker c.conflict_of_key-in-None.result (λ found. found ≡ option_map (λ i. (key, i)) (event_since (events view) c.args.start (bytes_of_key key)))
    (λ found. (m : Changes) → Holds schema view m → IsKeyIn schema key → found ≡ conflict_of (periods_of schema) m c.args.start key)
    (λ found is. of_key schema view c.args.start key found (none_of_table schema key table at none) is) c.conflict_of_key-in-None.ensures.ok
