use Rattle.std.proofs.Common.{List, subst, sym}
use Rattle.values.specs.declared.table.Table.{Table}
use Rattle.values.specs.Tables.{Schema}
use Rattle.values.specs.TableRules.{IsNumberIn, AreTables}
use Rattle.values.proofs.TablePlaces.{is_known}
use Rattle.values.proofs.schema.Schema.table.Goals as goal

pub returns-then-same_name-clause-known : goal.returns-then-same_name-clause-known
returns-then-same_name-clause-known c =
    let tables = c.deref-table-items.result.now in
    let same = c.deref-table-items.ensures.value in
    let good : AreTables 1 tables = subst (AreTables 1) (sym same) c.self.invariant in
    let known : IsNumberIn (record { tables = tables }) c.table-item.result.number = is_known tables c.loop-table.table-index c.table-item.result good c.loop-table-test.true c.table-item.is in
    subst (λ (s : Schema). IsNumberIn s c.table-item.result.number) c.self.view_is
    (subst (λ (ts : List Table). IsNumberIn (record { tables = ts }) c.table-item.result.number) same known)
