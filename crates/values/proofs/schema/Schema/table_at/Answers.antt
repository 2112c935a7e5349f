use Rattle.std.proofs.Common.{List, subst, sym}
use Rattle.values.specs.declared.table.Table.{Table}
use Rattle.values.specs.TableRules.{AreTables}
use Rattle.values.proofs.TablePlaces.{is_at_place}
use Rattle.values.proofs.schema.Schema.table_at.Goals as goal

pub returns-clause-good : goal.returns-clause-good
returns-clause-good c =
    let tables : List Table = c.deref.result.now in
    let good : AreTables 1 tables = subst (AreTables 1) (sym c.deref.ensures.value) c.self.invariant in
    is_at_place tables c.args.number c.get.result good c.if-number-eq0.false c.get.ensures.lookup.0 c.get.ensures.lookup.1
