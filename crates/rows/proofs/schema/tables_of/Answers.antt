use Rattle.std.proofs.Common.{◌≡◌, Some, subst, sym, arith}
use Rattle.std.proofs.lemmas.Grind.{common_steps}
use Rattle.values.specs.TableRules.{AreTables}
use Rattle.rows.specs.SchemaTable.{next_table}
use Rattle.rows.proofs.SchemaTablesMade.{with_next}
use Rattle.rows.proofs.schema.tables_of.Goals as goal

pub loop-declaration-preserved : goal.loop-declaration-preserved
loop-declaration-preserved c =
    let next : Some c.in-Some.table ≡ next_table c.loop-declaration.tables.items c.declaration-item.result = cc (c.in_ok-table.ensures, c.deref.ensures.value) in
    record {
      to_come = grind (arith, common_steps);
      good = subst (AreTables 1) (sym c.in_ok-push-in-Some.ensures.items) (with_next c.loop-declaration.tables.items c.declaration-item.result c.in-Some.table c.loop-declaration.invariant.good next);
    }
