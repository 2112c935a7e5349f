use Rattle.std.proofs.Common.{◌≡◌, [], drop}
use Rattle.values.specs.TableRules.{AreTables}
use Rattle.rows.specs.SchemaTable.{tables_from}
use Rattle.rows.proofs.schema.tables_of.Given as goal

abbrev pub invariant-loop-declaration : goal.invariant-loop-declaration
invariant-loop-declaration l = record {
  to_come : tables_from l.tables.items (drop l.declaration-index l.declarations) ≡ tables_from [] l.declarations;
  good : AreTables 1 l.tables.items;
}
