-- What `==` finds equal of schemas, tables and columns is equal.
use Rattle.std.proofs.Common.{rules, ◌≡◌, ap, nat_eq}
use Rattle.std.specs.Bool.{Decides}
use Rattle.std.specs.Cmp.Lexicographic.{pointwise, pointwise_decides, bytes_decides}
use Rattle.values.specs.declared.table.Column.{Column}
use Rattle.values.specs.declared.table.Table.{Table}
use Rattle.values.specs.declared.table.ColumnType.{ColumnType}
use Rattle.values.specs.contracts.table.ColumnTypePartialEq.TheImpl as type
use Rattle.values.specs.contracts.table.ColumnPartialEq.TheImpl as column
use Rattle.values.specs.contracts.table.TablePartialEq.TheImpl as table
use Rattle.values.specs.Tables.{Schema}
use Rattle.values.specs.Equality.{schema_eq}

type_decides : (x y : ColumnType) → Decides ((type.ghosts).eq x y) (x ≡ y)
type_decides x y = search rules

column_decides : (x y : Column) → Decides ((column.ghosts).eq x y) (x ≡ y)
column_decides x y = search rules

table_decides : (x y : Table) → Decides ((table.ghosts).eq x y) (x ≡ y)
table_decides x y =
    let columns : Decides (pointwise (column.ghosts).eq x.columns y.columns) (x.columns ≡ y.columns) = pointwise_decides column_decides x.columns y.columns in
    let key : Decides (pointwise nat_eq x.key y.key) (x.key ≡ y.key) = bytes_decides x.key y.key in
    search (columns, key, rules)

pub schema_decides : (x y : Schema) → Decides (schema_eq x y) (x ≡ y)
schema_decides x y =
    let tables = pointwise_decides table_decides x.tables y.tables in
    (λ e. ap (λ ts. record { tables = ts }) (tables.0 e), λ e. tables.1 (ap (λ s. s.tables) e))
