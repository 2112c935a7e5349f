-- A table that has got columns.
use Rattle.std.specs.Prelude.{◌≡◌, List, ◌++◌}
use Rattle.values.specs.declared.table.Column.{Column}
use Rattle.values.specs.declared.table.Table.{Table}

-- the later table is the earlier one, with more columns behind its own or with none
pub record IsWidenedTo (earlier later : Table) : Type 0 where
  pub number_is : later.number ≡ earlier.number
  pub key_is : later.key ≡ earlier.key
  pub period_is : later.period ≡ earlier.period
  pub more : List Column
  pub columns_are : later.columns ≡ earlier.columns ++ more
