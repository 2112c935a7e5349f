-- Names of tables and columns, which are compared without regard to case.
use Rattle.std.specs.Prelude.{ℕ, List, Bool, false, Option, Some, None}
use Rattle.std.specs.List.{position_from}
use Rattle.std.specs.Str.{str_eq_ignore_ascii_case}
use Rattle.values.specs.declared.period.Period.{Period}
use Rattle.values.specs.declared.table.Table.{Table}

-- the same letters, in any case
abbrev pub same_name : List ℕ → List ℕ → Bool
same_name x y = str_eq_ignore_ascii_case x y

-- the number of the first column with the name, from 1
abbrev pub column_number : Table → List ℕ → Option ℕ
column_number table name = position_from (λ c. same_name c.name name) 1 table.columns

-- the name is that of the period
abbrev pub names_period : Option Period → List ℕ → Bool
names_period None name = false
names_period (Some p) name = same_name p.name name
