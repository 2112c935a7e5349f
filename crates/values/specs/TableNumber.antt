-- Tables by their names.
use Rattle.std.specs.Prelude.{ℕ, List, Option, find}
use Rattle.std.specs.Option.{option_map}
use Rattle.values.specs.Tables.{Schema}
use Rattle.values.specs.Names.{same_name}

-- the number of the first table with the name
abbrev pub table_number : Schema → List ℕ → Option ℕ
table_number schema name =
    option_map (λ t. t.number) (find (λ t. same_name t.name name) schema.tables)
