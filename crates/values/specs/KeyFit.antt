-- Keys that fit a table of a schema.
use Rattle.std.specs.Prelude.{◌≡◌, None, IsSomeAnd}
use Rattle.values.specs.declared.key.Key.{Key}
use Rattle.values.specs.Tables.{Schema, table_at}
use Rattle.values.specs.Fit.{key_fault}

-- the key has a table of the schema, and fits it
abbrev pub IsKeyIn : Schema → Key → Type 0
IsKeyIn schema key =
    IsSomeAnd (table_at schema key.table) (λ table. key_fault table key.parts ≡ None)
