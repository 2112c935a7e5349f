-- Which declarations make tables, and which texts say a schema.
use Rattle.std.specs.Prelude.{◌≡◌, ℕ, ◌≤◌, List, [], ◌↔◌, Ok, Err, length}
use Rattle.values.specs.Tables.{Schema}
use Rattle.rows.specs.declared.schema_reading.SchemaFault.TheVariants.{BadTable}
use Rattle.rows.specs.declared.declaration.Declaration.{Declaration}
use Rattle.rows.specs.SchemaTable.{longest_schema, tables_from, read_schema}
use Rattle.rows.specs.SchemaGrammar.{SchemaText}
use Rattle.rows.specs.GoodTable.{TablesAreGood, AreTablesOf, IsFirstBad}

-- declarations make a schema where they are good tables, and it has those; else the first bad one
-- is reported
pub record GoodTablesAreMade : Type 0 where
  pub good : (declarations : List Declaration)
      → ((schema : Schema) × (tables_from [] declarations ≡ Ok schema)) ↔ TablesAreGood declarations
  pub exactly : (declarations : List Declaration) (schema : Schema)
      → (tables_from [] declarations ≡ Ok schema)
      ↔ (TablesAreGood declarations × AreTablesOf 1 declarations schema.tables)
  pub bad : (declarations : List Declaration) (n : ℕ)
      → (tables_from [] declarations ≡ Err (BadTable n)) ↔ IsFirstBad declarations n

-- a text of at most 65,536 bytes that says good tables, and a schema that has them
pub record SaysSchema (text : List ℕ) (schema : Schema) : Type 0 where
  pub declarations : List Declaration
  pub short : length text ≤ longest_schema
  pub spelled : SchemaText declarations text
  pub good : TablesAreGood declarations
  pub tables : AreTablesOf 1 declarations schema.tables

-- a schema is read exactly from the texts that say it
abbrev pub OnlySchemasAreRead : Type 0
OnlySchemasAreRead =
    (text : List ℕ) (schema : Schema) → (read_schema text ≡ Ok schema) ↔ SaysSchema text schema

-- every text that says good tables says a schema
abbrev pub GoodTextsAreRead : Type 0
GoodTextsAreRead =
    (text : List ℕ) (declarations : List Declaration) → length text ≤ longest_schema
    → SchemaText declarations text → TablesAreGood declarations
    → (schema : Schema) × (read_schema text ≡ Ok schema)
