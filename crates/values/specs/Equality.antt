-- Schemas are equal where their tables are, in the same order.
use Rattle.std.specs.Prelude.{Bool}
use Rattle.std.specs.Cmp.{IsPartialEquivalence, on_per}
use Rattle.std.specs.Cmp.Lexicographic.{pointwise, lists_per}
use Rattle.values.specs.contracts.table.TablePartialEq.TheImpl as table
use Rattle.values.specs.contracts.table.TablePartialEq.TheImpl.Laws as laws
use Rattle.values.specs.Tables.{Schema}

abbrev pub schema_eq : Schema → Schema → Bool
schema_eq x y = pointwise (table.ghosts).eq x.tables y.tables

pub schema_eq_laws : IsPartialEquivalence schema_eq
schema_eq_laws = on_per (λ (s : Schema). s.tables) (lists_per laws.laws-law)
