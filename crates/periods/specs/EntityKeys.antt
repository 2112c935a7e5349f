-- The keys of an entity as a search condition: each of its columns is equal to its value.
use Rattle.std.specs.Prelude.{◌≡◌, ℕ, ◌+◌, List, [], ◌∷◌, length}
use Rattle.values.specs.declared.value.Value.{Value}
use Rattle.values.specs.declared.key.Key.{Key}
use Rattle.values.specs.declared.table.Table.{Table}
use Rattle.values.specs.declared.query.Operator.TheVariants.{Equal}
use Rattle.values.specs.declared.query.Comparison.{Comparison}
use Rattle.values.specs.declared.query.Keys.{Keys}
use Rattle.values.specs.Order.{is_key}
use Rattle.values.specs.TableRules.{IsDistinct}
use Rattle.values.specs.Versions.{matches}
use Rattle.values.specs.Entity.{entity_of}

-- as far as both go: an entity has one value fewer than its table's key has columns
abbrev pub equalities : List ℕ → List Value → List Comparison
equalities (n ∷ ns) (v ∷ vs) = record { column = n; operator = Equal; value = v } ∷ equalities ns vs
equalities _ _ = []

abbrev pub entity_keys : Table → Key → Keys
entity_keys table entity =
    record { table = entity.table; comparisons = equalities table.key entity.parts }

-- these are the keys of the entity, and no others
abbrev pub EntityKeysAreItsKeys : Type 0
EntityKeysAreItsKeys =
    (table : Table) (entity key : Key) → IsDistinct table.key
    → length entity.parts + 1 ≡ length table.key → length key.parts ≡ length table.key
    → matches table (entity_keys table entity) key ≡ is_key entity (entity_of key)
