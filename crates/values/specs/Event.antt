-- A change as the store keeps it.
use Rattle.std.specs.Prelude.{ℕ, List, Option}
use Rattle.values.specs.Log.{Row}

-- what the key with these bytes has from an instant on: a row, or none
pub record Event : Type 0 where
  pub key : List ℕ
  pub at : ℕ
  pub row : Option Row
