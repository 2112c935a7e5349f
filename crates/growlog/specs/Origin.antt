-- What a store begins with.
use Rattle.std.specs.Prelude.{ℕ}
use Rattle.values.specs.Log.{Log}
use Rattle.values.specs.Tables.{Schema}

-- its tables, the transactions that were committed before it began, and how many entries its journal may have
pub record Origin : Type 0 where
  pub schema : Schema
  pub log : Log
  pub most_entries : ℕ
