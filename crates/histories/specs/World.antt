-- What contracts see of a system.
use Rattle.std.specs.Prelude.{ℕ, List, Option}
use Rattle.values.specs.declared.key.Key.{Key}
use Rattle.values.specs.Tables.{Schema}
use Rattle.values.specs.Log.{Changes, State}

-- its start, the rows that it sees, and the keys that it wrote
pub record OpenTransaction : Type 0 where
  pub start : ℕ
  pub rows : State
  pub written : List Key

-- what was committed, with the last instant, and the sessions' open transactions by their numbers,
-- from 0
pub record World : Type 0 where
  pub schema : Schema
  pub changes : Changes
  pub latest : ℕ
  pub sessions : List (Option OpenTransaction)
