-- What a step that adds a column makes of the store.
use Rattle.std.specs.Prelude.{◌≡◌, ℕ}
use Rattle.values.specs.declared.table.Column.{Column}
use Rattle.values.specs.Columns.{new_column, add_column}
use Rattle.steps.specs.declared.step.Step.{Step}
use Rattle.steps.specs.declared.step.Step.TheVariants.{AddColumn}
use Rattle.interleaving.specs.SystemState.{SystemState}

-- a table has one column more, and nothing else has changed: no node, row or block is written anew
pub record IsAltered (number : ℕ) (column : Column) (old new : SystemState) : Type 0 where
  pub schema_is : new.schema ≡ add_column number column old.schema
  pub engine_stays : new.engine ≡ old.engine
  pub sessions_stay : new.sessions ≡ old.sessions

-- what a step that is answered altered makes of the store
abbrev pub IsAlterStep : Step → SystemState → SystemState → Type 0
IsAlterStep (AddColumn i number name of) old new = IsAltered number (new_column name of) old new
IsAlterStep step old new = Unit {0}
