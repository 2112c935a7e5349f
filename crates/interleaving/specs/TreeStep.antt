-- What a split or a migrate step makes of the tree.
use Rattle.std.specs.Prelude.{Bool}
use Rattle.values.specs.KeyEncoding.{bytes_of_key}
use Rattle.tsbtree.specs.View.{TreeState}
use Rattle.validation.specs.declared.cut.Cut.{Cut}
use Rattle.validation.specs.declared.cut.Cut.TheVariants.{Key as KeyCut, Time as TimeCut}
use Rattle.validation.specs.Split.{IsSplit}
use Rattle.steps.specs.declared.step.Step.{Step}
use Rattle.steps.specs.declared.step.Step.TheVariants.{SplitKey, SplitTime, Migrate}
use Rattle.interleaving.specs.MigrateStep.{WasPacked}
use Rattle.interleaving.specs.SystemState.{SystemState}

-- a node is split, or nothing has changed, by what was done
pub record WasSplit (cut : Cut) (old new : TreeState) : Type 0 where
  pub done : Bool
  pub split : IsSplit cut old new done

-- what a step that is answered done makes of the tree
abbrev pub IsTreeStep : Step → SystemState → SystemState → Type 0
IsTreeStep (SplitKey key) old new = WasSplit (KeyCut (bytes_of_key key)) old.engine new.engine
IsTreeStep (SplitTime key instant) old new =
    WasSplit (TimeCut (bytes_of_key key) instant) old.engine new.engine
IsTreeStep Migrate old new = WasPacked old.engine new.engine
IsTreeStep step old new = Unit {0}
