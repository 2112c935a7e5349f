-- What turns amount to.
use Rattle.std.specs.Prelude.{◌≡◌, ◌∷◌}
use Rattle.values.specs.Tables.{Schema}
use Rattle.steps.specs.declared.step.Step.{Step}
use Rattle.histories.specs.History.{History, reply}
use Rattle.histories.specs.Memory.{takes_no_memory_after}
use Rattle.histories.specs.WorldMemory.{takes_no_memory}
use Rattle.histories.specs.World.{World}
use Rattle.histories.specs.Stands.{Stands}
use Rattle.histories.specs.Turn.{turn}

-- a turn answers as the definitions do, and leaves what stands for the history with the step
abbrev pub TurnsGiveTheReplies : Type 0
TurnsGiveTheReplies =
    (first : Schema) (w : World) (h : History) (step : Step) → Stands first w h
    → ((turn w step).0 ≡ reply first h step) × Stands first (turn w step).1 (step ∷ h)

-- which steps take no memory is one thing by the system and by the history
abbrev pub MemoryIsTakenAlike : Type 0
MemoryIsTakenAlike =
    (first : Schema) (w : World) (h : History) (step : Step) → Stands first w h
    → takes_no_memory w step ≡ takes_no_memory_after first h step
