-- Which steps take no memory, by what contracts see of a system.
use Rattle.std.specs.Prelude.{Bool, is_some, ◌||◌}
use Rattle.steps.specs.declared.step.Step.{Step}
use Rattle.steps.specs.Misfit.{misfit}
use Rattle.steps.specs.Reply.{takes_no_memory_by}
use Rattle.histories.specs.World.{World}
use Rattle.histories.specs.Stands.{is_open_at}

-- a step that takes no memory: one that does not fit, or one of these
abbrev pub takes_no_memory : World → Step → Bool
takes_no_memory w step =
    is_some (misfit w.schema step) || takes_no_memory_by (is_open_at w) step
