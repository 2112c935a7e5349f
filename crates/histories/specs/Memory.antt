-- Which steps take no memory, by the history.
use Rattle.std.specs.Prelude.{Bool, is_some, ◌||◌}
use Rattle.values.specs.Tables.{Schema}
use Rattle.steps.specs.declared.step.Step.{Step}
use Rattle.steps.specs.Misfit.{misfit}
use Rattle.steps.specs.Reply.{takes_no_memory_by}
use Rattle.histories.specs.History.{History, schema_after, log_at_begin}

-- a step that takes no memory: one that does not fit, or one of these
abbrev pub takes_no_memory_after : Schema → History → Step → Bool
takes_no_memory_after first h step =
    is_some (misfit (schema_after first h) step)
    || takes_no_memory_by (λ i. is_some (log_at_begin first h i)) step
