-- Histories that go on.
use Rattle.std.specs.Prelude.{List, [], ◌∷◌}
use Rattle.steps.specs.declared.step.Step.{Step}
use Rattle.histories.specs.History.{History}

-- a history after more steps
abbrev pub led : History → List Step → History
led h [] = h
led h (step ∷ steps) = led (step ∷ h) steps
