-- The events of a line, by the number of the last receipt before it and its receipts.
use Rattle.std.proofs.Common.{ℕ, List, [], ◌∷◌, Option, Some, None}
use Rattle.std.specs.Option.{option_map}
use Rattle.steps.specs.declared.step.Step.{Step}
use Rattle.steps.specs.declared.step.Reply.{Reply}
use Rattle.serving.specs.journal.declared.entry.Entry.{Entry}
use Rattle.serving.specs.journal.declared.entry.Entry.TheVariants.{Begin as Begins, Commit as Commits, Split as Splits, Install as Installs}
use Rattle.serving.specs.Progress.{Given}
use Rattle.runs.specs.Event.{Event}
use Rattle.runs.specs.Tells.{with_reading}

abbrev pub read_by : Entry → Step → Step
read_by (Commits session begin net reading end) step = with_reading reading step
read_by (Begins session earlier view) step = step
read_by (Splits cut done) step = step
read_by (Installs rect block done) step = step

abbrev pub taking : ℕ → Given → Option (Step × Reply) → Event
taking i g step = record {
  part = i;
  number = g.number;
  entry = Some g.entry;
  step = option_map (λ s. (read_by g.entry s.0, s.1)) step;
}

-- the last of the receipts is the step's, and those before it are of no step
abbrev pub taking_all : ℕ → Given → Option (Step × Reply) → List Given → List Event
taking_all i g step [] = taking i g step ∷ []
taking_all i g step (next ∷ given) = taking i g None ∷ taking_all i next step given

abbrev pub silent : ℕ → ℕ → Option (Step × Reply) → List Event
silent i last None = []
silent i last (Some s) =
    record { part = i; number = last; entry = None; step = Some s } ∷ []

abbrev pub events_of : ℕ → ℕ → Option (Step × Reply) → List Given → List Event
events_of i last step [] = silent i last step
events_of i last step (g ∷ given) = taking_all i g step given
