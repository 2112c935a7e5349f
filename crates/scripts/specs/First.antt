-- Steps that are taken before a script.
use Rattle.std.specs.Prelude.{◌≡◌, ◌⊎◌, List, [], ◌∷◌, Option, Some, None, Bool, true, false}
use Rattle.values.specs.Tables.{Schema}
use Rattle.values.specs.declared.refusal.Refusal.{Refusal}
use Rattle.values.specs.declared.refusal.Refusal.TheVariants.{Memory}
use Rattle.steps.specs.declared.step.Step.{Step}
use Rattle.steps.specs.declared.step.Reply.{Reply}
use Rattle.steps.specs.declared.step.Reply.TheVariants.{Refused}
use Rattle.histories.specs.History.{History, reply}
use Rattle.histories.specs.Led.{led}
use Rattle.scripts.specs.declared.script.RunFault.{RunFault}
use Rattle.scripts.specs.declared.script.RunFault.TheVariants.{First, Memory as OutOfMemory}
use Rattle.interleaving.specs.SystemState.{SystemState, Stands}

-- the history of steps
abbrev pub history_of : List Step → History
history_of steps = led [] steps

abbrev pub refusal_in : Reply → Option Refusal
refusal_in (Refused refusal) = Some refusal
refusal_in _ = None

-- the first refusal in the replies to steps, after a history
abbrev pub first_refusal : Schema → History → List Step → Option Refusal
first_refusal schema h [] = None
first_refusal schema h (step ∷ steps) = elim (refusal_in (reply schema h step)) [
  | Some refusal ↦ Some refusal
  | None ↦ first_refusal schema (step ∷ h) steps
]

-- the refusal is the first in the replies to steps after a history, or memory ran out at one of them
abbrev pub IsRefusedAfter : Schema → History → List Step → Refusal → Type 0
IsRefusedAfter schema h steps refusal =
    (refusal ≡ Memory) ⊎ (first_refusal schema h steps ≡ Some refusal)

abbrev pub IsRefusedFirst : Schema → List Step → Refusal → Type 0
IsRefusedFirst schema steps refusal = IsRefusedAfter schema [] steps refusal

-- why there is no store that took the steps
abbrev pub IsUnled : Schema → List Step → RunFault → Type 0
IsUnled schema steps (First refusal) = IsRefusedFirst schema steps refusal
IsUnled schema steps OutOfMemory = Unit {0}
IsUnled schema steps fault = ⊥

abbrev pub is_first : RunFault → Bool
is_first (First refusal) = true
is_first fault = false

-- ---- what a call did, whatever the system stood for

-- the steps were taken, and none was refused
abbrev pub LeadsTo : SystemState → SystemState → List Step → Type 0
LeadsTo s s' steps = (schema : Schema) (h : History) → Stands schema s h
    → (first_refusal schema h steps ≡ None) × Stands schema s' (led h steps)

abbrev pub RefusesFirst : SystemState → List Step → Refusal → Type 0
RefusesFirst s steps refusal =
    (schema : Schema) (h : History) → Stands schema s h → IsRefusedAfter schema h steps refusal
