-- Steps that split a node or pack nodes: they say nothing of rows.
use Rattle.std.specs.Prelude.{List, [], ◌∷◌, Some, None, Bool, true, false, if◌then◌else◌, not, filter}
use Rattle.values.specs.Tables.{Schema}
use Rattle.steps.specs.declared.step.Step.{Step}
use Rattle.steps.specs.declared.step.Step.TheVariants.{SplitKey, SplitTime, Migrate}
use Rattle.steps.specs.declared.step.Reply.{Reply}
use Rattle.steps.specs.declared.step.Reply.TheVariants.{Done, Refused}
use Rattle.steps.specs.Misfit.{misfit}
use Rattle.histories.specs.History.{History, schema_after}

abbrev pub is_maintenance : Step → Bool
is_maintenance (SplitKey key) = true
is_maintenance (SplitTime key instant) = true
is_maintenance Migrate = true
is_maintenance step = false

-- the steps but these, in their order
abbrev pub without_maintenance : List Step → List Step
without_maintenance steps = filter (λ step. not (is_maintenance step)) steps

-- what is answered to one of these, whatever came before it
abbrev pub maintenance_reply : Schema → Step → Reply
maintenance_reply schema step = elim (misfit schema step) [
  | Some refusal ↦ Refused refusal
  | None ↦ Done
]

-- the replies to the other steps in turn, with the replies to these in their places
abbrev pub with_maintenance : Schema → History → List Step → List Reply → List Reply
with_maintenance first h [] others = []
with_maintenance first h (step ∷ steps) others =
    if is_maintenance step
    then maintenance_reply (schema_after first h) step
    ∷ with_maintenance first (step ∷ h) steps others
    else elim others [
      | [] ↦ []
      | r ∷ others ↦ r ∷ with_maintenance first (step ∷ h) steps others
    ]
