-- The replies to a list of steps, at some of which memory ran out.
use Rattle.std.specs.Prelude.{◌≡◌, List, [], ◌∷◌, Bool, true, if◌then◌else◌, not, ◌&&◌}
use Rattle.std.specs.List.{list_all}
use Rattle.values.specs.Tables.{Schema}
use Rattle.steps.specs.declared.step.Step.{Step}
use Rattle.steps.specs.declared.step.Reply.{Reply}
use Rattle.histories.specs.History.{History, reply, replies}
use Rattle.steps.specs.Reply.{is_out_of_memory}
use Rattle.histories.specs.Memory.{takes_no_memory_after}

-- at none did memory run out
abbrev pub AllAnswered : List Reply → Type 0
AllAnswered replies = list_all (λ r. not (is_out_of_memory r)) replies ≡ true

-- the replies that are due: a step that is answered out of memory is none of the history
abbrev pub due : Schema → History → List Step → List Reply → List Reply
due first h [] given = []
due first h (step ∷ steps) [] = replies first h (step ∷ steps)
due first h (step ∷ steps) (r ∷ given) =
    if is_out_of_memory r then r ∷ due first h steps given
    else reply first h step ∷ due first (step ∷ h) steps given

-- memory ran out only at steps that take some
abbrev pub is_out_where_taken : Schema → History → List Step → List Reply → Bool
is_out_where_taken first h [] given = true
is_out_where_taken first h (step ∷ steps) [] = true
is_out_where_taken first h (step ∷ steps) (r ∷ given) =
    if is_out_of_memory r
    then not (takes_no_memory_after first h step) && is_out_where_taken first h steps given
    else is_out_where_taken first (step ∷ h) steps given

abbrev pub OutWhereTaken : Schema → List Step → List Reply → Type 0
OutWhereTaken first steps given = is_out_where_taken first [] steps given ≡ true
