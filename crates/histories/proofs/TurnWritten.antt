-- The turn of a write.
use Rattle.std.proofs.Common.{◌≡◌, ℕ, refl}
use Rattle.values.specs.declared.write.Write.{Write}
use Rattle.values.specs.declared.write.Write.TheVariants.{Insert, Update, Delete, UpdatePortion, DeletePortion}
use Rattle.steps.specs.StepOf.{step_of}
use Rattle.histories.specs.Turn.{turn_in, write_turn}
use Rattle.histories.specs.World.{World}

pub turn_is : (world : World) (i : ℕ) (w : Write) → turn_in world (step_of i w) ≡ write_turn world i (step_of i w)
turn_is world i (Insert number rows) = refl
turn_is world i (Update keys sets) = refl
turn_is world i (Delete keys) = refl
turn_is world i (UpdatePortion keys cut sets) = refl
turn_is world i (DeletePortion keys cut) = refl
