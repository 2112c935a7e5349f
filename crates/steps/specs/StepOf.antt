-- What a session writes, as a step.
use Rattle.std.specs.Prelude.{ℕ}
use Rattle.values.specs.declared.write.Write.{Write}
use Rattle.values.specs.declared.write.Write.TheVariants.{Insert as Inserts, Update as Updates, Delete as Deletes, UpdatePortion as UpdatesPortion, DeletePortion as DeletesPortion}
use Rattle.steps.specs.declared.step.Step.{Step}
use Rattle.steps.specs.declared.step.Step.TheVariants.{Insert, Update, Delete, UpdatePortion, DeletePortion}

abbrev pub step_of : ℕ → Write → Step
step_of i (Inserts table rows) = Insert i table rows.now
step_of i (Updates keys sets) = Update i keys.now sets.now
step_of i (Deletes keys) = Delete i keys.now
step_of i (UpdatesPortion keys cut sets) = UpdatePortion i keys.now cut sets.now
step_of i (DeletesPortion keys cut) = DeletePortion i keys.now cut
