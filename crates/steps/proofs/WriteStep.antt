-- A write as a step: why it does not fit, and what it does.
use Rattle.std.proofs.Common.{◌≡◌, ℕ, refl}
use Rattle.values.specs.declared.write.Write.{Write}
use Rattle.values.specs.declared.write.Write.TheVariants.{Insert, Update, Delete, UpdatePortion, DeletePortion}
use Rattle.values.specs.Tables.{Schema}
use Rattle.values.specs.Fitting.{table_of, write_refusal, write_to}
use Rattle.values.specs.Writes.{Own}
use Rattle.steps.specs.Misfit.{misfit, misfit_of}
use Rattle.steps.specs.Write.{write, write_table}
use Rattle.steps.specs.StepOf.{step_of}

pub misfit_is : (schema : Schema) (i : ℕ) (w : Write) → misfit schema (step_of i w) ≡ misfit_of schema i (table_of w) (λ table. write_refusal table w)
misfit_is schema i (Insert number rows) = refl
misfit_is schema i (Update keys sets) = refl
misfit_is schema i (Delete keys) = refl
misfit_is schema i (UpdatePortion keys cut sets) = refl
misfit_is schema i (DeletePortion keys cut) = refl

pub write_is : (schema : Schema) (i : ℕ) (w : Write) (o : Own) → write schema (step_of i w) o ≡ write_table schema (table_of w) (λ table. write_to table w) o
write_is schema i (Insert number rows) o = refl
write_is schema i (Update keys sets) o = refl
write_is schema i (Delete keys) o = refl
write_is schema i (UpdatePortion keys cut sets) o = refl
write_is schema i (DeletePortion keys cut) o = refl
