-- A key that fits the schema is one of it.
use Rattle.std.proofs.Common.{◌≡◌, ℕ, Option, Some, None, refl}
use Rattle.std.specs.Prelude.{IsSomeAnd}
use Rattle.values.specs.declared.table.Table.{Table}
use Rattle.values.specs.declared.key.Key.{Key}
use Rattle.values.specs.declared.refusal.Refusal.{Refusal}
use Rattle.values.specs.declared.refusal.Refusal.TheVariants.{NoTable}
use Rattle.values.specs.Tables.{Schema, table_at}
use Rattle.values.specs.Fit.{key_fault}
use Rattle.values.specs.KeyFit.{IsKeyIn}
use Rattle.values.specs.Faults.{bad_row}
use Rattle.steps.specs.Misfit.{key_misfit}

-- a row that is not refused has no column at fault
pub no_fault : (fault : Option ℕ) → bad_row fault ≡ None → fault ≡ None
no_fault None is = refl
no_fault (Some n) is = cc

pub key_is_in : (schema : Schema) (key : Key) → key_misfit schema key ≡ None → IsKeyIn schema key
key_is_in schema key fits = by (table_at schema key.table) fits
  where
    by : (o : Option Table) → ◌≡◌ {A = Option Refusal} (elim o [ None ↦ Some NoTable | Some table ↦ bad_row (key_fault table key.parts) ]) None
        → IsSomeAnd o (λ table. key_fault table key.parts ≡ None)
    by None is = cc
    by (Some table) is = no_fault (key_fault table key.parts) is
