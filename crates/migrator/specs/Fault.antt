-- Why a round is broken off.
use Rattle.std.specs.Prelude.{◌≡◌, ◌⊎◌}
use Rattle.values.specs.declared.refusal.Refusal.{Refusal}
use Rattle.values.specs.declared.refusal.Refusal.TheVariants as refused
use Rattle.migrator.specs.declared.store_calls.Filled.{Filled}
use Rattle.migrator.specs.declared.fault.Cause.{Cause}
use Rattle.migrator.specs.declared.fault.Cause.TheVariants.{Memory, Full, Worker, Gate}
use Rattle.migrator.specs.declared.stop.Stop.{Stop}
use Rattle.migrator.specs.declared.stop.Stop.TheVariants as stopped

-- the cause where a node is not packed
abbrev pub cause_of : Stop → Cause
cause_of stopped.Memory = Memory
cause_of (stopped.Gate gave_up) = Gate gave_up

-- the store answered that its journal is full
abbrev pub IsFull : Cause → Type 0
IsFull cause = (filled : Filled) × (cause ≡ Full filled)

-- the cause that a store's refusal is
abbrev pub IsCauseOf : Refusal → Cause → Type 0
IsCauseOf refused.Memory cause = cause ≡ Memory
IsCauseOf refused.JournalFull cause = IsFull cause
IsCauseOf refusal cause = cause ≡ Worker

-- memory ran out, or the journal is full
abbrev pub IsNoRoom : Cause → Type 0
IsNoRoom cause = (cause ≡ Memory) ⊎ IsFull cause

-- memory ran out, or the session is of other tables than the store
abbrev pub IsNoStart : Cause → Type 0
IsNoStart cause = (cause ≡ Memory) ⊎ (cause ≡ Worker)
