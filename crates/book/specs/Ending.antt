-- How a transaction ends: the validation, and the write.
use Rattle.std.specs.Prelude.{◌≡◌, ℕ, ◌<◌, ◌≤◌, Option, Some, None, Result, Ok, Err, Bool, true, false, length}
use Rattle.values.specs.Tables.{Schema}
use Rattle.values.specs.Log.{Changes, Net, add_net}
use Rattle.values.specs.Period.{periods_of}
use Rattle.values.specs.Commits.{outcome, max_instant}
use Rattle.values.specs.Events.{AreKeysIn}
use Rattle.validation.specs.tsbtree.View.{TreeState, last}
use Rattle.validation.specs.staging.View.{Holds}
use Rattle.values.specs.declared.refusal.Refusal.{Refusal}
use Rattle.values.specs.declared.refusal.Refusal.TheVariants.{Memory}

-- memory ran out, so it did not end
abbrev pub ran_out : Result (Option ℕ) Refusal → Bool
ran_out (Err Memory) = true
ran_out _ = false

-- the instant at which it was committed
abbrev pub instant_of : Result (Option ℕ) Refusal → Option ℕ
instant_of (Ok end) = end
instant_of (Err refusal) = None

-- how a transaction of this start with these net changes ends at this reading
abbrev pub IsEnd : Schema → TreeState → ℕ → Net → ℕ → Result (Option ℕ) Refusal → Type 0
IsEnd schema engine start net reading end =
    (m : Changes) → Holds schema engine m → AreKeysIn schema net
    → end ≡ outcome (periods_of schema) m (last engine) start net reading

-- the net changes can be put in at the instant
pub record MayBeWritten (engine : TreeState) (net : Net) (instant : ℕ) : Type 0 where
  pub later : last engine < instant
  pub in_range : instant ≤ max_instant
  pub some : 0 < length net

-- the net changes were put in at the instant; or there is none, and nothing has changed
abbrev pub IsWritten : TreeState → TreeState → Net → Option ℕ → Type 0
IsWritten old new net None = new ≡ old
IsWritten old new net (Some instant) =
    ((schema : Schema) (m : Changes) → Holds schema old m → AreKeysIn schema net
    → Holds schema new (add_net instant m net)) × (last new ≡ instant)
