use Rattle.std.proofs.Common.{◌≡◌, drop, option_copied}
use Rattle.std.specs.List.{slice_get}
use Rattle.values.specs.ChangedSince.{conflicts}
use Rattle.values.specs.Events.{AreKeysIn}
use Rattle.values.specs.Log.{Changes}
use Rattle.values.specs.Period.{periods_of}
use Rattle.staging.specs.View.{Holds}
use Rattle.validation.specs.Conflict.{HasNoConflict}
use Rattle.validation.proofs.conflict.first_conflict.Given as goal

abbrev pub invariant-loop-change : goal.invariant-loop-change
invariant-loop-change l = record {
  left : (m : Changes) → Holds l.schema l.view m → AreKeysIn l.schema l.net
      → slice_get (conflicts (periods_of l.schema) m l.start (drop l.change-index l.net)) 0
      ≡ slice_get (conflicts (periods_of l.schema) m l.start l.net) 0;
  none_before : (m : Changes) → Holds l.schema l.view m → AreKeysIn l.schema l.net
      → HasNoConflict (periods_of l.schema) m l.start (option_copied l.before);
}
