use Rattle.std.proofs.Common.{◌≡◌, drop, length}
use Rattle.values.specs.Writes.{set_all}
use Rattle.staging.proofs.update.set_all.Given as goal

abbrev pub invariant-loop-set : goal.invariant-loop-set
invariant-loop-set l = (set_all (drop l.set-index l.sets) l.values.items ≡ set_all l.sets l.fn.row) × (length l.values.items ≡ length l.fn.row)
