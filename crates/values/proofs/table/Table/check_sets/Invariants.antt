use Rattle.std.proofs.Common.{◌≡◌, [], take, drop}
use Rattle.values.specs.Fit.{sets_fault}
use Rattle.values.proofs.table.Table.check_sets.Given as goal

abbrev pub invariant-loop-i : goal.invariant-loop-i
invariant-loop-i l = sets_fault l.self (take l.i l.sets) (drop l.i l.sets) ≡ sets_fault l.self [] l.sets
