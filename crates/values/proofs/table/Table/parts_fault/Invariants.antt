use Rattle.std.proofs.Common.{◌≡◌, drop}
use Rattle.values.specs.Fit.{parts_fault}
use Rattle.values.proofs.table.Table.parts_fault.Given as goal

abbrev pub invariant-loop-i : goal.invariant-loop-i
invariant-loop-i l = parts_fault l.self (drop l.i l.columns) (drop l.i l.parts) ≡ parts_fault l.self l.columns l.parts
