use Rattle.std.proofs.Common.{◌≡◌, take}
use Rattle.treewalk.specs.Gather.{asked_of_all}
use Rattle.treewalk.proofs.gather.gathered_of.Given as goal

abbrev pub invariant-loop-number : goal.invariant-loop-number
invariant-loop-number g l = l.found.items ≡ asked_of_all l.query l.range l.nodes (take l.number-index l.numbers)
