use Rattle.std.proofs.Common.{◌≡◌, ◌++◌, take, map}
use Rattle.treewalk.proofs.level.add_meeting.Given as goal

abbrev pub invariant-loop-reference : goal.invariant-loop-reference
invariant-loop-reference l = l.numbers.items ≡ l.fn.numbers.items ++ map (λ r. r.now.child) (take l.reference-index l.reference-items)
