use Rattle.std.proofs.Common.{◌≡◌, take}
use Rattle.std.specs.List.{flat_map}
use Rattle.treewalk.proofs.LevelChildren.{children_in}
use Rattle.treewalk.proofs.level.level_below.Given as goal

abbrev pub invariant-loop-number : goal.invariant-loop-number
invariant-loop-number l = l.next.items ≡ flat_map (children_in l.nodes l.rect) (take l.number-index l.numbers)
