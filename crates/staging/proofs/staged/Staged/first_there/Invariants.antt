use Rattle.std.proofs.Common.{◌≡◌, drop}
use Rattle.std.specs.List.{find}
use Rattle.staging.specs.Staged.{sees}
use Rattle.tsbtree.specs.View.{events}
use Rattle.staging.proofs.staged.Staged.first_there.Given as goal

abbrev pub invariant-loop-key : goal.invariant-loop-key
invariant-loop-key l = find (sees (events l.view) l.last l.self) (drop l.key-index l.keys) ≡ find (sees (events l.view) l.last l.self) l.keys
