use Rattle.std.proofs.Common.{◌≡◌, [], drop}
use Rattle.staging.specs.Staged.{sees, first_seen}
use Rattle.tsbtree.specs.View.{events}
use Rattle.staging.proofs.staged.Staged.first_taken.Given as goal

abbrev pub invariant-loop-key : goal.invariant-loop-key
invariant-loop-key l = first_seen (sees (events l.view) l.last l.self) l.earlier.keys (drop l.key-index l.keys) ≡ first_seen (sees (events l.view) l.last l.self) [] l.keys
