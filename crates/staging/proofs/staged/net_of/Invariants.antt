use Rattle.std.proofs.Common.{◌≡◌, ◌++◌, All}
use Rattle.values.specs.KeyEncoding.{IsShortKey}
use Rattle.staging.specs.Staged.{net_in}
use Rattle.tsbtree.specs.View.{events}
use Rattle.staging.proofs.staged.net_of.Given as goal

abbrev pub invariant-loop-key : goal.invariant-loop-key
invariant-loop-key l = record {
  to_come : l.net.items ++ net_in (events l.view) l.last l.key-iterator ≡ net_in (events l.view) l.last l.writes.entries;
  short : All (λ w. IsShortKey w.0) l.key-iterator;
}
