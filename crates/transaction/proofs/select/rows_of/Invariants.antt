use Rattle.std.proofs.Common.{◌≡◌, map}
use Rattle.transaction.proofs.select.rows_of.Given as goal

abbrev pub invariant-loop-key : goal.invariant-loop-key
invariant-loop-key l = l.rows.items ≡ map (λ e. e.1) l.yielded
