use Rattle.std.proofs.Common.{◌≡◌, ◌++◌, drop}
use Rattle.statement.proofs.meaning.copy_of.Given as goal

abbrev pub invariant-loop-value : goal.invariant-loop-value
invariant-loop-value l = l.copy.items ++ drop l.value-index l.values ≡ l.values
