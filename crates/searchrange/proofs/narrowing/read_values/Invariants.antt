use Rattle.std.proofs.Common.{take, All}
use Rattle.values.specs.KeyEncodingLaw.{IsStorable}
use Rattle.searchrange.proofs.narrowing.read_values.Given as goal

abbrev pub invariant-loop-comparison : goal.invariant-loop-comparison
invariant-loop-comparison l = All (λ c. IsStorable c.value) (take l.comparison-index l.comparisons)
