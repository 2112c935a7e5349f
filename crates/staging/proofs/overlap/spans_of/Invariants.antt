use Rattle.std.proofs.Common.{◌≡◌, map, take}
use Rattle.values.specs.Period.{span_of}
use Rattle.staging.proofs.overlap.spans_of.Given as goal

abbrev pub invariant-loop-key : goal.invariant-loop-key
invariant-loop-key l = l.spans.items ≡ map (λ e. span_of l.period e.1) (take l._key-index l.rows)
