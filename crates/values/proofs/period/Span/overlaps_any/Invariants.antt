use Rattle.std.proofs.Common.{◌≡◌, drop}
use Rattle.std.specs.List.{list_any}
use Rattle.values.specs.Period.{overlap}
use Rattle.values.proofs.period.Span.overlaps_any.Given as goal

abbrev pub invariant-loop-other : goal.invariant-loop-other
invariant-loop-other l = list_any (overlap l.self) (drop l.other-index l.others) ≡ list_any (overlap l.self) l.others
