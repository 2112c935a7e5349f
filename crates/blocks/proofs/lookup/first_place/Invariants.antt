use Rattle.std.proofs.Common.{◌≡◌, ◌-◌}
use Rattle.blocks.specs.Lookup.{first_place}
use Rattle.blocks.proofs.lookup.first_place.Given as goal

abbrev pub invariant-loop : goal.invariant-loop
invariant-loop l =
    first_place (l.n - l.counter) l.rest l.fn.key l.low l.high ≡ first_place l.n l.bytes l.fn.key l.low l.high
