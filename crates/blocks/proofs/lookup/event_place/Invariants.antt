use Rattle.std.proofs.Common.{◌≡◌, ◌-◌, None}
use Rattle.blocks.specs.Lookup.{event_place}
use Rattle.blocks.proofs.LookupSteps.{as_taken}
use Rattle.blocks.proofs.lookup.event_place.Given as goal

abbrev pub invariant-loop : goal.invariant-loop
invariant-loop l =
    event_place (l.n - l.counter) l.rest l.fn.key l.low l.high (as_taken l.found) ≡ event_place l.n l.bytes l.fn.key l.low l.high None
