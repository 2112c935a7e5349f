use Rattle.std.proofs.Common.{◌≡◌, ◌++◌, ◌-◌}
use Rattle.blocks.specs.Listing.{events_asked}
use Rattle.blocks.proofs.listing.events_asked.Given as goal

abbrev pub invariant-loop : goal.invariant-loop
invariant-loop l =
    l.found.items ++ events_asked (l.n - l.counter) l.rest l.range l.from l.to ≡ events_asked l.n l.bytes l.range l.from l.to
