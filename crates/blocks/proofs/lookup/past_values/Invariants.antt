use Rattle.std.proofs.Common.{◌≡◌, ◌-◌}
use Rattle.blocks.specs.Lookup.{past_values}
use Rattle.blocks.proofs.lookup.past_values.Given as goal

abbrev pub invariant-loop : goal.invariant-loop
invariant-loop l = past_values (l.n - l.counter) l.rest ≡ past_values l.n l.bytes
