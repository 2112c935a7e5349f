use Rattle.std.proofs.Common.{◌≡◌, ◌++◌, drop}
use Rattle.std.specs.Option.{option_map}
use Rattle.searchrange.specs.OnlyKey.{equal_parts}
use Rattle.searchrange.proofs.only_key.equal_parts.Given as goal

abbrev pub invariant-loop-place : goal.invariant-loop-place
invariant-loop-place l =
    option_map (λ vs. l.parts.items ++ vs) (equal_parts l.table l.comparisons l.place (drop l.place l.table.key))
    ≡ equal_parts l.table l.comparisons 0 l.table.key
