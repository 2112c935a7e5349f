use Rattle.std.proofs.Common.{◌≡◌, drop}
use Rattle.std.specs.List.{list_all}
use Rattle.values.specs.Versions.{holds}
use Rattle.values.proofs.search_condition.all_hold.Given as goal

abbrev pub invariant-loop-comparison : goal.invariant-loop-comparison
invariant-loop-comparison l = list_all (holds l.table l.key) (drop l.comparison-index l.comparisons) ≡ list_all (holds l.table l.key) l.comparisons
