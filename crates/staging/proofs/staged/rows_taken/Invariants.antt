use Rattle.std.proofs.Common.{◌≡◌, ◌++◌, All, drop}
use Rattle.std.specs.List.{filter_map}
use Rattle.values.specs.KeyEncoding.{IsShortKey}
use Rattle.staging.specs.Staged.{AreInSearch}
use Rattle.searchrange.specs.Search.{entry_taken}
use Rattle.staging.proofs.staged.rows_taken.Given as goal

abbrev pub invariant-loop-event : goal.invariant-loop-event
invariant-loop-event l = record {
  taken : AreInSearch l.search.table l.search.range l.events
      → l.found.items ++ filter_map (entry_taken l.search.table l.search.keys) (drop l.event-index l.events)
      ≡ filter_map (entry_taken l.search.table l.search.keys) l.events;
  short : All (λ e. IsShortKey e.0) l.found.items;
}
