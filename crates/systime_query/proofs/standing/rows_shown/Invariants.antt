use Rattle.std.proofs.Common.{◌≡◌, ◌++◌, drop, filter_map}
use Rattle.searchrange.specs.Search.{row_taken}
use Rattle.staging.specs.Staged.{AreInSearch}
use Rattle.systime_query.proofs.standing.rows_shown.Given as goal

abbrev pub invariant-loop-event : goal.invariant-loop-event
invariant-loop-event l =
    AreInSearch l.search.table l.search.range l.events
    → l.rows.items ++ filter_map (row_taken l.search.table l.search.keys) (drop l.event-index l.events)
    ≡ filter_map (row_taken l.search.table l.search.keys) l.events
