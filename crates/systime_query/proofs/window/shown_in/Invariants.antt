use Rattle.std.proofs.Common.{◌≡◌, ◌++◌, length}
use Rattle.staging.specs.Staged.{AreInSearch}
use Rattle.staging.specs.tsbtree.View.{events}
use Rattle.systime_query.specs.Window.{shown_in}
use Rattle.systime_query.proofs.window.shown_in.Given as goal

abbrev pub decreases-loop-rest : goal.decreases-loop-rest
decreases-loop-rest l = length l.rest

abbrev pub invariant-loop-rest : goal.invariant-loop-rest
invariant-loop-rest l = record {
  inside : AreInSearch l.search.table l.search.range l.found → AreInSearch l.search.table l.search.range l.rest;
  are : AreInSearch l.search.table l.search.range l.found
      → l.shown.items ++ shown_in (events l.view) l.last l.search.table l.form l.search.keys l.rest
      ≡ shown_in (events l.view) l.last l.search.table l.form l.search.keys l.found;
}
