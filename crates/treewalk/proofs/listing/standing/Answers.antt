use Rattle.std.proofs.Common.{◌≡◌, subst, min}
use Rattle.values.specs.Commits.{max_instant}
use Rattle.treewalk.specs.Gather.{AreGathered}
use Rattle.treewalk.specs.declared.gather.Query.TheVariants.{At}
use Rattle.treewalk.proofs.ListingRead.{standing_listed}
use Rattle.treewalk.proofs.listing.standing.Goals as goal

pub returns-clause-ok : goal.returns-clause-ok
returns-clause-ok g c m holds =
    let upto : c.min.result ≡ min c.args.instant max_instant = c.min.ensures in
    standing_listed c.args.nodes.now c.requires m holds c.args.range.now c.args.instant c.in_ok-rows.rows.items c.sort_events.new.events.items
    (subst (λ t. AreGathered (At t) c.args.range.now c.args.nodes.now c.in_ok-rows.rows.items) upto c.in_ok-rows.ensures.ok) c.in_ok-sort_events.ensures.sorted
    c.in_ok-sort_events.ensures.from c.in_ok-sort_events.ensures.kept
