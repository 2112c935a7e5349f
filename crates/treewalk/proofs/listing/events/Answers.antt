use Rattle.treewalk.proofs.ListingRead.{events_listed}
use Rattle.treewalk.proofs.listing.events.Goals as goal

pub returns-clause-ok : goal.returns-clause-ok
returns-clause-ok g c m holds =
    events_listed c.args.nodes.now c.requires m holds c.args.range.now c.args.from c.args.to c.in_ok-found.found.items c.sort_events.new.events.items c.in_ok-found.ensures.ok c.in_ok-sort_events.ensures.sorted
    c.in_ok-sort_events.ensures.from c.in_ok-sort_events.ensures.kept
