use Rattle.std.proofs.Common.{rules}
use Rattle.std.proofs.lemmas.List.Sorted.{IsPartitionPoint-from_clause}
use Rattle.eventlist.specs.Place.{is_before}
use Rattle.eventlist.proofs.PutPlaced.{before_parts}
use Rattle.eventlist.proofs.place.place_of.Goals as goal

pub returns-clause-first : goal.returns-clause-first
returns-clause-first c =
    IsPartitionPoint-from_clause (is_before c.args.event.now) c.args.events.now c.partition_point.result c.partition_point.ensures.partitioned (before_parts c.args.event.now c.args.events.now c.requires) (λ a r q k. search rules)
