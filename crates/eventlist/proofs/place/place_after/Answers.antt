use Rattle.std.proofs.Common.{rules}
use Rattle.std.proofs.lemmas.List.Sorted.{IsPartitionPoint-from_clause}
use Rattle.eventlist.specs.Place.{is_until}
use Rattle.eventlist.proofs.PlaceFound.{until_parts}
use Rattle.eventlist.proofs.place.place_after.Goals as goal

pub returns-clause-first : goal.returns-clause-first
returns-clause-first c =
    IsPartitionPoint-from_clause (is_until c.args.key.now c.args.instant) c.args.events.now c.partition_point.result c.partition_point.ensures.partitioned (until_parts c.args.key.now c.args.instant c.args.events.now c.requires) (λ a r q k. search rules)
