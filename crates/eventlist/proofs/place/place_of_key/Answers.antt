use Rattle.std.proofs.Common.{rules}
use Rattle.std.proofs.lemmas.List.Sorted.{IsPartitionPoint-from_clause}
use Rattle.eventlist.proofs.ListingRanges.{below_key, below_parts}
use Rattle.eventlist.proofs.place.place_of_key.Goals as goal

pub returns-clause-first : goal.returns-clause-first
returns-clause-first c =
    IsPartitionPoint-from_clause (below_key c.args.key.now) c.args.events.now c.partition_point.result c.partition_point.ensures.partitioned (below_parts c.args.key.now c.args.events.now c.requires) (λ a r q k. search rules)
