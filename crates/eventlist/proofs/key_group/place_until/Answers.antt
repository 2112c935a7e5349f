use Rattle.std.proofs.Common.{nat_le, rules}
use Rattle.std.proofs.lemmas.List.Sorted.{IsPartitionPoint-from_clause}
use Rattle.eventlist.specs.KeyGroup.{first_key}
use Rattle.eventlist.proofs.KeyGroupJumps.{instants_part}
use Rattle.eventlist.proofs.key_group.place_until.Goals as goal

pub returns-clause-first : goal.returns-clause-first
returns-clause-first c =
    IsPartitionPoint-from_clause (λ e. nat_le e.at c.args.instant) c.args.events.now c.partition_point.result c.partition_point.ensures.partitioned
    (instants_part (first_key c.args.events.now) c.args.instant c.args.events.now c.requires.sorted c.requires.one_key) (λ a r q k. search rules)
