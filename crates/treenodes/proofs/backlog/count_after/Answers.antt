use Rattle.std.proofs.Common.{rules}
use Rattle.std.proofs.lemmas.List.Sorted.{IsPartitionPoint-from_clause}
use Rattle.treenodes.specs.Backlog.{comes_after}
use Rattle.treenodes.proofs.BacklogOrder.{parts}
use Rattle.treenodes.proofs.backlog.count_after.Goals as goal

pub returns-clause-parted : goal.returns-clause-parted
returns-clause-parted c =
    IsPartitionPoint-from_clause (comes_after c.args.slots.now c.args.rect.now c.args.other) c.args.numbers.now c.partition_point.result c.partition_point.ensures.partitioned (parts c.args.slots.now c.args.numbers.now c.requires.each c.requires.falling c.args.rect.now c.args.other) (λ a r q k. search rules)
