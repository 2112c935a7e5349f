use Rattle.std.proofs.Common.{Some, refl}
use Rattle.datanode.proofs.CutParts.{now_inside}
use Rattle.tree_tests.proofs.sample.since.Goals as goal

pub part-requires : goal.part-requires
part-requires g c =
    let halves = c.time_halves-past.result in
    now_inside c.rect.result.now c.args.node.now.rect c.args.instant (Some halves) halves c.rect.ensures.rect c.time_halves-past.ensures refl
