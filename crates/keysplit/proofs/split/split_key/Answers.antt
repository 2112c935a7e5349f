use Rattle.datanode.proofs.CutParts.{above_inside}
use Rattle.keysplit.proofs.split.split_key.Goals as goal

pub part-requires-in-Some : goal.part-requires-in-Some
part-requires-in-Some c = above_inside c.rect.result.now c.args.node.now.rect c.args.key.now c.in_ok-below.field-0 (c.in-Some.below, c.in-Some.above) c.rect.ensures.rect c.in_ok-below.ensures.parts c.in-Some.is
