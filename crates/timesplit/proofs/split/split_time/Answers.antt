use Rattle.datanode.proofs.CutParts.{now_inside}
use Rattle.timesplit.proofs.split.split_time.Goals as goal

pub part-requires-in-Some : goal.part-requires-in-Some
part-requires-in-Some c = now_inside c.rect.result.now c.args.node.now.rect c.args.instant c.in_ok-past.field-0 (c.in-Some.past, c.in-Some.now) c.rect.ensures.rect c.in_ok-past.ensures.parts c.in-Some.is
