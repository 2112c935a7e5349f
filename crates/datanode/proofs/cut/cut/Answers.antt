use Rattle.std.proofs.Common.{◌≡◌, IfOk, subst}
use Rattle.datanode.proofs.CutRange.{cut_by}
use Rattle.datanode.proofs.cut.cut.Goals as goal

pub returns-clause-ok : goal.returns-clause-ok
returns-clause-ok c = subst (λ l. IfOk c.held_events.result (λ v. v.items ≡ l)) (cut_by c.args.rect.now c.args.events.now c.of_range.result.now c.keys.result.now c.time.result c.of_range.ensures.are c.keys.ensures.keys c.time.ensures.time) c.held_events.ensures.ok
