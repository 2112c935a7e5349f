use Rattle.std.proofs.Common.{◌∙◌}
use Rattle.std.proofs.lemmas.Result.{IfOk-weaker}
use Rattle.tsbtree.specs.View.{events}
use Rattle.dumping.proofs.HistoryEvents.{all_listed}
use Rattle.dumping.proofs.history.all_events.Goals as goal

pub returns : goal.returns
returns c = IfOk-weaker c.events.result _ _ (λ v is. is ∙ all_listed c.last.result c.least.result c.least.ensures (events c.args.view.now) c.last.ensures.upto) c.events.ensures.ok
