use Rattle.std.proofs.Common.{◌∙◌}
use Rattle.tsbtree.specs.View.{events}
use Rattle.staging.specs.Staged.{sees}
use Rattle.staging.proofs.NetEvents.{weaker}
use Rattle.staging.proofs.StagedEarlier.{rising_seen}
use Rattle.staging.proofs.staged.Staged.first_seen.Goals as goal

pub returns-then-rise-clause-ok : goal.returns-then-rise-clause-ok
returns-then-rise-clause-ok c =
    weaker c.first_there.result (λ found is. is ∙ rising_seen (sees (events c.args.view.now) c.args.last c.args.self.now) c.args.keys.now (c.rise.ensures.0 c.if-rise.true)) c.first_there.ensures.ok
