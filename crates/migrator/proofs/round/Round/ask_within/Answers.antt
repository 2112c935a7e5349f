use Rattle.std.proofs.lemmas.Result.{IfOk-weaker}
use Rattle.migrator.proofs.round.Round.ask_within.Goals as goal

pub returns : goal.returns
returns g c = IfOk-weaker c.ask.result _ _ (λ asked none. λ no. λ empty. none no) c.ask.ensures
