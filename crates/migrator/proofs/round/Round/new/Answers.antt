use Rattle.migrator.proofs.RoundSteps.{begins}
use Rattle.migrator.proofs.round.Round.new.Goals as goal

pub invariant_of-result : goal.invariant_of-result
invariant_of-result g c = begins g.N.RoundName.begin g.N.RoundName.shown c.new.result _ c.new.ensures c.requires
