use Rattle.statement.proofs.MeaningFits.{asked_step_fits}
use Rattle.statement.proofs.meaning_law.asked_steps_fit.Goals as goal

pub returns : goal.returns
returns c = asked_step_fits
