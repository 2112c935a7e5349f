use Rattle.std.proofs.Common.{refl}
use Rattle.scripts.proofs.ScriptAnswered.{same_answered}
use Rattle.scripts.proofs.script.end_line.Goals as goal

pub returns-clause-ok : goal.returns-clause-ok
returns-clause-ok g c = λ schema p at. same_answered _ _ _ _ schema p _ (c.in_ok-answer.ensures.ok schema p at) (record { system = refl; reading = refl })
