use Rattle.scripts.proofs.ScriptAnswered.{prints_ok, prints_err, refused_answered, refused_broken}
use Rattle.scripts.proofs.script.refuse.Goals as goal

pub returns-clause-ok : goal.returns-clause-ok
returns-clause-ok g c = prints_ok _ _ _ _ c.print_refusal.ensures (λ wrote schema p at. refused_answered _ _ _ schema p _ at c.requires wrote)

pub returns-clause-err : goal.returns-clause-err
returns-clause-err g c = prints_err _ _ _ _ c.print_refusal.ensures (λ wrote schema p at. refused_broken _ _ _ schema p _ at c.requires wrote)
