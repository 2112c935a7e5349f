use Rattle.std.proofs.Common.{◌∙◌, ap, subst}
use Rattle.std.specs.Prelude.{Ok}
use Rattle.scripts.specs.Script.{IsRead}
use Rattle.scripts.proofs.ReplayPassed.{clock_passed, line_refused, nothing_passed}
use Rattle.scripts.proofs.replay.pass.Goals as goal

pub returns-in-Ok-Nothing-clause-ok : goal.returns-in-Ok-Nothing-clause-ok
returns-in-Ok-Nothing-clause-ok c = nothing_passed c.args.script.now (subst (λ line. IsRead line c.args.script.now) (c.in-Ok-Nothing.is ∙ ap Ok c.in-Ok-Nothing.field-0-is) c.requires)

pub returns-in-Ok-Clock-clause-ok : goal.returns-in-Ok-Clock-clause-ok
returns-in-Ok-Clock-clause-ok c = clock_passed c.args.script.now c.in-Ok-Clock.reading (subst (λ line. IsRead line c.args.script.now) (c.in-Ok-Clock.is ∙ ap Ok c.in-Ok-Clock.field-0-is) c.requires)

pub returns-in-Err-clause-err : goal.returns-in-Err-clause-err
returns-in-Err-clause-err c = line_refused c.args.script.now c.in-Err.refusal (subst (λ line. IsRead line c.args.script.now) c.in-Err.is c.requires)
