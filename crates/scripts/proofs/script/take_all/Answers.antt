use Rattle.std.proofs.Common.{sym, ◌∙◌}
use Rattle.scripts.proofs.ScriptLeading.{leading_more}
use Rattle.scripts.proofs.script.take_all.Goals as goal

pub loop-step-preserved : goal.loop-step-preserved
loop-step-preserved c = leading_more _ _ _ _ _ _ _ _ c.in-Some.ensures.steps.0 c.loop-step.invariant c.step-reply.ensures.answers (sym c.refusal_in.ensures ∙ c.in-None-refusal_in.is)
