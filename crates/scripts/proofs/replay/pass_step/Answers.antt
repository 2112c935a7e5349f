use Rattle.std.proofs.Common.{refl, sym, ◌∙◌}
use Rattle.scripts.proofs.ScriptAnswered.{Stepped, asked_fits}
use Rattle.scripts.proofs.ReplayPassed.{step_passed, step_refused}
use Rattle.scripts.proofs.replay.pass_step.Goals as goal

pub step_that_fits-reply-requires : goal.step_that_fits-reply-requires
step_that_fits-reply-requires c = asked_fits c.args.script.now c.args.step c.asked_steps_fit.ensures c.requires

pub returns-in-None-clause-ok : goal.returns-in-None-clause-ok
returns-in-None-clause-ok c =
    let so : Stepped c.args.script.now (record c.args.script.now { system = c.step_that_fits-reply.new.self }) c.args.step c.step_that_fits-reply.result = record {
      answers = c.step_that_fits-reply.ensures.answers;
      refused = c.step_that_fits-reply.ensures.refused;
      no_memory = c.step_that_fits-reply.ensures.no_memory;
      reading_stays = refl;
    } in
    step_passed _ _ _ _ so c.requires (sym c.refusal_in.ensures ∙ c.in-None.is)

pub returns-in-Some-clause-err : goal.returns-in-Some-clause-err
returns-in-Some-clause-err c =
    let so : Stepped c.args.script.now (record c.args.script.now { system = c.step_that_fits-reply.new.self }) c.args.step c.step_that_fits-reply.result = record {
      answers = c.step_that_fits-reply.ensures.answers;
      refused = c.step_that_fits-reply.ensures.refused;
      no_memory = c.step_that_fits-reply.ensures.no_memory;
      reading_stays = refl;
    } in
    step_refused _ _ _ _ _ so c.requires (sym c.refusal_in.ensures ∙ c.in-Some.is)
