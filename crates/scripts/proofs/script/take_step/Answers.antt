use Rattle.std.proofs.Common.{refl}
use Rattle.scripts.proofs.ScriptAnswered.{Stepped, asked_fits, prints_ok, prints_err, step_answered, step_broken}
use Rattle.scripts.proofs.script.take_step.Goals as goal

pub step_that_fits-reply-requires : goal.step_that_fits-reply-requires
step_that_fits-reply-requires g c = asked_fits c.args.script.now c.args.step c.asked_steps_fit.ensures c.requires

pub returns-clause-ok : goal.returns-clause-ok
returns-clause-ok g c =
    let so : Stepped c.args.script.now (record c.args.script.now { system = c.step_that_fits-reply.new.self }) c.args.step c.step_that_fits-reply.result = record {
      answers = c.step_that_fits-reply.ensures.answers;
      refused = c.step_that_fits-reply.ensures.refused;
      no_memory = c.step_that_fits-reply.ensures.no_memory;
      reading_stays = refl;
    } in
    prints_ok _ _ _ _ c.print_reply.ensures (λ wrote schema p at. step_answered _ _ _ _ schema p _ _ so at c.requires wrote)

pub returns-clause-err : goal.returns-clause-err
returns-clause-err g c =
    let so : Stepped c.args.script.now (record c.args.script.now { system = c.step_that_fits-reply.new.self }) c.args.step c.step_that_fits-reply.result = record {
      answers = c.step_that_fits-reply.ensures.answers;
      refused = c.step_that_fits-reply.ensures.refused;
      no_memory = c.step_that_fits-reply.ensures.no_memory;
      reading_stays = refl;
    } in
    prints_err _ _ _ _ c.print_reply.ensures (λ wrote schema p at. step_broken _ _ _ _ schema p _ _ so at c.requires wrote)
