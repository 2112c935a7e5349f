use Rattle.std.proofs.Common.{rules, ap, sym, ◌∙◌}
use Rattle.std.proofs.lemmas.List.{nil_from_length}
use Rattle.histories.proofs.DueRuns.{ran_none, ran_more, ran_all, ran_answered, ran_taken}
use Rattle.interleaving.specs.SystemState.{world}
use Rattle.interleaving.proofs.SystemStepped.{out_stands}
use Rattle.interleaving.proofs.system.System.run.Goals as goal

pub loop-step-init : goal.loop-step-init
loop-step-init c = ran_none c.args.schema c.args.steps.items _ (world c.in_ok-system.system) c.new-replies.result.items c.in_ok-system.ensures.empty c.new-replies.ensures.items (search rules)

pub loop-step-preserved : goal.loop-step-preserved
loop-step-preserved c =
    ran_more c.args.schema c.args.steps.items (world c.loop-step.system) (world c.step-reply.new.self) c.loop-step.replies.items c.push.new.self.items c.in-Some.step _ _ c.step-reply.result c.in-Some.ensures.steps.0 c.in_ok-push.ensures.items c.loop-step.invariant
    (record { answers = c.step-reply.ensures.answers; out = out_stands (world c.loop-step.system) (world c.step-reply.new.self) c.step-reply.result (λ left. ap world (c.step-reply.ensures.refused left)); taken = c.step-reply.ensures.no_memory })

pub returns-clause-answers : goal.returns-clause-answers
returns-clause-answers c =
    ran_answered c.args.schema c.args.steps.items (world c.loop-step.system) c.loop-step.replies.items _ (nil_from_length c.loop-step.step-iterator.rest.items (sym c.loop-step.step-iterator.rest.ok.0 ∙ c.in-None.ensures.steps.0)) c.loop-step.invariant

pub returns-clause-out_of_memory : goal.returns-clause-out_of_memory
returns-clause-out_of_memory c =
    ran_all c.args.schema c.args.steps.items (world c.loop-step.system) c.loop-step.replies.items _ (nil_from_length c.loop-step.step-iterator.rest.items (sym c.loop-step.step-iterator.rest.ok.0 ∙ c.in-None.ensures.steps.0)) c.loop-step.invariant

pub returns-clause-where_taken : goal.returns-clause-where_taken
returns-clause-where_taken c =
    ran_taken c.args.schema c.args.steps.items (world c.loop-step.system) c.loop-step.replies.items _ (nil_from_length c.loop-step.step-iterator.rest.items (sym c.loop-step.step-iterator.rest.ok.0 ∙ c.in-None.ensures.steps.0)) c.loop-step.invariant
