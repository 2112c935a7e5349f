use Rattle.std.proofs.Common.{ap, ◌∙◌}
use Rattle.values.specs.Tables.{Schema}
use Rattle.steps.specs.declared.step.Reply.TheVariants.{Refused}
use Rattle.steps.specs.Misfit.{misfit}
use Rattle.histories.proofs.TurnReplies.{stepped, refused_turn}
use Rattle.interleaving.specs.SystemState.{SystemState, world}
use Rattle.interleaving.proofs.SystemStepped.{same_leaves}
use Rattle.interleaving.proofs.system.System.step.Goals as goal

pub returns-in-Some-clause-answers : goal.returns-in-Some-clause-answers
returns-in-Some-clause-answers c = λ first h stands other.
    let w = world c.args.self.now in
    let same = ap (λ (s : SystemState). s.schema) c.self.view_is in
    (stepped w w c.args.step (Refused c.in-Some.refusal) (refused_turn w c.args.step c.in-Some.refusal (c.in-Some.ensures.why ∙ ap (λ (s : Schema). misfit s c.args.step) same))).answers first h stands

pub returns-in-Some-clause-history : goal.returns-in-Some-clause-history
returns-in-Some-clause-history c = same_leaves c.args.step c.args.self.now.engine
