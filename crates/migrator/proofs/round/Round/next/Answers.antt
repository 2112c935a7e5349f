use Rattle.std.proofs.Common.{ap, ◌∙◌}
use Rattle.migrator.proofs.RoundSteps.{asked_for, no_more}
use Rattle.migrator.proofs.round.Round.next.Goals as goal

pub returns-in_default : goal.returns-in_default
returns-in_default g c = no_more c.args.view.now g.N.RoundName.shown c.args.self.now.after _ c.in_ok-job.field-0 c.requires (c.as_ref.ensures.value ∙ ap (λ r. r.after) c.self.view_is) c.in_default.is c.in_ok-job.ensures.ok c.find_job.ensures.tree

pub invariant_of-self-2 : goal.invariant_of-self-2
invariant_of-self-2 g c =
    asked_for g.N.RoundName.begin g.N.RoundName.shown _ c.self.invariant
    c.args.view.now _ c.in_ok-job.field-0 c.in-Some.job c.in_ok-asked.asked c.in_ok-after.after c.push.new.self
    c.requires c.as_ref.ensures.value c.in-Some.is c.in_ok-job.ensures.ok (c.in_ok-after.ensures.ok ∙ c.rect-2.ensures.rect) (c.in_ok-asked.ensures.ok ∙ c.rect.ensures.rect) c.in_ok-push.ensures.ok
