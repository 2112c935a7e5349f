use Rattle.std.proofs.Common.{◌≡◌, ◌≢◌, subst, Ok, Err}
use Rattle.values.specs.declared.refusal.Refusal.TheVariants.{Memory}
use Rattle.values.specs.Period.{periods_of}
use Rattle.values.specs.Commits.{outcome}
use Rattle.staging.specs.tsbtree.View.{last}
use Rattle.validation.proofs.EngineAdding.{added_holds}
use Rattle.validation.proofs.engine.Engine.commit.Goals as goal

pub returns-in-Ok-clause-outcome : goal.returns-in-Ok-clause-outcome
returns-in-Ok-clause-outcome c = λ m held keys remembers.
    subst (λ end. Ok end ≢ Err Memory → Ok end ≡ outcome (periods_of c.args.schema.now) m (last c.args.self.now) c.args.start c.args.net c.args.reading)
    c.in-Ok-Some.field-0-is (c.in-Ok-Some.ensures.outcome m held keys) remembers

pub returns-in-Err-clause-outcome : goal.returns-in-Err-clause-outcome
returns-in-Err-clause-outcome c = λ m held keys remembers. c.in-Err.ensures.outcome m held keys remembers

pub returns-in-Ok-clause-holds : goal.returns-in-Ok-clause-holds
returns-in-Ok-clause-holds c =
    added_holds c.in-Ok-Some.instant c.args.net c.args.self.now c.add.new.self c.in-Ok.ensures.ok
