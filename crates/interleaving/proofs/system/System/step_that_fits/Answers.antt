use Rattle.std.proofs.Common.{ap, sym}
use Rattle.interleaving.specs.SystemState.{world}
use Rattle.interleaving.proofs.SystemStepped.{answers, out_leaves, same_schema}
use Rattle.interleaving.proofs.system.System.step_that_fits.Goals as goal

pub returns-clause-answers : goal.returns-clause-answers
returns-clause-answers c =
    answers (world c.args.self.now) (world c.step_in.new.self) c.args.step c.step_in.result
    (sym c.requires) c.step_in.ensures.answered (λ out. ap world (c.step_in.ensures.refused (out_leaves c.step_in.result out)))

pub returns-clause-schema : goal.returns-clause-schema
returns-clause-schema c =
    same_schema (world c.args.self.now) (world c.step_in.new.self) c.args.step c.step_in.result
    (sym c.requires) c.step_in.ensures.answered (λ out. ap world (c.step_in.ensures.refused (out_leaves c.step_in.result out)))
