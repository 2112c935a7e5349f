use Rattle.interleaving.specs.SystemState.{world}
use Rattle.interleaving.proofs.AlterKeeps.{busy_by}
use Rattle.interleaving.proofs.system.System.step_in.Goals as goal

pub returns-in-AddColumn-clause-no_memory : goal.returns-in-AddColumn-clause-no_memory
returns-in-AddColumn-clause-no_memory c = λ takes.
    c.add_column.ensures.no_memory (busy_by (world c.args.self.now) c.args.step.now _ _ _ _ c.in-AddColumn.is c.requires takes)
