use Rattle.blocks.proofs.GatherSteps.{IsGatheredTo}
use Rattle.blocks.proofs.gather.gather.Given as goal

abbrev pub invariant-loop : goal.invariant-loop
invariant-loop l = IsGatheredTo l.rect l.n l.counter l.bytes l.node l.rest
