use Rattle.blocks.proofs.EventSteps.{ArePushed}
use Rattle.blocks.proofs.block.push_events.Given as goal

abbrev pub invariant-loop-event : goal.invariant-loop-event
invariant-loop-event l = ArePushed l.initial.bytes.items l.events l.event-index l.bytes.items
