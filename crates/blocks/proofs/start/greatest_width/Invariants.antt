use Rattle.blocks.proofs.StartWidths.{IsGreatestTo}
use Rattle.blocks.proofs.start.greatest_width.Given as goal

abbrev pub invariant-loop-event : goal.invariant-loop-event
invariant-loop-event l = IsGreatestTo l.events l.event-index l.greatest
