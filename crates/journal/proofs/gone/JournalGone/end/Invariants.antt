use Rattle.journal.proofs.gone.JournalGone.end.Given as goal

abbrev pub decreases-loop-receipt : goal.decreases-loop-receipt
decreases-loop-receipt g l = goal.left-loop-receipt g l
