use Rattle.dumping.proofs.TransactionPieces.{HasWidened}
use Rattle.dumping.proofs.change.Changes.widen_all.Given as goal

abbrev pub invariant-loop-place : goal.invariant-loop-place
invariant-loop-place g l = HasWidened l.self.tables.now l.self.events.now l.places (g.W.Write.contents l.fn.writer) (g.W.Write.contents l.writer) l.fn.widths l.widths l.place-index
