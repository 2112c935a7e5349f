use Rattle.std.proofs.Common.{◌≡◌, map, take}
use Rattle.journal.specs.Entries.{numbers}
use Rattle.journal.proofs.journal.is_numbered.Given as goal

abbrev pub invariant-loop-receipt : goal.invariant-loop-receipt
invariant-loop-receipt g l = (l.next ≡ l.receipt-index) × (map (λ r. r.number) (take l.receipt-index l.receipts) ≡ numbers l.receipt-index)
