use Rattle.std.proofs.Common.{◌≡◌, drop, map}
use Rattle.runs.specs.Run.{last_of}
use Rattle.serving.specs.Progress.{Given}
use Rattle.listening.proofs.pile.last_number.Given as goal

abbrev pub invariant-loop-receipt : goal.invariant-loop-receipt
invariant-loop-receipt g l =
    last_of l.last (map {B = Given} (λ r. record { number = r.number; entry = r.entry }) (drop l.receipt-index l.receipts))
    ≡ last_of l.before (map {B = Given} (λ r. record { number = r.number; entry = r.entry }) l.receipts)
