use Rattle.std.proofs.Common.{◌≡◌, drop, map}
use Rattle.serving.specs.Progress.{Given}
use Rattle.listening.specs.Pile.{rises_from}
use Rattle.listening.proofs.pile.are_rising.Given as goal

-- the rest decides, by the last number before it
abbrev pub invariant-loop-receipt : goal.invariant-loop-receipt
invariant-loop-receipt g l =
    rises_from l.last (map {B = Given} (λ r. record { number = r.number; entry = r.entry }) (drop l.receipt-index l.receipts))
    ≡ rises_from l.before (map {B = Given} (λ r. record { number = r.number; entry = r.entry }) l.receipts)
