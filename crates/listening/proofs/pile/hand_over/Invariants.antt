use Rattle.std.proofs.Common.{map}
use Rattle.listening.specs.Pile.{IsOf}
use Rattle.listening.proofs.pile.hand_over.Given as goal

-- until they are handed over, they are whose they were
abbrev pub invariant-loop-turn : goal.invariant-loop-turn
invariant-loop-turn g l =
    (goal.iterator-loop-turn g).can_next l._turn-iterator × (goal.iterator-loop-turn g).is_finite l._turn-iterator
    × IsOf g.J.StoreName.origin.schema l.origin (map (λ r. record { number = r.number; entry = r.entry }) l.receipts.items)
