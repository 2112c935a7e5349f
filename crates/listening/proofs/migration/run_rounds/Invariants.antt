use Rattle.std.specs.Prelude.{◌≡◌, None}
use Rattle.listening.proofs.migration.run_rounds.Given as goal

-- the service is session 0, and between rounds it has no transaction open
abbrev pub invariant-loop-call : goal.invariant-loop-call
invariant-loop-call g l =
    (goal.iterator-loop-call g).can_next l._call-iterator × (goal.iterator-loop-call g).is_finite l._call-iterator
    × (l.service.number ≡ 0) × (l.service.transaction ≡ None)
