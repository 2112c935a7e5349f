use Rattle.std.proofs.Common.{◌≡◌, ◌-◌, length}
use Rattle.rows.specs.Declaration.{prepend, creates_upto}
use Rattle.rows.proofs.declaration.creates_at.Given as goal

abbrev pub invariant-loop : goal.invariant-loop
invariant-loop l = prepend l.declarations.items (creates_upto (l.end - l.counter) l.rest) ≡ creates_upto (length l.bytes) l.bytes
