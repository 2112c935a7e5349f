use Rattle.std.proofs.Common.{◌≡◌, ◌-◌, length}
use Rattle.rows.specs.Declaration.{prepend, marks_upto}
use Rattle.rows.proofs.declaration.marks_at.Given as goal

abbrev pub invariant-loop : goal.invariant-loop
invariant-loop l = prepend l.marks.items (marks_upto (l.end - l.counter) l.rest) ≡ marks_upto (length l.bytes) l.bytes
