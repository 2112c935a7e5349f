use Rattle.std.proofs.Common.{◌≡◌, ◌-◌, length}
use Rattle.rows.specs.Declaration.{entry_at}
use Rattle.rows.specs.Declaration.{prepend, list_at}
use Rattle.rows.proofs.declaration.entries_at.Given as goal

abbrev pub invariant-loop : goal.invariant-loop
invariant-loop l = prepend l.entries.items (list_at entry_at (l.end - l.counter) l.rest) ≡ list_at entry_at (length l.bytes) l.bytes
