use Rattle.std.proofs.Common.{◌≡◌, ◌-◌, length}
use Rattle.rows.specs.SchemaToken.{name_at}
use Rattle.rows.specs.Declaration.{prepend, list_at}
use Rattle.rows.proofs.declaration.names_at.Given as goal

abbrev pub invariant-loop : goal.invariant-loop
invariant-loop l = prepend l.names.items (list_at name_at (l.end - l.counter) l.rest) ≡ list_at name_at (length l.bytes) l.bytes
