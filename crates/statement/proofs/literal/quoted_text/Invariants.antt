use Rattle.std.proofs.Common.{◌≡◌, drop}
use Rattle.statement.specs.Literal.{quoted_from, quoted}
use Rattle.statement.proofs.literal.quoted_text.Given as goal

abbrev pub invariant-loop-i : goal.invariant-loop-i
invariant-loop-i l = quoted_from l.closed l.text.items (drop l.i l.bytes) ≡ quoted l.bytes
