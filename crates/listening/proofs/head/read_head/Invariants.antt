use Rattle.std.proofs.Common.{length, ◌-◌}
use Rattle.std.specs.Io.KnownBytes.{Consumes}
use Rattle.listening.proofs.head.read_head.Given as goal

-- the head is what was read
abbrev pub invariant-loop-reader : goal.invariant-loop-reader
invariant-loop-reader g l = Consumes (g.I.Read.remaining l.fn.reader) (g.I.Read.remaining l.reader) l.head.items

abbrev pub decreases-loop-reader : goal.decreases-loop-reader
decreases-loop-reader g l = 8 - length l.head.items
