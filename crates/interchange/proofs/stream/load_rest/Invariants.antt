use Rattle.std.proofs.Common.{ℕ, List, ◌++◌}
use Rattle.std.specs.Io.KnownBytes.{Consumes}
use Rattle.interchange.specs.Loading.{IsReadTo}
use Rattle.interchange.proofs.stream.load_rest.Given as goal

abbrev pub invariant-loop-turn : goal.invariant-loop-turn
invariant-loop-turn g l =
    (seen : List ℕ) × Consumes (g.R.Read.remaining l.fn.reader) (g.R.Read.remaining l.reader) seen
    × ((text : List ℕ) → IsReadTo l.table text l.fn.loading → IsReadTo l.table (text ++ seen) l.loading)
