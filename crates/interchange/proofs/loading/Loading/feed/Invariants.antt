use Rattle.std.proofs.Common.{ℕ, List, ◌++◌, take}
use Rattle.interchange.specs.Loading.{IsReadTo}
use Rattle.interchange.proofs.loading.Loading.feed.Given as goal

abbrev pub invariant-loop-byte : goal.invariant-loop-byte
invariant-loop-byte l = (text : List ℕ) → IsReadTo l.table text l.fn.self → IsReadTo l.table (text ++ take l.byte-index l.bytes) l.self
