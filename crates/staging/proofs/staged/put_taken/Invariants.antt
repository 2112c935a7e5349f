use Rattle.std.proofs.Common.{All, filter}
use Rattle.std.specs.List.Sorted.{IsStrictlySortedBy}
use Rattle.std.specs.Map.{keys_of}
use Rattle.values.specs.KeyEncoding.{IsShortKey}
use Rattle.values.specs.Order.{key_cmp}
use Rattle.values.specs.Versions.{matches}
use Rattle.staging.specs.Staged.{AreShort}
use Rattle.staging.proofs.StagedMerged.{MovesAll}
use Rattle.staging.proofs.staged.put_taken.Given as goal

abbrev pub invariant-loop-key : goal.invariant-loop-key
invariant-loop-key l = record {
  moves : IsStrictlySortedBy key_cmp (keys_of l.fn.rest.items)
      → MovesAll l.fn.rows.items l.fn.rest.items l.rows.items l.rest.items (filter (λ c. matches l.table l.keys c.0) l.writes.entries) (filter (λ c. matches l.table l.keys c.0) l.key-iterator);
  short : AreShort l.rows.items l.rest.items;
  ordered : IsStrictlySortedBy key_cmp (keys_of l.key-iterator);
  short_writes : All (λ c. IsShortKey c.0) l.key-iterator;
}
