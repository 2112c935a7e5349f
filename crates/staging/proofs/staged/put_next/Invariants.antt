use Rattle.std.proofs.Common.{length}
use Rattle.std.specs.List.Sorted.{IsStrictlySortedBy}
use Rattle.std.specs.Map.{keys_of}
use Rattle.values.specs.Order.{key_cmp}
use Rattle.staging.specs.Staged.{AreShort}
use Rattle.staging.proofs.StagedMerged.{MovesUpto}
use Rattle.staging.proofs.staged.put_next.Given as goal

abbrev pub invariant-loop-entry : goal.invariant-loop-entry
invariant-loop-entry l = record {
  moves : IsStrictlySortedBy key_cmp (keys_of l.fn.rest.items) → MovesUpto l.key l.row l.fn.rows.items l.fn.rest.items l.rows.items l.rest.items;
  short : AreShort l.rows.items l.rest.items;
}

abbrev pub decreases-loop-entry : goal.decreases-loop-entry
decreases-loop-entry l = length l.rest.items
