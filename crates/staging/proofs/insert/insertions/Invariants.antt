use Rattle.std.proofs.Common.{◌≡◌, ◌+◌, ◌++◌, drop, length}
use Rattle.std.specs.Vec.Iter.{into_iter_items}
use Rattle.staging.specs.Staged.{insertions}
use Rattle.staging.proofs.insert.insertions.Given as goal

abbrev pub invariant-loop-key : goal.invariant-loop-key
invariant-loop-key l = record {
  are : l.changes.items ++ insertions (into_iter_items l.key-iterator) (drop (length l.changes.items) l.rows) ≡ insertions l.fn.keys.items l.rows;
  left : length l.changes.items + length (into_iter_items l.key-iterator) ≡ length l.rows;
}
