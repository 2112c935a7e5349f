use Rattle.std.proofs.Common.{◌≡◌}
use Rattle.std.specs.Vec.Iter.{into_iter_items}
use Rattle.staging.specs.Staged.{put_all, put_back}
use Rattle.staging.proofs.staged.put_few.Given as goal

abbrev pub invariant-loop-key : goal.invariant-loop-key
invariant-loop-key l = record {
  to_come : put_all (into_iter_items l.key-iterator) l.writes.entries ≡ put_all l.fn.changes.items l.fn.writes.entries;
  back : put_back l.earlier.items l.writes.entries ≡ put_back l.fn.earlier.items l.fn.writes.entries;
}
