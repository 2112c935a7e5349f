use Rattle.std.proofs.Common.{◌≡◌, length}
use Rattle.staging.specs.Staged.{put_back}
use Rattle.staging.proofs.staged.put_back.Given as goal

abbrev pub invariant-loop-key : goal.invariant-loop-key
invariant-loop-key l = put_back l.earlier.items l.writes.entries ≡ put_back l.fn.earlier.items l.fn.writes.entries

abbrev pub decreases-loop-key : goal.decreases-loop-key
decreases-loop-key l = length l.earlier.items
