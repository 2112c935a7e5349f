use Rattle.std.proofs.Common.{refl, arith}
use Rattle.tsbtree.proofs.SameLists.{all_same}
use Rattle.tsbtree.proofs.same.are_same.Goals as goal

pub returns : goal.returns
returns g c =
    (λ _. all_same c.args.first.now c.args.second.now c.if-first-second.false (λ k lt. c.loop-place.invariant k (omega arith)), λ _. refl)
