use Rattle.std.proofs.Common.{refl, arith}
use Rattle.tsbtree.proofs.tree.Tree.apply.Goals as goal

pub returns-then-is_empty-clause-splits : goal.returns-then-is_empty-clause-splits
returns-then-is_empty-clause-splits c = record {
  leaves = λ i n at bottom room. record { place = record { node = n; there = at; level = refl; rect = refl }; room = omega (arith, room) };
  all = λ rooms. (
    record { each = λ i n at. record { node = n; there = at; level = refl; rect = refl }; long = refl },
    λ i n at bottom. (let room = rooms i n at bottom in omega (arith, room)),
  );
}
