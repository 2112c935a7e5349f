use Rattle.std.proofs.Common.{◌≡◌, ◌-◌, ◌<◌, ◌∙◌, length, sym, ap, subst, drop, arith, rules}
use Rattle.slots.specs.Beside.{AreInside}
use Rattle.slots.proofs.BesidePlaces.{over_length}
use Rattle.slots.proofs.beside.Beside.write.Goals as goal

pub set-requires : goal.set-requires
set-requires g c =
    let n = length c.args.tree.now.1 in
    let items = c.as_slice-items.result.now in
    let same : items ≡ c.args.self.now = search rules in
    let inside : AreInside n items = subst (AreInside n) (sym same) c.requires in
    let lt : c.loop-left.left - 1 < length items = omega (arith, c.loop-left.invariant.bound, c.loop-left-test.true) in
    let long : length c.loop-left.tree.1 ≡ n = ap length c.loop-left.invariant.is ∙ over_length c.args.tree.now.1 (drop c.loop-left.left items) in
    omega (arith, inside (c.loop-left.left - 1) c.index-items-left-in-loop-left.result lt, long)
