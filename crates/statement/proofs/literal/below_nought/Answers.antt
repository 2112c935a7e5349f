use Rattle.std.proofs.Common.{◌≡◌, ℕ, ◌≤◌, ◌^◌, pos, neg_ℤ, ◌-ℤ◌, arith, w64}
use Rattle.std.proofs.lemmas.Int.{ints}
use Rattle.statement.proofs.literal.below_nought.Goals as goal
use mir.Syntax.{w128}
use mir.Val.{to_z, of_z}

negated : (v : ℕ) → v ≤ 2 ^ 63 → neg_ℤ (pos v) ≡ to_z w64 (of_z w64 (to_z w128 (of_z w128 (pos 0 -ℤ to_z w128 v))))
negated v h = omega (arith, ints)

pub overflow_cast-result-2 : goal.overflow_cast-result-2
overflow_cast-result-2 c = let h = c.in_ok-value.ensures.within in omega (arith, ints, h)

pub returns : goal.returns
returns c =
    let e = negated c.in_ok-value.value c.in_ok-value.ensures.within in
    let f = c.in_ok-value.ensures.found in
    grind (arith, e, f)
