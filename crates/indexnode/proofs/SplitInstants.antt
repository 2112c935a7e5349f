-- Instants: what a test of two of them says, and ends that are none.
use Rattle.std.proofs.Common.{◌≡◌, ℕ, ◌<◌, ◌≤◌, true, false, Option, Some, None, refl, arith}
use Rattle.std.specs.Prelude.{nat_lt, nat_le}
use Rattle.std.proofs.lemmas.Bool.Decides.{nat_tests}
use Rattle.keyrange.specs.Range.{is_early}

pub up_to : (x y : ℕ) → x ≤ y → nat_le x y ≡ true
up_to x y le = grind (arith, nat_tests)

pub at_most : (x y : ℕ) → nat_le x y ≡ true → x ≤ y
at_most x y e = grind (arith, nat_tests)

pub is_less : (x y : ℕ) → nat_lt x y ≡ true → x < y
is_less x y e = grind (arith, nat_tests)

pub less : (x y : ℕ) → x < y → nat_lt x y ≡ true
less x y lt = grind (arith, nat_tests)

pub not_less : (x y : ℕ) → nat_lt x y ≡ false → y ≤ x
not_less x y e = grind (arith, nat_tests)

pub early_before : (x y : ℕ) (end : Option ℕ) → x ≤ y → is_early y end ≡ true → is_early x end ≡ true
early_before x y None le e = refl
early_before x y (Some end) le e = grind (arith, nat_tests)
