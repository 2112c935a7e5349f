-- The order of values is total.
use Rattle.std.specs.Prelude.{◌≡◌, ℕ, refl, ℤ, Bool, false, List, [], pos}
use Rattle.std.proofs.Common.{subst}
use Rattle.std.specs.Ordering.{nat_cmp, int_cmp, bool_cmp, on, then_cmp, ordering_then}
use Rattle.std.specs.Cmp.{IsTotalOrder, on_total, then_total, nat_cmp_total, int_cmp_total, bool_cmp_total}
use Rattle.std.specs.Cmp.Lexicographic.{slice_cmp, nat_list_cmp_total}
use Rattle.std.specs.declared.cmp.Ordering.{Ordering}
use Rattle.std.specs.declared.cmp.Ordering.TheVariants.{Less, Equal, Greater}
use Rattle.values.specs.declared.value.Value.{Value}
use Rattle.values.specs.declared.value.Value.TheVariants.{Int, Text, Bool as Truth, Null}
use Rattle.values.specs.Order.{kind_of, value_cmp}

abbrev int_of : Value → ℤ
int_of (Int x) = x
int_of _ = pos 0

abbrev text_of : Value → List ℕ
text_of (Text x) = x
text_of _ = []

abbrev truth_of : Value → Bool
truth_of (Truth x) = x
truth_of _ = false

-- the same order, field by field
abbrev by_parts : Value → Value → Ordering
by_parts =
    then_cmp (on kind_of nat_cmp)
    (then_cmp (on int_of int_cmp)
    (then_cmp (on text_of (slice_cmp nat_cmp)) (on truth_of bool_cmp)))

then_equal : (o : Ordering) → ordering_then o Equal ≡ o
then_equal Less = refl
then_equal Equal = refl
then_equal Greater = refl

same : (x y : Value) → by_parts x y ≡ value_cmp x y
same (Int x) (Int y) = then_equal (int_cmp x y)
same (Int x) (Text y) = refl
same (Int x) (Truth y) = refl
same (Int x) Null = refl
same (Text x) (Int y) = refl
same (Text x) (Text y) = then_equal (slice_cmp nat_cmp x y)
same (Text x) (Truth y) = refl
same (Text x) Null = refl
same (Truth x) (Int y) = refl
same (Truth x) (Text y) = refl
same (Truth x) (Truth y) = refl
same (Truth x) Null = refl
same Null (Int y) = refl
same Null (Text y) = refl
same Null (Truth y) = refl
same Null Null = refl

pub value_cmp_total : IsTotalOrder value_cmp
value_cmp_total =
    subst IsTotalOrder (λ i x y. same x y i)
    (then_total (on_total kind_of nat_cmp_total)
    (then_total (on_total int_of int_cmp_total)
    (then_total (on_total text_of nat_list_cmp_total) (on_total truth_of bool_cmp_total))))
