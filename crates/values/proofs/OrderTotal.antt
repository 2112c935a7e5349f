-- Keys and points are in a total order, in which only equals tie.
use Rattle.std.proofs.Common.{◌≡◌, ℕ, ◌<◌, Bool, true, false, cond, ◌&&◌, T, refl, ap, ltb-true, nat_lt, ◌==◌}
use Rattle.std.specs.Cmp.{IsTotalOrder, on_total, then_total, nat_cmp_total}
use Rattle.std.specs.Cmp.Lexicographic.{slice_cmp, lists_total}
use Rattle.std.specs.Ordering.{nat_cmp, bool_cmp, ordering_then, is_lt}
use Rattle.std.specs.declared.cmp.Ordering.{Ordering}
use Rattle.std.specs.declared.cmp.Ordering.TheVariants.{Less, Equal, Greater}
use Rattle.std.specs.FinMap.{IsAntisymmetric, nat_cmp-IsAntisymmetric, int_cmp-IsAntisymmetric, slice_cmp-IsAntisymmetric}
use Rattle.values.specs.declared.value.Value.TheVariants.{Int, Text, Bool as Truth, Null}
use Rattle.values.specs.declared.key.Key.{Key}
use Rattle.values.specs.declared.key.Point.{Point}
use Rattle.values.specs.Order.{value_cmp, key_cmp}
use Rattle.values.specs.OrderLaw.{value_cmp_total}
use Rattle.values.specs.Log.{point_cmp}

pub key_cmp_total : IsTotalOrder key_cmp
key_cmp_total = then_total (on_total (λ (k : Key). k.table) nat_cmp_total) (on_total (λ (k : Key). k.parts) (lists_total value_cmp_total))

pub point_cmp_total : IsTotalOrder point_cmp
point_cmp_total = then_total (on_total (λ (p : Point). p.key) key_cmp_total) (on_total (λ (p : Point). p.instant) nat_cmp_total)

bools : (x y : Bool) → bool_cmp x y ≡ Equal → x ≡ y
bools true true e = refl
bools true false e = cc
bools false true e = cc
bools false false e = refl

pub value_cmp-IsAntisymmetric : IsAntisymmetric value_cmp
value_cmp-IsAntisymmetric (Int x) (Int y) e = ap Int (int_cmp-IsAntisymmetric x y e)
value_cmp-IsAntisymmetric (Int x) (Text y) e = cc
value_cmp-IsAntisymmetric (Int x) (Truth y) e = cc
value_cmp-IsAntisymmetric (Int x) Null e = cc
value_cmp-IsAntisymmetric (Text x) (Int y) e = cc
value_cmp-IsAntisymmetric (Text x) (Text y) e = ap Text (slice_cmp-IsAntisymmetric nat_cmp-IsAntisymmetric x y e)
value_cmp-IsAntisymmetric (Text x) (Truth y) e = cc
value_cmp-IsAntisymmetric (Text x) Null e = cc
value_cmp-IsAntisymmetric (Truth x) (Int y) e = cc
value_cmp-IsAntisymmetric (Truth x) (Text y) e = cc
value_cmp-IsAntisymmetric (Truth x) (Truth y) e = ap Truth (bools x y e)
value_cmp-IsAntisymmetric (Truth x) Null e = cc
value_cmp-IsAntisymmetric Null (Int y) e = cc
value_cmp-IsAntisymmetric Null (Text y) e = cc
value_cmp-IsAntisymmetric Null (Truth y) e = cc
value_cmp-IsAntisymmetric Null Null e = refl

pub then-Equal : (o p : Ordering) → ordering_then o p ≡ Equal → (o ≡ Equal) × (p ≡ Equal)
then-Equal Less p e = cc
then-Equal Equal p e = (refl, e)
then-Equal Greater p e = cc

pub key_cmp-IsAntisymmetric : IsAntisymmetric key_cmp
key_cmp-IsAntisymmetric k l e =
    let both = then-Equal (nat_cmp k.table l.table) (slice_cmp value_cmp k.parts l.parts) e in
    λ i. record { table = nat_cmp-IsAntisymmetric k.table l.table both.0 i; parts = slice_cmp-IsAntisymmetric value_cmp-IsAntisymmetric k.parts l.parts both.1 i }

pub point_cmp-IsAntisymmetric : IsAntisymmetric point_cmp
point_cmp-IsAntisymmetric p q e =
    let both = then-Equal (key_cmp p.key q.key) (nat_cmp p.instant q.instant) e in
    λ i. record { key = key_cmp-IsAntisymmetric p.key q.key both.0 i; instant = nat_cmp-IsAntisymmetric p.instant q.instant both.1 i }

tested : (x y : ℕ) (b c : Bool) → nat_lt x y ≡ b → T (is_lt (cond b Less (cond c Equal Greater))) → x < y
tested x y true c e h = ltb-true x y e
tested x y false true e h = absurd h
tested x y false false e h = absurd h

pub below : (x y : ℕ) → T (is_lt (nat_cmp x y)) → x < y
below x y h = tested x y (nat_lt x y) (x == y) refl h

pub both : (a b : Bool) → T a → T b → T (a && b)
both true b p q = q
both false b p q = p

pub first : (a b : Bool) → T (a && b) → T a
first true b p = tt
first false b p = p

pub second : (a b : Bool) → T (a && b) → T b
second true b p = p
second false b p = absurd p
