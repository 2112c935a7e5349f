-- The order of values and of keys: by table, and then column by column, numbers by size, texts by bytes, false before true.
use Rattle.std.specs.Prelude.{ℕ, Bool}
use Rattle.std.specs.Ordering.{nat_cmp, int_cmp, bool_cmp, ordering_then, eq_by_cmp}
use Rattle.std.specs.Cmp.Lexicographic.{slice_cmp}
use Rattle.std.specs.declared.cmp.Ordering.{Ordering}
use Rattle.values.specs.declared.value.Value.{Value}
use Rattle.values.specs.declared.value.Value.TheVariants.{Int, Text, Bool as Truth, Null}
use Rattle.values.specs.declared.key.Key.{Key}

-- A column has values of one type, so what is said of two types only makes the order total.
abbrev pub kind_of : Value → ℕ
kind_of (Int _) = 0
kind_of (Text _) = 1
kind_of (Truth _) = 2
kind_of Null = 3

abbrev pub value_cmp : Value → Value → Ordering
value_cmp (Int x) (Int y) = int_cmp x y
value_cmp (Text x) (Text y) = slice_cmp nat_cmp x y
value_cmp (Truth x) (Truth y) = bool_cmp x y
value_cmp x y = nat_cmp (kind_of x) (kind_of y)

abbrev pub key_cmp : Key → Key → Ordering
key_cmp k l = ordering_then (nat_cmp k.table l.table) (slice_cmp value_cmp k.parts l.parts)

abbrev pub is_key : Key → Key → Bool
is_key = eq_by_cmp key_cmp
