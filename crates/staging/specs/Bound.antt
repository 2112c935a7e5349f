-- Where the keys that comparisons take begin and end among keys in order.
use Rattle.std.specs.Prelude.{◌≡◌, ℕ, List, [], ◌∷◌, Bool, true, false, ◌==◌}
use Rattle.std.specs.Ordering.{is_le, is_lt}
use Rattle.std.specs.declared.cmp.Ordering.TheVariants.{Less}
use Rattle.values.specs.declared.key.Key.{Key}
use Rattle.values.specs.declared.table.Table.{Table}
use Rattle.values.specs.declared.value.Value.{Value}
use Rattle.values.specs.declared.query.Operator.{Operator}
use Rattle.values.specs.declared.query.Operator.TheVariants.{Equal, Below, AtMost, Above, AtLeast}
use Rattle.values.specs.declared.query.Comparison.{Comparison}
use Rattle.values.specs.declared.query.Keys.{Keys}
use Rattle.values.specs.Order.{value_cmp, key_cmp}
use Rattle.values.specs.Versions.{matches}

abbrev pub is_first : List ℕ → ℕ → Bool
is_first [] column = false
is_first (k ∷ ks) column = k == column

-- the comparison is of the first key column
abbrev pub is_of_first : Table → Comparison → Bool
is_of_first table c = is_first table.key c.column

-- what compares so is at the value or above it
abbrev pub bounds_below : Operator → Bool
bounds_below Equal = true
bounds_below Above = true
bounds_below AtLeast = true
bounds_below _ = false

-- what compares so is at the value or below it
abbrev pub bounds_above : Operator → Bool
bounds_above Equal = true
bounds_above Below = true
bounds_above AtMost = true
bounds_above _ = false

-- the first of the values is this one or above it
abbrev pub is_from_value : Value → List Value → Bool
is_from_value v [] = false
is_from_value v (x ∷ xs) = is_le (value_cmp v x)

-- the first of these is below the first of those
abbrev pub is_first_below : List Value → List Value → Bool
is_first_below (x ∷ xs) (y ∷ ys) = is_lt (value_cmp x y)
is_first_below _ _ = false

-- no key that is taken is below this one
abbrev pub IsLeast : Table → Keys → Key → Type 0
IsLeast table keys least = (k : Key) → matches table keys k ≡ true → is_le (key_cmp least k) ≡ true

-- no key above this one is taken
abbrev pub IsPast : Table → Keys → Key → Type 0
IsPast table keys key = (k : Key) → key_cmp key k ≡ Less → matches table keys k ≡ false
