-- What was committed: a list of transactions, the oldest first, and what it leaves in the tables.
use Rattle.std.specs.Prelude.{ℕ, List, [], ◌∷◌, Option, Some, None, nat_le, filter}
use Rattle.std.specs.BTreeMap.{insert_entry, is_at}
use Rattle.std.specs.Map.{lookup, remove_entry}
use Rattle.values.specs.declared.key.Point.{Point}
use Rattle.values.specs.declared.key.Transaction.{Transaction}
use Rattle.std.specs.Ordering.{nat_cmp, ordering_then}
use Rattle.std.specs.declared.cmp.Ordering.{Ordering}
use Rattle.values.specs.declared.value.Value.{Value}
use Rattle.values.specs.declared.key.Key.{Key}
use Rattle.values.specs.Order.{key_cmp}

abbrev pub Row : Type 0
Row = List Value

-- the rows by key, in the keys' order
abbrev pub State : Type 0
State = List (Key × Row)

-- by key, in the keys' order: the row that the key has from then on, or none
abbrev pub Net : Type 0
Net = List (Key × Option Row)

-- the oldest first
abbrev pub Log : Type 0
Log = List Transaction

-- the row of a key
abbrev pub row_at : State → Key → Option Row
row_at m key = lookup (is_at (key_cmp key)) m

-- the key has this row, or none
abbrev pub set_row : Key → Option Row → State → State
set_row key (Some row) m = insert_entry key_cmp m key row
set_row key None m = remove_entry (is_at (key_cmp key)) m

abbrev pub apply_net : State → Net → State
apply_net m [] = m
apply_net m (change ∷ net) = apply_net (set_row change.0 change.1 m) net

abbrev pub last_from : ℕ → Log → ℕ
last_from instant [] = instant
last_from instant (t ∷ log) = last_from t.instant log

-- the instant of the last transaction, 0 where there is none
abbrev pub last : Log → ℕ
last log = last_from 0 log

-- the transactions at an instant or before it
abbrev pub upto : Log → ℕ → Log
upto log instant = filter (λ t. nat_le t.instant instant) log

-- what transactions leave, from the empty tables on
abbrev pub replay : State → Log → State
replay m [] = m
replay m (t ∷ log) = replay (apply_net m t.net) log

abbrev pub state : Log → ℕ → State
state log instant = replay [] (upto log instant)

abbrev pub point_cmp : Point → Point → Ordering
point_cmp p q = ordering_then (key_cmp p.key q.key) (nat_cmp p.instant q.instant)

-- the changes by key, and then by instant: a row, or none
abbrev pub Changes : Type 0
Changes = List (Point × Option Row)

abbrev pub add_net : ℕ → Changes → Net → Changes
add_net instant m [] = m
add_net instant m (change ∷ net) =
    add_net instant
    (insert_entry point_cmp m (record { key = change.0; instant = instant }) change.1) net

abbrev pub add_all : Changes → Log → Changes
add_all m [] = m
add_all m (t ∷ log) = add_all (add_net t.instant m t.net) log

abbrev pub changes : Log → Changes
changes log = add_all [] log
