-- What a transaction does: what it sees, what a write answers, and what it leaves.
use Rattle.std.specs.Prelude.{◌≡◌, ◌≢◌, ℕ, [], Some, Result, Err, map}
use Rattle.values.specs.declared.table.Table.{Table}
use Rattle.values.specs.declared.refusal.Refusal.{Refusal}
use Rattle.values.specs.declared.refusal.Refusal.TheVariants.{Memory}
use Rattle.values.specs.Tables.{Schema, table_at}
use Rattle.values.specs.Log.{Changes, State, Net, apply_net}
use Rattle.values.specs.RowsAfter.{rows_after}
use Rattle.values.specs.Writes.{Own, Written, net_of}
use Rattle.values.specs.Events.{AreKeysIn}
use Rattle.tsbtree.specs.View.{TreeState}
use Rattle.staging.specs.View.{Holds}

-- what holds after the changes, with a transaction's own writes over it: each key that it wrote has a row, or none
abbrev pub rows_seen : Changes → Net → State
rows_seen m writes = apply_net (rows_after [] m) writes

abbrev pub own : Changes → Net → Own
own m writes = record { rows = rows_seen m writes; written = map (λ w. w.0) writes }

-- a transaction's net changes over what its view shows
abbrev pub net_over : Changes → Net → Net
net_over m writes = net_of (rows_after [] m) (rows_seen m writes) (map (λ w. w.0) writes)

-- the view shows the changes, whose keys are of the schema as the written ones are, and the table is one of its tables
pub record Reads (schema : Schema) (table : Table) (view : TreeState) (writes : Net) (m : Changes)
    : Type 0 where
  pub held : Holds schema view m
  pub keys : AreKeysIn schema writes
  pub is_table : table_at schema table.number ≡ Some table

-- of every schema and all changes of which that is so
abbrev pub WhenRead : Table → TreeState → Net → (Schema → Changes → Type 0) → Type 0
WhenRead table view writes P =
    (schema : Schema) (m : Changes) → Reads schema table view writes m → P schema m

-- unless memory ran out, a call that leaves these writes over the changes answers and leaves this
abbrev pub IsAnswered : Result ℕ Refusal → Changes → Net → Written → Type 0
IsAnswered result m writes written = result ≢ Err Memory → (result, own m writes) ≡ written
