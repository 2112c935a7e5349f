-- Statements that take one key.
use Rattle.std.specs.Prelude.{◌≡◌, ℕ, ◌≤◌, [], ◌∷◌, None, Ok, length}
use Rattle.std.specs.BTreeSet.{insert_key}
use Rattle.std.specs.FinMap.{is_sorted}
use Rattle.std.specs.List.{AllByRecursion}
use lib.Dec.{T}
use Rattle.values.specs.declared.key.Key.{Key}
use Rattle.values.specs.declared.query.Keys.{Keys}
use Rattle.values.specs.declared.table.Table.{Table}
use Rattle.values.specs.Order.{key_cmp, is_key}
use Rattle.values.specs.Log.{Row, State}
use Rattle.values.specs.Versions.{matches}
use Rattle.values.specs.Writes.{Own, delete_from, insert_into, insert_refusal, key_of, most_written}
use Rattle.restoring.specs.Rebuilt.{without, with_row}

-- of the rows that a transaction sees, the comparisons take the key's alone
abbrev pub TakesOne : Table → Keys → Key → State → Type 0
TakesOne table keys key m = AllByRecursion (λ e. matches table keys e.0 ≡ is_key key e.0) m

-- the transaction may write the key too
abbrev pub MayWrite : Own → Key → Type 0
MayWrite o key = length (insert_key key_cmp o.written key) ≤ most_written

-- a DELETE that takes one key deletes it
abbrev pub OneKeyIsDeleted : Type 0
OneKeyIsDeleted =
    (table : Table) (keys : Keys) (key : Key) (o : Own) → T (is_sorted key_cmp o.rows)
    → TakesOne table keys key o.rows → length o.written ≤ most_written → MayWrite o key
    → (count : ℕ) × (delete_from table keys o ≡ (Ok count, without key o))

-- an INSERT of one row inserts it
abbrev pub OneRowIsInserted : Type 0
OneRowIsInserted =
    (table : Table) (row : Row) (o : Own) → insert_refusal table (row ∷ []) o.rows ≡ None
    → MayWrite o (key_of table row)
    → insert_into table (row ∷ []) o ≡ (Ok 1, with_row (key_of table row) row o)
