-- What statements do to the rows that a transaction sees.
use Rattle.std.specs.Prelude.{ℕ, List, [], ◌∷◌, ◌++◌, ◌||◌, Option, Some, None, Result, Ok, Err, filter, map, is_some, if◌then◌else◌, not, nat_lt, length, slice_set, ◌-◌}
use Rattle.std.specs.BTreeMap.{insert_entry}
use Rattle.std.specs.BTreeSet.{insert_key}
use Rattle.std.specs.List.{list_any}
use Rattle.std.specs.Option.{option_map}
use Rattle.values.specs.declared.key.Key.{Key}
use Rattle.values.specs.declared.period.Period.{Period}
use Rattle.values.specs.declared.table.Table.{Table}
use Rattle.values.specs.declared.query.Keys.{Keys}
use Rattle.values.specs.declared.query.Set.{Set}
use Rattle.values.specs.declared.refusal.Refusal.{Refusal}
use Rattle.values.specs.declared.refusal.Refusal.TheVariants.{DuplicateKey, Overlap, TooManyWrites}
use Rattle.values.specs.Order.{key_cmp, is_key}
use Rattle.values.specs.Log.{State, Net, Row, row_at}
use Rattle.values.specs.Tables.{value_at, full_row}
use Rattle.values.specs.Fit.{first_of}
use Rattle.values.specs.Versions.{matches}
use Rattle.values.specs.Entity.{clash_by}

-- the keys that a transaction may write
abbrev pub most_written : ℕ
most_written = 1000

abbrev pub key_of : Table → Row → Key
key_of table row = record { table = table.number; parts = map (value_at row) table.key }

-- rows with a value for each column of their table
abbrev pub full_rows : Table → State → State
full_rows table m = map (λ e. (e.0, full_row table e.1)) m

-- a row with its key, in its table
abbrev pub keyed : Table → Row → Key × Row
keyed table row = (key_of table row, row)

-- rows with their keys, inserted in turn
abbrev pub insert_all : State → State → State
insert_all m [] = m
insert_all m (e ∷ es) = insert_all (insert_entry key_cmp m e.0 e.1) es

abbrev pub insert_rows : Table → List Row → State → State
insert_rows table rows m = insert_all m (map (keyed table) rows)

-- the first of the keys that m has, or that is among the earlier ones
abbrev pub duplicate_from : State → List Key → List Key → Option Key
duplicate_from m earlier [] = None
duplicate_from m earlier (k ∷ ks) =
    if is_some (row_at m k) || list_any (is_key k) earlier then Some k
    else duplicate_from m (earlier ++ k ∷ []) ks

-- the key of the first row whose key m has, or an earlier row has
abbrev pub duplicate : Table → List Row → State → Option Key
duplicate table rows m = duplicate_from m [] (map (key_of table) rows)

-- the key of the first of the rows that overlaps one that is there, or an earlier one
abbrev pub overlap_from : Option Period → State → State → Option Key
overlap_from p m [] = None
overlap_from p m (e ∷ es) =
    if list_any (clash_by p e) m then Some e.0 else overlap_from p (m ++ e ∷ []) es

-- in a table without a period none does
abbrev pub overlapping : Table → List Row → State → Option Key
overlapping table rows m = overlap_from table.period m (map (keyed table) rows)

abbrev pub set_all : List Set → Row → Row
set_all [] row = row
set_all (s ∷ sets) row = set_all sets (slice_set row (s.column - 1) s.value)

abbrev pub update_rows : Table → Keys → List Set → State → State
update_rows table keys sets m =
    map (λ e. if matches table keys e.0 then (e.0, set_all sets (full_row table e.1)) else e) m

abbrev pub delete_rows : Table → Keys → State → State
delete_rows table keys m = filter (λ e. not (matches table keys e.0)) m

-- the keys that the comparisons meet
abbrev pub matching_keys : Table → Keys → State → List Key
matching_keys table keys m = map (λ e. e.0) (filter (λ e. matches table keys e.0) m)

-- a set of keys, in order, with more keys
abbrev pub add_keys : List Key → List Key → List Key
add_keys [] ls = ls
add_keys (k ∷ ks) ls = add_keys ks (insert_key key_cmp ls k)

-- what the keys have in the end, without those that are absent both before and after
abbrev pub net_of : State → State → List Key → Net
net_of before now keys =
    filter (λ c. is_some c.1 || is_some (row_at before c.0)) (map (λ k. (k, row_at now k)) keys)

-- ---- what INSERT, UPDATE and DELETE do to an open transaction

-- the rows that a transaction sees, and the keys that it wrote
pub record Own : Type 0 where
  pub rows : State
  pub written : List Key

-- what a write answers, the number of its rows or a refusal, and what it leaves
abbrev pub Written : Type 0
Written = Result ℕ Refusal × Own

-- a write of keys, unless they are too many
abbrev pub write_keys : List Key → ℕ → State → Own → Written
write_keys keys count rows o =
    let written = add_keys keys o.written in
    if nat_lt most_written (length written) then (Err TooManyWrites, o)
    else (Ok count, record { rows = rows; written = written })

-- why an INSERT is refused: a duplicate of any row comes before an overlap of any
abbrev pub insert_refusal : Table → List Row → State → Option Refusal
insert_refusal table rows m =
    first_of (option_map DuplicateKey (duplicate table rows m))
    (option_map Overlap (overlapping table rows m))

abbrev pub insert_into : Table → List Row → Own → Written
insert_into table rows o = elim (insert_refusal table rows o.rows) [
  | Some refusal ↦ (Err refusal, o)
  | None ↦ write_keys (map (key_of table) rows) (length rows) (insert_rows table rows o.rows) o
]

-- a write of the keys that the comparisons meet, which leaves these rows
abbrev pub write_matching : Table → Keys → State → Own → Written
write_matching table keys rows o =
    let met = matching_keys table keys o.rows in write_keys met (length met) rows o

abbrev pub update_in : Table → Keys → List Set → Own → Written
update_in table keys sets o = write_matching table keys (update_rows table keys sets o.rows) o

abbrev pub delete_from : Table → Keys → Own → Written
delete_from table keys o = write_matching table keys (delete_rows table keys o.rows) o
