-- A transaction that is made again from its net changes.
use Rattle.std.specs.Prelude.{◌≡◌, ◌<◌, ◌≤◌, [], ◌∷◌, ◌++◌, ◌||◌, Option, Some, None, true, is_some, if◌then◌else◌, length}
use Rattle.std.specs.BTreeSet.{insert_key}
use Rattle.std.specs.FinMap.{is_sorted}
use Rattle.std.specs.List.{AllByRecursion}
use lib.Dec.{T}
use Rattle.values.specs.declared.key.Key.{Key}
use Rattle.values.specs.declared.key.Transaction.{Transaction}
use Rattle.values.specs.Order.{key_cmp}
use Rattle.values.specs.Log.{Log, Net, Row, State, last, set_row, row_at}
use Rattle.values.specs.Law.{IsLog}
use Rattle.values.specs.Period.{Periods}
use Rattle.values.specs.Commits.{after, max_instant}
use Rattle.values.specs.Writes.{Own, net_of}

-- what a DELETE that takes one key leaves of a transaction's own rows and keys
abbrev pub without : Key → Own → Own
without key o = record {
  rows = set_row key None o.rows;
  written = if is_some (row_at o.rows key) then insert_key key_cmp o.written key else o.written;
}

-- what an INSERT of one row leaves
abbrev pub with_row : Key → Row → Own → Own
with_row key row o = record {
  rows = set_row key (Some row) o.rows;
  written = insert_key key_cmp o.written key;
}

-- all keys are deleted
abbrev pub clear : Net → Own → Own
clear [] o = o
clear (c ∷ net) o = clear net (without c.0 o)

abbrev pub with_change : Key → Option Row → Own → Own
with_change key None o = o
with_change key (Some row) o = with_row key row o

-- the rows are inserted
abbrev pub fill : Net → Own → Own
fill [] o = o
fill (c ∷ net) o = fill net (with_change c.0 c.1 o)

abbrev pub untouched : State → Own
untouched m = record { rows = m; written = [] }

-- what a transaction leaves that is made again from net changes
abbrev pub rebuilt : State → Net → Own
rebuilt m net = fill net (clear net (untouched m))

-- net changes as a commit has them: by key, and a key that is removed was there
pub record IsNetOver (m : State) (net : Net) : Type 0 where
  pub in_order : T (is_sorted key_cmp net)
  pub there : AllByRecursion (λ c. (is_some c.1 || is_some (row_at m c.0)) ≡ true) net

abbrev pub NetIsRebuilt : Type 0
NetIsRebuilt =
    (m : State) (net : Net) → T (is_sorted key_cmp m) → IsNetOver m net
    → net_of m (rebuilt m net).rows (rebuilt m net).written ≡ net

-- begun when the log was the last that it is, and committed at its own instant
abbrev pub TransactionIsAdded : Type 0
TransactionIsAdded =
    (periods : Periods) (log : Log) (t : Transaction) → IsLog log
    → last log < t.instant → t.instant ≤ max_instant → 0 < length t.net
    → after periods log (last log) t.net t.instant ≡ log ++ t ∷ []
