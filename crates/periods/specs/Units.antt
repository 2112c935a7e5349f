-- Conflicts by unit: which is named, and that nothing changes for tables without a period.
use Rattle.std.specs.Prelude.{◌≡◌, ◌≢◌, ℕ, None, length, T}
use Rattle.std.specs.FinMap.{is_sorted}
use Rattle.std.specs.declared.cmp.Ordering.TheVariants.{Less, Greater}
use Rattle.values.specs.declared.key.Key.{Key}
use Rattle.values.specs.Order.{key_cmp}
use Rattle.values.specs.Log.{Changes, point_cmp}
use Rattle.values.specs.Commits.{unit_changed_since}
use Rattle.values.specs.ChangedSince.{changed_since}
use Rattle.values.specs.Period.{Periods}
use Rattle.values.specs.Entity.{unit_of}

-- the order of units is that of keys: so of net changes, which are by key, the first conflict is that of the least unit
abbrev pub UnitsAreInOrder : Type 0
UnitsAreInOrder =
    (periods : Periods) (k l : Key) → (k.table ≡ l.table → length k.parts ≡ length l.parts)
    → key_cmp k l ≡ Less → key_cmp (unit_of periods k) (unit_of periods l) ≢ Greater

-- of a table without a period, conflicts are by key, as they were
abbrev pub OtherTablesStay : Type 0
OtherTablesStay =
    (periods : Periods) (m : Changes) (start : ℕ) (k : Key) → T (is_sorted point_cmp m)
    → periods k.table ≡ None
    → unit_changed_since periods m start (unit_of periods k) ≡ changed_since m start k
