-- The versions of rows, and which of them a query shows.
use Rattle.std.specs.Prelude.{ℕ, List, [], ◌∷◌, Option, Some, None, Bool, true, false, nat_le, nat_lt, ◌&&◌, ◌==◌, filter, filter_map, map, is_none, position, option_and_then, if◌then◌else◌}
use Rattle.std.specs.Ordering.{is_eq, is_lt, is_le, is_gt, is_ge}
use Rattle.std.specs.declared.cmp.Ordering.{Ordering}
use Rattle.std.specs.List.{list_all, slice_get}
use Rattle.values.specs.declared.key.Key.{Key}
use Rattle.values.specs.declared.key.Point.{Point}
use Rattle.values.specs.declared.query.Form.{Form}
use Rattle.values.specs.declared.query.Form.TheVariants.{Plain, AsOf, FromTo, Between}
use Rattle.values.specs.declared.query.Operator.{Operator}
use Rattle.values.specs.declared.query.Operator.TheVariants.{Equal, Below, AtMost, Above, AtLeast}
use Rattle.values.specs.declared.query.Comparison.{Comparison}
use Rattle.values.specs.declared.query.Keys.{Keys}
use Rattle.values.specs.declared.query.Shown.{Shown}
use Rattle.values.specs.declared.value.Value.{Value}
use Rattle.values.specs.declared.table.Table.{Table}
use Rattle.values.specs.Order.{value_cmp, is_key}
use Rattle.values.specs.Tables.{full_row}
use Rattle.values.specs.Log.{Changes, Row}

-- a row of a key, from its start until its end, which is none where it has not come
pub record Version : Type 0 where
  pub key : Key
  pub row : Row
  pub from : ℕ
  pub to : Option ℕ

-- the key's next change after an instant: changes are in order, so it is the first
abbrev pub next_change : Changes → Key → ℕ → Option ℕ
next_change [] key instant = None
next_change (c ∷ cs) key instant =
    if is_key key c.0.key && nat_lt instant c.0.instant then Some c.0.instant
    else next_change cs key instant

-- a change to a row begins a version, which the key's next change ends
abbrev pub version_of : Changes → (Point × Option Row) → Option Version
version_of m (p, None) = None
version_of m (p, Some row) =
    Some (record { key = p.key; row = row; from = p.instant; to = next_change m p.key p.instant })

-- by key, and then by start
abbrev pub versions : Changes → List Version
versions m = filter_map (version_of m) m

-- a version that has not ended lasts beyond every instant
abbrev pub ends_after : Option ℕ → ℕ → Bool
ends_after None instant = true
ends_after (Some end) instant = nat_lt instant end

abbrev pub selects : Form → ℕ → Option ℕ → Bool
selects Plain from to = is_none to
selects (AsOf t) from to = nat_le from t && ends_after to t
selects (FromTo a b) from to = nat_lt a b && nat_lt from b && ends_after to a
selects (Between a b) from to = nat_le a b && nat_le from b && ends_after to a

abbrev pub compares : Operator → Ordering → Bool
compares Equal o = is_eq o
compares Below o = is_lt o
compares AtMost o = is_le o
compares Above o = is_gt o
compares AtLeast o = is_ge o

-- a key's value of a column, or none where the column is not one of the key's
abbrev pub part_of : Table → Key → ℕ → Option Value
part_of table key column =
    option_and_then (slice_get key.parts) (position (λ k. k == column) table.key)

-- the key's value of the column compares so
abbrev pub holds : Table → Key → Comparison → Bool
holds table key c = elim (part_of table key c.column) [
  | None ↦ false
  | Some value ↦ compares c.operator (value_cmp value c.value)
]

-- a key of the table that meets all comparisons
abbrev pub matches : Table → Keys → Key → Bool
matches table keys key = (key.table == keys.table) && list_all (holds table key) keys.comparisons

-- a row that was stored before columns were added is shown with NULL in them
abbrev pub shown_version : Table → Version → Shown
shown_version table v = record { row = full_row table v.row; from = v.from; to = v.to }

abbrev pub selected_versions : Changes → Table → Form → Keys → List Version
selected_versions m table form keys =
    filter (λ v. matches table keys v.key && selects form v.from v.to) (versions m)

-- what a query shows of what was committed
abbrev pub answer : Changes → Table → Form → Keys → List Shown
answer m table form keys = map (shown_version table) (selected_versions m table form keys)
