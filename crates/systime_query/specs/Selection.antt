-- Which versions a query selects, by events in order.
use Rattle.std.specs.Prelude.{◌≡◌, ℕ, List, [], ◌∷◌, Option, Some, None, ◌&&◌, if◌then◌else◌}
use Rattle.std.specs.List.{cons_option}
use Rattle.values.specs.Event.{Event}
use Rattle.values.specs.declared.table.Table.{Table}
use Rattle.values.specs.declared.query.Form.{Form}
use Rattle.values.specs.declared.query.Keys.{Keys}
use Rattle.values.specs.declared.query.Shown.{Shown}
use Rattle.values.specs.Log.{Changes}
use Rattle.values.specs.Tables.{Schema, table_at, full_row}
use Rattle.values.specs.Versions.{selects}
use Rattle.staging.specs.tsbtree.View.{TreeState}
use Rattle.staging.specs.View.{Holds}
use Rattle.values.specs.Events.{is_bytes}
use Rattle.searchrange.specs.Search.{is_taken}

-- the instant of the event behind, where it is of the same key
abbrev pub next_of : Event → List Event → Option ℕ
next_of e [] = None
next_of e (d ∷ ds) = if is_bytes e.key d.key then Some d.at else None

-- the version that an event begins, of those behind it, where the query selects it: its row is as
-- wide as the table
abbrev pub shown_of : Table → Form → Keys → Event → Option ℕ → Option Shown
shown_of table form keys e to = elim e.row [
  | None ↦ None
  | Some row ↦
      if selects form e.at to && is_taken table keys e.key
      then Some (record { row = full_row table row; from = e.at; to = to })
      else None
]

abbrev pub selected_by : Table → Form → Keys → List Event → List Shown
selected_by table form keys [] = []
selected_by table form keys (e ∷ es) =
    cons_option (shown_of table form keys e (next_of e es)) (selected_by table form keys es)

-- of all changes that the view shows, where the table is one of the schema's and the keys are its own
abbrev pub WhenShown : TreeState → Table → Keys → (Changes → Type 0) → Type 0
WhenShown view table keys P =
    (schema : Schema) (m : Changes)
    → Holds schema view m → table_at schema table.number ≡ Some table
    → keys.table ≡ table.number → P m
