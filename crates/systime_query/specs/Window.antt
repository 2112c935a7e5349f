-- What of a key's events a form of FOR SYSTEM_TIME looks at, and when their versions end.
use Rattle.std.specs.Prelude.{◌≡◌, ℕ, List, [], ◌∷◌, Option, ◌&&◌, nat_le}
use Rattle.std.specs.List.{cons_option}
use Rattle.values.specs.Event.{Event}
use Rattle.values.specs.Events.{later}
use Rattle.values.specs.Versions.{selects, ends_after}
use Rattle.values.specs.declared.table.Table.{Table}
use Rattle.values.specs.declared.query.Form.{Form}
use Rattle.values.specs.declared.query.Keys.{Keys}
use Rattle.values.specs.declared.query.Shown.{Shown}
use Rattle.datanode.specs.NextChange.{event_after}
use Rattle.systime_query.specs.Selection.{next_of, shown_of}

-- a form that asks of the instants from one to another, and with it: a version is selected where it begins up to the
-- last and lasts beyond the first
abbrev pub IsWindow : Form → ℕ → ℕ → Type 0
IsWindow form first last =
    (from : ℕ) (to : Option ℕ) → selects form from to ≡ (nat_le from last && ends_after to first)

-- the end of an event's version: by the event behind it, or else by its key's first one after the last instant
abbrev pub end_of : List Event → ℕ → Event → List Event → Option ℕ
end_of es last e behind = later (next_of e behind) (event_after es last e.key)

-- the versions that events in a window begin
abbrev pub shown_in : List Event → ℕ → Table → Form → Keys → List Event → List Shown
shown_in es last table form keys [] = []
shown_in es last table form keys (e ∷ ds) =
    cons_option (shown_of table form keys e (end_of es last e ds))
    (shown_in es last table form keys ds)
