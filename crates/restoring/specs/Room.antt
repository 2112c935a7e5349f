-- Room for the keys of a transaction that is made again.
use Rattle.std.specs.Prelude.{◌≤◌, length, [], ◌∷◌}
use Rattle.std.specs.FinMap.{is_sorted}
use lib.Dec.{T}
use Rattle.values.specs.Order.{key_cmp}
use Rattle.values.specs.Log.{Net, State}
use Rattle.values.specs.Writes.{Own, most_written}
use Rattle.restoring.specs.Rebuilt.{clear, untouched, with_change, without}
use Rattle.restoring.specs.OneKey.{MayWrite}

-- at each deletion, and at each insertion, there is
abbrev pub HasRoomToClear : Net → Own → Type 0
HasRoomToClear [] o = Unit {0}
HasRoomToClear (c ∷ net) o =
    ((length o.written ≤ most_written) × MayWrite o c.0) × HasRoomToClear net (without c.0 o)

abbrev pub HasRoomToFill : Net → Own → Type 0
HasRoomToFill [] o = Unit {0}
HasRoomToFill (c ∷ net) o = MayWrite o c.0 × HasRoomToFill net (with_change c.0 c.1 o)

-- where the net changes are not too many
abbrev pub FewNetsHaveRoom : Type 0
FewNetsHaveRoom =
    (m : State) (net : Net) → T (is_sorted key_cmp net) → length net ≤ most_written
    → HasRoomToClear net (untouched m) × HasRoomToFill net (clear net (untouched m))
