-- What changes leave, one after another.
use Rattle.std.specs.Prelude.{[], ◌∷◌}
use Rattle.values.specs.Log.{State, set_row, Changes}

-- rows with changes made in turn: those of a key stand in the order of their instants
abbrev pub rows_after : State → Changes → State
rows_after m [] = m
rows_after m (c ∷ cs) = rows_after (set_row c.0.key c.1 m) cs
