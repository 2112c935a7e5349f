-- The table of a key.
use Rattle.std.specs.Prelude.{ℕ, List, [], ◌∷◌, Bool, false, ◌==◌}

-- the first byte of a key is its table's number
abbrev pub is_of_table : ℕ → List ℕ → Bool
is_of_table number [] = false
is_of_table number (b ∷ bs) = b == number
