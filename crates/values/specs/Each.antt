-- What holds of each of a list, by recursion.
use Rattle.std.specs.Prelude.{List, [], ◌∷◌}

abbrev pub Each : {A : Type 0} → (A → Type 0) → List A → Type 0
Each P [] = Unit {0}
Each P (x ∷ xs) = P x × Each P xs
