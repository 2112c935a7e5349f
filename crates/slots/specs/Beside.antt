-- Items that stand in the places of a list's own.
use Rattle.std.specs.Prelude.{◌≡◌, ◌≢◌, ℕ, ◌<◌, List, [], ◌∷◌, Option, Some, None, length, take, slice_set, slice_index_or, All}
use Rattle.slots.specs.declared.beside.Placed.{Placed}

-- the list with each item in its place: of two with one place, the first
abbrev pub over : {T : Type 0} → List T → List (Placed T) → List T
over xs [] = xs
over xs (p ∷ ps) = slice_set (over xs ps) p.place p.item

-- each has a place in a list of this length
abbrev pub AreInside : {T : Type 0} → ℕ → List (Placed T) → Type 0
AreInside n ps = All (λ p. p.place < n) ps

-- none has the place
abbrev pub AreElsewhere : {T : Type 0} → ℕ → List (Placed T) → Type 0
AreElsewhere place ps = All (λ p. p.place ≢ place) ps

-- the first that has the place
pub record IsFirst {T : Type 0} (place : ℕ) (ps : List (Placed T)) (at : ℕ) : Type 0 where
  pub bound : at < length ps
  pub has : (d : Placed T) → (slice_index_or ps at d).place ≡ place
  pub first : AreElsewhere place (take at ps)

-- the first that has the place has the item
abbrev pub HasFirst : {T : Type 0} → ℕ → List (Placed T) → T → Type 0
HasFirst {T} place ps x =
    (at : ℕ) × IsFirst place ps at × ((d : Placed T) → (slice_index_or ps at d).item ≡ x)

abbrev pub placed_of : {T : Type 0} → Option (List (Placed T)) → List (Placed T)
placed_of None = []
placed_of (Some ps) = ps
