-- The events of one key stand together.
use Rattle.std.specs.Prelude.{◌≡◌, ℕ, List, [], ◌∷◌, Bool, true, false, not, Option, Some, None, All}
use Rattle.values.specs.Event.{Event}
use Rattle.keyrange.specs.Range.{is_below}

-- the first event's key
abbrev pub first_key : List Event → List ℕ
first_key [] = []
first_key (e ∷ es) = e.key

abbrev pub AreOfKey : List ℕ → List Event → Type 0
AreOfKey key es = All (λ e. e.key ≡ key) es

-- of greater keys
abbrev pub AreAbove : List ℕ → List Event → Type 0
AreAbove key es = All (λ e. is_below key e.key ≡ true) es

-- the event is of the key or of a lesser one
abbrev pub is_up_to : List ℕ → Option Event → Bool
is_up_to key None = false
is_up_to key (Some e) = not (is_below key e.key)

-- the event is of a lesser key
abbrev pub is_below_key : List ℕ → Option Event → Bool
is_below_key key None = false
is_below_key key (Some e) = is_below e.key key
