-- The key at which a full node is split.
use Rattle.std.specs.Prelude.{◌≡◌, ℕ, List, [], ◌∷◌, Option, Some, None, option_map, All, if◌then◌else◌}
use Rattle.std.specs.List.{slice_get}
use Rattle.values.specs.Event.{Event}
use Rattle.values.specs.Events.{is_bytes}
use Rattle.keyrange.specs.Range.{is_below}

abbrev pub key_at : List Event → ℕ → Option (List ℕ)
key_at es place = option_map (λ e. e.key) (slice_get es place)

-- the first key above another
abbrev pub next_key : List ℕ → List Event → Option (List ℕ)
next_key key [] = None
next_key key (e ∷ es) = if is_below key e.key then Some e.key else next_key key es

-- the middle one, or the next above it where it is the first one
abbrev pub middle_or_next : Option (List ℕ) → Option (List ℕ) → List Event → Option (List ℕ)
middle_or_next (Some first) (Some middle) es =
    if is_bytes first middle then next_key first es else Some middle
middle_or_next _ _ es = None

-- of the keys at places 0 and 32
abbrev pub middle_key : List Event → Option (List ℕ)
middle_key es = middle_or_next (key_at es 0) (key_at es 32) es

abbrev pub IsOfOneKey : List Event → Type 0
IsOfOneKey es = (key : List ℕ) × All (λ e. e.key ≡ key) es
