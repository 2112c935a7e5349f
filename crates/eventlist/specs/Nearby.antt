-- Where a place in a list of events lies.
use Rattle.std.specs.Prelude.{◌≡◌, ℕ, ◌≤◌, List, true, false, length}
use Rattle.std.specs.List.{AllWithin}
use Rattle.values.specs.Event.{Event}
use Rattle.eventlist.specs.Place.{is_until}

-- the place after a key's events until an instant is at least the lower of two, and at most the
-- higher
pub record IsPlaceWithin (key : List ℕ) (t : ℕ) (es : List Event) (low high : ℕ) : Type 0 where
  pub ordered : low ≤ high
  pub inside : high ≤ length es
  pub passed : AllWithin (λ e. is_until key t e ≡ true) es 0 low
  pub none : AllWithin (λ e. is_until key t e ≡ false) es high (length es)
