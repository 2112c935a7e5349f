-- What a commit adds.
use Rattle.std.specs.Prelude.{◌≡◌, ◌⊎◌, ℕ, ◌<◌, ◌≤◌, List, [], ◌∷◌, All}
use Rattle.std.specs.List.Sorted.{IsStrictlySortedBy}
use Rattle.values.specs.Event.{Event}
use Rattle.values.specs.Commits.{max_instant}
use Rattle.values.specs.Events.{event_cmp, put_event}
use Rattle.treenodes.specs.Map.{latest}

-- events put one after the other, each in its place
abbrev pub put_each : List Event → List Event → List Event
put_each [] m = m
put_each (e ∷ es) m = put_each es (put_event e m)

-- events of one instant, by key, one a key
pub record IsCommit (instant : ℕ) (es : List Event) : Type 0 where
  pub at_instant : All (λ e. e.at ≡ instant) es
  pub ordered : IsStrictlySortedBy event_cmp es

-- a map before a commit at an instant: what was committed is not after the last instant
pub record IsBeforeCommit (m : List Event) (last instant : ℕ) : Type 0 where
  pub later : last < instant
  pub upto : instant ≤ max_instant
  pub reached : last ≤ latest m
  pub others : All (λ e. (e.at ≤ last) ⊎ (e.at ≡ instant)) m
