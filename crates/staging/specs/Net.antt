-- What is true of every net change.
use Rattle.std.specs.Prelude.{◌≡◌, List, [], All}
use Rattle.std.specs.Map.{keys_of}
use Rattle.std.specs.List.Sorted.{IsStrictlySortedBy}
use Rattle.values.specs.Order.{key_cmp}
use Rattle.values.specs.Log.{Net}
use Rattle.values.specs.Event.{Event}
use Rattle.values.specs.KeyEncoding.{IsShortKey}

-- its keys strictly rise, and have bytes
pub record IsNet (net : Net) : Type 0 where
  pub ordered : IsStrictlySortedBy key_cmp (keys_of net)
  pub short : All (λ c. IsShortKey c.0) net

-- the same is true of one with the bytes of its keys, whose room for events is empty
pub record IsKeyedNet (net : Net) (room : List Event) : Type 0 where
  pub is_net : IsNet net
  pub empty : room ≡ []
