-- Where the search for a reference begins.
use Rattle.std.specs.Prelude.{ℕ, ◌<◌, List, IsTrue, HoldsAt, length}
use Rattle.keyrange.specs.Range.{is_below}
use Rattle.indexnode.specs.declared.reference.Reference.{Reference}

-- the reference at a place, where there is one, begins above the key
abbrev pub IsAboveAt : {C : Type 0} → List ℕ → List (Reference C) → ℕ → Type 0
IsAboveAt key references place =
    place < length references
    → HoldsAt (λ r. IsTrue (is_below key r.rect.keys.lo)) references place
