-- References that take the place of another.
use Rattle.std.specs.Prelude.{◌≡◌, ◌≢◌, ℕ, ◌<◌, length, take, slice_index_or, List, ◌∷◌, ◌++◌, All}
use Rattle.std.specs.List.{Any}
use Rattle.keyrange.specs.Rect.{Area}
use Rattle.indexnode.specs.declared.reference.Reference.{Reference}

-- some reference has the rectangle
abbrev pub HasRect : {C : Type 0} → Area → List (Reference C) → Type 0
HasRect area references = Any (λ r. r.rect ≡ area) references

-- the given ones stand in the place of the first that has the rectangle, and all others where they stood
pub record Replaced {C : Type 0} (area : Area) (given before after : List (Reference C))
    : Type 0 where
  pub front : List (Reference C)
  pub reference : Reference C
  pub back : List (Reference C)
  pub has : reference.rect ≡ area
  pub first : All (λ r. r.rect ≢ area) front
  pub was : before ≡ front ++ reference ∷ back
  pub is : after ≡ front ++ given ++ back

-- the first place of a reference that has the rectangle
pub record IsFirstPlace {C : Type 0} (area : Area) (references : List (Reference C)) (place : ℕ)
    : Type 0 where
  pub bound : place < length references
  pub has : (d : Reference C) → (slice_index_or references place d).rect ≡ area
  pub first : All (λ r. r.rect ≢ area) (take place references)
