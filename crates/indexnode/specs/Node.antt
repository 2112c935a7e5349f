-- References that tile a rectangle, and rectangles that meet.
use Rattle.std.specs.Prelude.{◌≡◌, ◌↔◌, ℕ, List, Bool, ◌&&◌, IsTrue, All, filter, length}
use Rattle.keyrange.specs.Range.{key_ranges_meet, time_ranges_meet}
use Rattle.keyrange.specs.Rect.{Area, has_point, Common}
use Rattle.indexnode.specs.declared.reference.Reference.{Reference}

-- the references whose rectangles hold a point
abbrev pub at_point : {C : Type 0} → List ℕ → ℕ → List (Reference C) → List (Reference C)
at_point key instant references = filter (λ r. has_point r.rect key instant) references

-- each point of the rectangle lies in exactly one reference's rectangle
pub record Tiles {C : Type 0} (area : Area) (references : List (Reference C)) : Type 0 where
  pub once : (key : List ℕ) (instant : ℕ)
      → IsTrue (has_point area key instant) → length (at_point key instant references) ≡ 1

-- each reference has a point of the rectangle
abbrev pub AllMeet : {C : Type 0} → Area → List (Reference C) → Type 0
AllMeet area references = All (λ r. Common r.rect area) references

-- each begins before the other ends, in keys and in instants
abbrev pub meet : Area → Area → Bool
meet a b = key_ranges_meet a.keys b.keys && time_ranges_meet a.time b.time

-- a reference's rectangle meets another exactly where the two have a point in common
abbrev pub MeetsWhereCommon : {C : Type 0} → Area → Reference C → Type 0
MeetsWhereCommon area r = IsTrue (meet r.rect area) ↔ Common r.rect area
