-- The references of a node's halves.
use Rattle.std.specs.Prelude.{◌≡◌, ℕ, ◌≤◌, List, Bool, false, nat_lt, is_none, IsTrue, All}
use Rattle.keyrange.specs.Rect.{Area, IsInside}
use Rattle.keyrange.specs.Range.{is_below, is_before_end, is_early}
use Rattle.keyrange.specs.Cut.{is_key_inside}
use Rattle.indexnode.specs.declared.reference.Reference.{Reference}
use Rattle.indexnode.specs.declared.split.Half.{Half}
use Rattle.indexnode.specs.declared.split.Half.TheVariants.{Below, From, Past, Current}

abbrev pub reaches_below : List ℕ → Area → Bool
reaches_below key area = is_below area.keys.lo key

-- to the key or above
abbrev pub reaches_up : List ℕ → Area → Bool
reaches_up key area = is_before_end key area.keys.hi

abbrev pub starts_before : ℕ → Area → Bool
starts_before instant area = nat_lt area.time.from instant

-- or has no end
abbrev pub ends_after : ℕ → Area → Bool
ends_after instant area = is_early instant area.time.to

-- what a half takes
abbrev pub keeps : Half → Area → Bool
keeps (Below key) area = reaches_below key.now area
keeps (From key) area = reaches_up key.now area
keeps (Past instant) area = starts_before instant area
keeps (Current instant) area = ends_after instant area

-- a current reference has no end
abbrev pub is_current : {C : Type 0} → Reference C → Bool
is_current r = is_none r.rect.time.to

-- no current reference has the key strictly inside
abbrev pub IsUncrossed : {C : Type 0} → List ℕ → List (Reference C) → Type 0
IsUncrossed key references =
    All (λ r. IsTrue (is_current r) → is_key_inside r.rect key ≡ false) references

-- no current reference starts before the instant
abbrev pub IsBeforeCurrent : {C : Type 0} → ℕ → List (Reference C) → Type 0
IsBeforeCurrent instant references =
    All (λ r. IsTrue (is_current r) → instant ≤ r.rect.time.from) references

-- the current references lie inside
abbrev pub AreCurrentIn : {C : Type 0} → Area → List (Reference C) → Type 0
AreCurrentIn area references = All (λ r. IsTrue (is_current r) → IsInside r.rect area) references
