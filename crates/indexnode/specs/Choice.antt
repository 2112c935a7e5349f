-- Where a node that has too many references is split.
use Rattle.std.specs.Prelude.{◌≡◌, ℕ, ◌/◌, ◌<◌, ◌≤◌, List, false, Some, None, IsTrue, filter, map, length, slice_get, All}
use Rattle.std.specs.List.{Any}
use Rattle.std.specs.List.Sorted.{IsPermutation, IsSorted}
use Rattle.values.specs.Events.{bytes_cmp}
use Rattle.keyrange.specs.Rect.{Area}
use Rattle.indexnode.specs.declared.reference.Reference.{Reference}
use Rattle.indexnode.specs.Node.{Tiles, AllMeet}
use Rattle.indexnode.specs.Split.{is_current, reaches_below, reaches_up, ends_after, IsBeforeCurrent, AreCurrentIn}

abbrev pub HasNoCurrent : {C : Type 0} → List (Reference C) → Type 0
HasNoCurrent references = All (λ r. is_current r ≡ false) references

abbrev pub current_count : {C : Type 0} → List (Reference C) → ℕ
current_count references = length (filter is_current references)

-- a current reference starts at the instant, and none before it
pub record IsLeastStart {C : Type 0} (references : List (Reference C)) (instant : ℕ) : Type 0 where
  pub some : Any (λ r. IsTrue (is_current r) × (r.rect.time.from ≡ instant)) references
  pub none_before : IsBeforeCurrent instant references

-- of a tiled node without an end one reference is current
pub record HasOneCurrent {C : Type 0} (area : Area) (references : List (Reference C)) : Type 0 where
  pub tiled : Tiles area references
  pub meet : AllMeet area references
  pub endless : area.time.to ≡ None
  pub one : current_count references ≡ 1

-- of a tiled node so many are current at least, and lie inside
pub record HasCurrents {C : Type 0} (n : ℕ) (area : Area) (references : List (Reference C))
    : Type 0 where
  pub tiled : Tiles area references
  pub inside : AreCurrentIn area references
  pub count : n ≤ current_count references

-- from the instant on there is one reference alone, and of several the others lie before it
pub record StandsAlone {C : Type 0} (area : Area) (references : List (Reference C)) (instant : ℕ)
    : Type 0 where
  pub stays : length (filter (λ r. ends_after instant r.rect) references) ≡ 1
  pub later : 2 ≤ length references → area.time.from < instant

-- the lower keys of the current references
abbrev pub current_keys : {C : Type 0} → List (Reference C) → List (List ℕ)
current_keys references = map (λ r. r.rect.keys.lo) (filter is_current references)

-- they are put in order
pub record AreOrdered {C : Type 0} (references : List (Reference C)) (ordered : List (List ℕ))
    : Type 0 where
  pub same_keys : IsPermutation (current_keys references) ordered
  pub in_order : IsSorted bytes_cmp ordered

-- the key is in the middle of them
pub record IsMiddle {C : Type 0} (references : List (Reference C)) (key : List ℕ) : Type 0 where
  pub ordered : List (List ℕ)
  pub are_ordered : AreOrdered references ordered
  pub in_the_middle : slice_get ordered (length ordered / 2) ≡ Some key

-- at a split by a key each half has fewer references than there are
pub record AreSmaller {C : Type 0} (key : List ℕ) (references : List (Reference C)) : Type 0 where
  pub below : length (filter (λ r. reaches_below key r.rect) references) < length references
  pub above : length (filter (λ r. reaches_up key r.rect) references) < length references
