-- The order of changes by instant.
use Rattle.std.specs.Prelude.{ℕ, List, Some, None, length, slice_get}
use Rattle.std.specs.List.{range_with_len}
use Rattle.std.specs.List.Sorted.{IsPermutation, IsSorted}
use Rattle.std.specs.Ordering.{nat_cmp, ordering_then}
use Rattle.std.specs.declared.cmp.Ordering.{Ordering}
use Rattle.values.specs.Event.{Event}

abbrev pub instant_at : List Event → (place : ℕ) → ℕ
instant_at es place = elim (slice_get es place) [ None ↦ 0 | Some e ↦ e.at ]

-- by instant, and then by place
abbrev pub by_instant : List Event → (a b : ℕ) → Ordering
by_instant es a b = ordering_then (nat_cmp (instant_at es a) (instant_at es b)) (nat_cmp a b)

-- all places, by instant and then by place
pub record AreByInstant (es : List Event) (places : List ℕ) : Type 0 where
  pub all : IsPermutation (range_with_len 0 (length es)) places
  pub in_order : IsSorted (by_instant es) places
