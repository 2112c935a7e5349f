-- The events of a range of keys are those between its places.
use Rattle.std.proofs.Common.{◌≡◌, ℕ, ◌≤◌, ◌∙◌, true, false, ◌&&◌, List, sym, ap, length, take, drop, filter, not}
use Rattle.std.proofs.lemmas.List.Elements.{All-weaker}
use Rattle.values.specs.Event.{Event}
use Rattle.keyrange.specs.declared.range.KeyRange.{KeyRange}
use Rattle.keyrange.specs.Range.{is_before_end, is_key_in}
use Rattle.eventlist.specs.Place.{AreFirst}
use Rattle.eventlist.proofs.PlaceParts.{passing_taken, first_same, dropped_fail}
use Rattle.eventlist.proofs.ListingRanges.{below_key, front_dropped}

pub of_range_is : (es : List Event) (range : KeyRange) (a n : ℕ) → a ≤ length es → AreFirst (below_key range.lo) es a
    → n ≤ length (drop a es) → AreFirst (λ e. is_before_end e.key range.hi) (drop a es) n
    → take n (drop a es) ≡ filter (λ e. is_key_in range e.key) es
of_range_is es range a n in_es low in_rest high =
    sym (
    front_dropped (λ e. is_key_in range e.key) (below_key range.lo) too_low es a low.0 in_es
    ∙ passing_taken (λ e. is_key_in range e.key) (drop a es) n in_rest
    (first_same (λ e. is_before_end e.key range.hi) (λ e. is_key_in range e.key) (drop a es) n in_rest
    (All-weaker (λ e. below_key range.lo e ≡ false) (λ e. is_before_end e.key range.hi ≡ is_key_in range e.key) not_low (drop a es)
    (dropped_fail (below_key range.lo) es a in_es low))
    high)
    )
  where
    too_low : (e : Event) → below_key range.lo e ≡ true → is_key_in range e.key ≡ false
    too_low e h = ap (λ b. not b && is_before_end e.key range.hi) h

    not_low : (e : Event) → below_key range.lo e ≡ false → is_before_end e.key range.hi ≡ is_key_in range e.key
    not_low e h = sym (ap (λ b. not b && is_before_end e.key range.hi) h)
