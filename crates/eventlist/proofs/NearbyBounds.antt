-- A place in a list of events that lies between two others.
use Rattle.std.proofs.Common.{◌≡◌, ℕ, ◌+◌, ◌-◌, ◌<◌, ◌≤◌, ◌∙◌, Bool, true, false, List, sym, ap, refl, arith, length, get_or, take, drop, min, nat_lt, length-take, length-drop, get_or-take, get_or-drop}
use Rattle.std.specs.List.{AllWithin, slice_get}
use Rattle.std.specs.List.Sorted.{IsStrictlySortedBy}
use Rattle.std.proofs.lemmas.Bool.Decides.{nat_tests}
use Rattle.std.proofs.lemmas.Option.{slice_get-get_or}
use Rattle.values.specs.Event.{Event}
use Rattle.values.specs.Events.{event_cmp}
use Rattle.eventlist.specs.Nearby.{IsPlaceWithin}
use Rattle.eventlist.specs.Place.{AreFirst, is_until, is_until_at}
use Rattle.eventlist.proofs.KeyGroupEvents.{there_is, until_past}
use Rattle.eventlist.proofs.KeyGroupJumps.{first_within}
use Rattle.eventlist.proofs.PlaceFound.{until_parts}

module _ (key : List ℕ) (t : ℕ) (es : List Event) (sorted : IsStrictlySortedBy event_cmp es) where
  -- up to an event that is so, each is
  pub until_reached : (n m : ℕ) → is_until_at key t (slice_get es n) ≡ true → m ≡ n + 1 → (m ≤ length es) × AllWithin (λ e. is_until key t e ≡ true) es 0 m
  until_reached n m here is = (
    let lt : n < length es = there_is key t es n here in omega (arith, lt, is),
    λ k d low high. until_parts key t es sorted k n d (omega (arith, high, is)) (there_is key t es n here) (there d),
  )
    where
      there : (d : Event) → is_until key t (get_or es n d) ≡ true
      there d = ap (is_until_at key t) (sym (slice_get-get_or es n d (there_is key t es n here))) ∙ here

  -- from an event on that is not so, none is
  pub past_least : (n r : ℕ) → is_until_at key t (slice_get es n) ≡ false → r ≡ min n (length es) → AllWithin (λ e. is_until key t e ≡ false) es r (length es)
  past_least n r is least k d low high = until_past key t es n sorted is k d (inside k low high) high
    where
      inside : (k : ℕ) → r ≤ k → k < length es → n ≤ k
      inside k low high = grind (arith, least)

-- a place behind others that pass
pub first_behind : (p : Event → Bool) (es : List Event) (a n : ℕ) → AllWithin (λ e. p e ≡ true) es 0 a → AreFirst p (drop a es) n → AreFirst p es (a + n)
first_behind p es a n passed h = (λ k d low high. front k d high (nat_lt k a) refl, λ k d low high. back k d low high)
  where
    moved : (k : ℕ) (d : Event) → a ≤ k → get_or (drop a es) (k - a) d ≡ get_or es k d
    moved k d le = get_or-drop a es (k - a) d ∙ ap (λ i. get_or es i d) (omega (arith, le))

    front : (k : ℕ) (d : Event) → k < a + n → (b : Bool) → nat_lt k a ≡ b → p (get_or es k d) ≡ true
    front k d high true is = passed k d (omega arith) (grind (arith, nat_tests))
    front k d high false is =
        let le : a ≤ k = grind (arith, nat_tests) in
        sym (ap p (moved k d le)) ∙ h.0 (k - a) d (omega arith) (omega (arith, le, high))

    back : (k : ℕ) (d : Event) → a + n ≤ k → k < length es → p (get_or es k d) ≡ false
    back k d low high =
        let le : a ≤ k = omega (arith, low) in
        let long : length (drop a es) ≡ length es - a = length-drop a es in
        sym (ap p (moved k d le)) ∙ h.1 (k - a) d (omega (arith, low)) (omega (arith, le, high, long))

-- a place between two bounds
pub first_between : (key : List ℕ) (t : ℕ) (es : List Event) (low high n : ℕ) → IsPlaceWithin key t es low high → n ≤ length (drop low (take high es)) → AreFirst (is_until key t) (drop low (take high es)) n
    → AreFirst (is_until key t) es (low + n)
first_between key t es low high n within bound first =
    first_within (is_until key t) es high (low + n) within.inside (omega (arith, below, few)) within.none (first_behind (is_until key t) (take high es) low n taken first)
  where
    few : length (take high es) ≡ high
    few = let l : length (take high es) ≡ min high (length es) = length-take high es in omega (arith, l, within.inside)

    below : low + n ≤ high
    below = let l : length (drop low (take high es)) ≡ length (take high es) - low = length-drop low (take high es) in omega (arith, l, few, bound, within.ordered)

    taken : AllWithin (λ e. is_until key t e ≡ true) (take high es) 0 low
    taken k d from to = ap (is_until key t) (get_or-take high es k d (omega (arith, to, within.ordered))) ∙ within.passed k d from to
