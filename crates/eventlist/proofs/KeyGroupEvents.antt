-- The events of a key in a span of instants are those between its places.
use Rattle.std.proofs.Common.{◌≡◌, ℕ, ◌+◌, ◌<◌, ◌≤◌, ◌∙◌, Bool, true, false, ◌&&◌, List, None, sym, ap, subst, refl, arith, length, get_or, take, drop, filter, nat_le, nat_lt}
use Rattle.std.specs.Ordering.{match_ordering, is_eq}
use Rattle.std.specs.declared.cmp.Ordering.{Ordering}
use Rattle.std.specs.declared.cmp.Ordering.TheVariants.{Less, Equal, Greater}
use Rattle.std.specs.List.{AllWithin, slice_get}
use Rattle.std.specs.List.Sorted.{IsStrictlySortedBy}
use Rattle.std.proofs.lemmas.Bool.Decides.{nat_tests}
use Rattle.std.proofs.lemmas.List.Elements.{All-weaker}
use Rattle.std.proofs.lemmas.Option.{slice_get-get_or, slice_get_past}
use Rattle.values.specs.Event.{Event}
use Rattle.values.specs.Events.{bytes_cmp, event_cmp}
use Rattle.eventlist.specs.Listing.{is_of_key}
use Rattle.eventlist.specs.Place.{AreFirst, is_until, is_until_at}
use Rattle.eventlist.proofs.PlaceFound.{until_parts}
use Rattle.eventlist.proofs.PlaceOrder.{is_bytes_back}
use Rattle.eventlist.proofs.PlaceParts.{passing_taken, first_same, dropped_fail}
use Rattle.eventlist.proofs.ListingRanges.{front_dropped}

module _ (key : List ℕ) (t : ℕ) (es : List Event) where
  -- a place at which an event is so is inside
  pub there_is : (n : ℕ) → is_until_at key t (slice_get es n) ≡ true → n < length es
  there_is n p = by (nat_lt n (length es)) refl
    where
      by : (b : Bool) → nat_lt n (length es) ≡ b → n < length es
      by true e = grind (arith, nat_tests)
      by false e =
          let none : slice_get es n ≡ None = slice_get_past es n (grind (arith, nat_tests)) in
          let clash : ◌≡◌ {A = Bool} false true = sym (ap (is_until_at key t) none) ∙ p in cc

  -- one event more
  pub until_more : (n : ℕ) → is_until_at key t (slice_get es n) ≡ true → AllWithin (λ e. is_until key t e ≡ true) es 0 n
      → (n + 1 ≤ length es) × AllWithin (λ e. is_until key t e ≡ true) es 0 (n + 1)
  until_more n here passed = (let lt : n < length es = there_is n here in omega (arith, lt), λ k d low high. by k d low high (nat_lt k n) refl)
    where
      by : (k : ℕ) (d : Event) → 0 ≤ k → k < n + 1 → (b : Bool) → nat_lt k n ≡ b → is_until key t (get_or es k d) ≡ true
      by k d low high true is = passed k d low (grind (arith, nat_tests))
      by k d low high false is =
          let last : n ≡ k = grind (arith, nat_tests) in
          subst (λ i. is_until key t (get_or es i d) ≡ true) last (ap (is_until_at key t) (sym (slice_get-get_or es n d (there_is n here))) ∙ here)

  -- from a place on at which the event is not so, none is
  pub until_past : (n : ℕ) → IsStrictlySortedBy event_cmp es → is_until_at key t (slice_get es n) ≡ false → AllWithin (λ e. is_until key t e ≡ false) es n (length es)
  until_past n sorted is k d low high = by (is_until key t (get_or es k d)) refl
    where
      there : is_until key t (get_or es n d) ≡ false
      there = ap (is_until_at key t) (sym (slice_get-get_or es n d (omega (arith, low, high)))) ∙ is

      by : (b : Bool) → is_until key t (get_or es k d) ≡ b → b ≡ false
      by false e = refl
      by true e = sym (until_parts key t es sorted n k d low high e) ∙ there

module _ (key : List ℕ) (after last : ℕ) where
  too_early : (e : Event) → is_until key after e ≡ true → is_of_key key after last e ≡ false
  too_early e h = ap (λ b. b && (nat_lt after e.at && nat_le e.at last)) (is_bytes_back key e.key) ∙ by (bytes_cmp e.key key) h
    where
      past : (t : ℕ) → nat_le t after ≡ true → nat_lt after t ≡ false
      past t h = grind (arith, nat_tests)

      by : (o : Ordering) → match_ordering o true (nat_le e.at after) false ≡ true → (is_eq o && (nat_lt after e.at && nat_le e.at last)) ≡ false
      by Less h = refl
      by Equal h = ap (λ b. b && nat_le e.at last) (past e.at h)
      by Greater h = cc

  from_there : (e : Event) → is_until key after e ≡ false → is_until key last e ≡ is_of_key key after last e
  from_there e h = by (bytes_cmp e.key key) h ∙ sym (ap (λ b. b && (nat_lt after e.at && nat_le e.at last)) (is_bytes_back key e.key))
    where
      above : (t : ℕ) → nat_le t after ≡ false → nat_lt after t ≡ true
      above t h = grind (arith, nat_tests)

      by : (o : Ordering) → match_ordering o true (nat_le e.at after) false ≡ false → match_ordering o true (nat_le e.at last) false ≡ (is_eq o && (nat_lt after e.at && nat_le e.at last))
      by Less h = cc
      by Equal h = sym (ap (λ b. b && nat_le e.at last) (above e.at h))
      by Greater h = refl

  pub of_key_is : (es : List Event) (a n : ℕ) → a ≤ length es → AreFirst (is_until key after) es a → n ≤ length (drop a es) → AreFirst (is_until key last) (drop a es) n
      → take n (drop a es) ≡ filter (is_of_key key after last) es
  of_key_is es a n in_es low in_rest high =
      sym (
      front_dropped (is_of_key key after last) (is_until key after) too_early es a low.0 in_es
      ∙ passing_taken (is_of_key key after last) (drop a es) n in_rest
      (first_same (is_until key last) (is_of_key key after last) (drop a es) n in_rest
      (All-weaker (λ e. is_until key after e ≡ false) (λ e. is_until key last e ≡ is_of_key key after last e) from_there (drop a es)
      (dropped_fail (is_until key after) es a in_es low))
      high)
      )
