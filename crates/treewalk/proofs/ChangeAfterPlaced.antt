-- A key's next change among the events of a node, by its place.
use Rattle.std.proofs.Common.{◌≡◌, ℕ, ◌<◌, ◌≤◌, Bool, true, false, List, Some, None, refl, sym, ap, subst, ◌∙◌, inl, inr, arith, length, get_or, if◌then◌else◌, nat_le}
use Rattle.std.specs.Ordering.{match_ordering}
use Rattle.std.specs.declared.cmp.Ordering.{Ordering}
use Rattle.std.specs.declared.cmp.Ordering.TheVariants.{Less, Equal, Greater}
use Rattle.std.proofs.lemmas.Bool.{cases_lt, leb-true, le-leb, false≢true}
use Rattle.std.proofs.lemmas.Bool.Decides.{nat_tests}
use Rattle.std.proofs.lemmas.List.{get_or_default}
use Rattle.values.specs.Event.{Event}
use Rattle.values.specs.Events.{bytes_cmp, is_bytes}
use Rattle.eventlist.specs.Place.{AreFirst, is_until}
use Rattle.eventlist.proofs.PlaceOrder.{bytes_exact, bytes_tie, same_bytes, is_own}
use Rattle.eventlist.proofs.PlaceFound.{until_parts}
use Rattle.datanode.specs.Cut.{IsMap}
use Rattle.datanode.proofs.CutMembers.{In}
use Rattle.datanode.proofs.CutOrder.{In_place, at_In}
use Rattle.datanode.specs.NextChange.{event_after}
use Rattle.treewalk.proofs.ChangeAfterShown.{first_is, none_is}

module _ (key : List ℕ) where
  of_key : (t : ℕ) (x : Event) → key ≡ x.key → is_until key t x ≡ nat_le x.at t
  of_key t x same = ap (λ o. match_ordering o true (nat_le x.at t) false) (subst (λ k. bytes_cmp x.key k ≡ Equal) (sym same) (bytes_tie x.key))

  is_past : (t : ℕ) (x : Event) → key ≡ x.key → t < x.at → is_until key t x ≡ false
  is_past t x same above = of_key t x same ∙ past x.at t above
    where
      past : (i j : ℕ) → j < i → nat_le i j ≡ false
      past i j h = grind (arith, nat_tests)

  is_in : (t : ℕ) (x : Event) → key ≡ x.key → x.at ≤ t → is_until key t x ≡ true
  is_in t x same le = of_key t x same ∙ le-leb x.at t le

  -- past one point and until another: it is of the key
  between : (after t : ℕ) (d : Event) → is_until key after d ≡ false → is_until key t d ≡ true → (key ≡ d.key) × ((after < d.at) × (d.at ≤ t))
  between after t d past until = by (bytes_cmp d.key key) refl past until
    where
      above : (i j : ℕ) → nat_le i j ≡ false → j < i
      above i j h = grind (arith, nat_tests)

      by : (o : Ordering) → bytes_cmp d.key key ≡ o → match_ordering o true (nat_le d.at after) false ≡ false → match_ordering o true (nat_le d.at t) false ≡ true → (key ≡ d.key) × ((after < d.at) × (d.at ≤ t))
      by Less is past until = cc
      by Equal is past until = (sym (bytes_exact d.key key is), (above d.at after past, leb-true d.at t until))
      by Greater is past until = cc

  module _ (after : ℕ) (es : List Event) (n : ℕ) (first : AreFirst (is_until key after) es n) where
    -- none of those before the place
    not_before : (x : Event) (j : ℕ) → get_or es j x ≡ x → j < n → key ≡ x.key → after < x.at → ⊥
    not_before x j is lt same above = false≢true (sym (is_past after x same above) ∙ subst (λ e. is_until key after e ≡ true) is (first.0 j x (omega arith) lt))

    pub past_all : n ≡ length es → None ≡ event_after es after key
    past_all end = sym (none_is key after es (λ x i same above. (let p = In_place x x es i in let lt : p.0 < length es = p.1 in not_before x p.0 p.2 (omega arith) same above)))

    module _ (map : IsMap es) (d : Event) (inside : n < length es) (is : d ≡ get_or es n d) where
      past : is_until key after d ≡ false
      past = subst (λ e. is_until key after e ≡ false) (sym is) (first.1 n d (omega arith) inside)

      -- an event of the key above the instant is not before the one at the place
      behind : (x : Event) → In x es → key ≡ x.key → after < x.at → (key ≡ d.key) × ((after < d.at) × (d.at ≤ x.at))
      behind x i same above = elim (cases_lt p.0 n) [
        | inl lt ↦ absurd (not_before x p.0 p.2 lt same above)
        | inr le ↦ between after x.at d past (subst (λ e. is_until key x.at e ≡ true) (sym is)
            (until_parts key x.at es map n p.0 d le p.1 (subst (λ e. is_until key x.at e ≡ true) (sym (at_place le)) (is_in x.at x same (omega arith)))))
      ]
        where
          p : (j : ℕ) × (j < length es) × (get_or es j x ≡ x)
          p = In_place x x es i

          at_place : n ≤ p.0 → get_or es p.0 d ≡ x
          at_place le = get_or_default es p.0 d x p.1 ∙ p.2

      pub at_place : (b : Bool) → is_bytes key d.key ≡ b → (if b then Some d.at else None) ≡ event_after es after key
      at_place true own =
          let same = same_bytes key d.key own in
          let b = between after d.at d past (is_in d.at d same (omega arith)) in
          sym (first_is key after es d map (record {
            there = subst (λ e. In e es) (sym is) (at_In d es n inside);
            same = same;
            above = b.1.0;
            first = λ x i same above. (behind x i same above).1.1;
          }))
      at_place false other = sym (none_is key after es (λ x i same above.
          false≢true (sym other ∙ subst (λ k. is_bytes key k ≡ true) (behind x i same above).0 (is_own key))))
