-- Whether a node has an event of a key from an instant or before it, by the key's first event.
use Rattle.std.proofs.Common.{◌≡◌, ℕ, ◌≤◌, Bool, true, false, List, Option, Some, None, refl, sym, ap, subst, ◌∙◌, arith}
use Rattle.std.specs.Prelude.{◌&&◌, nat_le, is_some, All}
use Rattle.std.proofs.lemmas.Bool.{and_parts, and_from, leb-true, le-leb, false≢true}
use Rattle.values.specs.Event.{Event}
use Rattle.values.specs.Events.{is_bytes, event_until}
use Rattle.eventlist.proofs.PlaceOrder.{same_bytes, is_own}
use Rattle.datanode.specs.Cut.{IsMap}
use Rattle.datanode.specs.NextChange.{event_after}
use Rattle.datanode.proofs.CutMembers.{In}
use Rattle.datanode.proofs.CutOrder.{In_place}
use Rattle.datanode.proofs.LawLast.{last_such, none_such, none_passes, until_such}
use Rattle.treewalk.specs.Leaf.{is_upto}
use Rattle.treewalk.proofs.ChangeAfterShown.{IsFirst, first_found, none_found}

module _ (es : List Event) (map : IsMap es) (ones : All (λ e. 1 ≤ e.at) es) (key : List ℕ) (t : ℕ) where
  abbrev wanted : Event → Bool
  wanted e = is_bytes key e.key && nat_le e.at t

  is_one : (x : Event) → In x es → 1 ≤ x.at
  is_one x i = let r = In_place x x es i in subst (λ (y : Event). 1 ≤ y.at) r.2 (ones r.0 x r.1)

  some_of : (o : Option Event) → (o ≡ None → ⊥) → is_some o ≡ true
  some_of None h = absurd (h refl)
  some_of (Some e) h = refl

  pub known_upto : is_upto (event_after es 0 key) t ≡ is_some (event_until es key t)
  known_upto = by (event_after es 0 key) refl
    where
      none : ((x : Event) → In x es → key ≡ x.key → x.at ≤ t → ⊥) → false ≡ is_some (event_until es key t)
      none h = sym (ap is_some (until_such es key t ∙ none_such wanted es (λ x i passes. (let q = and_parts (is_bytes key x.key) _ passes in h x i (same_bytes key x.key q.0) (leb-true x.at t q.1)))))

      by : (o : Option ℕ) → event_after es 0 key ≡ o → is_upto o t ≡ is_some (event_until es key t)
      by None is = none (λ x i same le. none_found key 0 es is x i same (is_one x i))
      by (Some f) is = upto (nat_le f t) refl
        where
          found : (e : Event) × (IsFirst es key 0 e × (e.at ≡ f))
          found = first_found key 0 es f map is

          upto : (b : Bool) → nat_le f t ≡ b → nat_le f t ≡ is_some (event_until es key t)
          upto true le = le ∙ sym (ap is_some (until_such es key t) ∙ some_of (last_such wanted es) (λ h. none_passes wanted es found.0 found.1.0.there
              (and_from _ _ (subst (λ k. is_bytes key k ≡ true) found.1.0.same (is_own key)) (ap (λ a. nat_le a t) found.1.1 ∙ le)) h))
          upto false more = more ∙ none (λ x i same le. (let low : found.0.at ≤ x.at = found.1.0.first x i same (is_one x i) in false≢true (sym more ∙ le-leb f t (omega (arith, low, le, found.1.1)))))
