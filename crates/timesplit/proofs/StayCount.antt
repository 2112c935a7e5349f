-- The events of the current half are counted.
use Rattle.std.proofs.Common.{◌≡◌, ℕ, ◌+◌, ◌<◌, Bool, ◌||◌, cond, List, [], ◌∷◌, Option, Some, None, IfSome, length, take, get_or, refl, sym, ap, ◌∙◌, arith, nat_le, filter}
use Rattle.std.proofs.lemmas.List.Filters.{length-filter_more}
use Rattle.values.specs.Event.{Event}
use Rattle.keyrange.specs.Rect.{Area}
use Rattle.keyrange.specs.Cut.{halves_by_time}
use Rattle.datanode.specs.Cut.{is_carried, cut}
use Rattle.datanode.specs.Node.{IsNode}
use Rattle.datanode.proofs.LawHalves.{halves_at_instant}

abbrev pub stays : List Event → ℕ → Event → Bool
stays es t e = nat_le t e.at || is_carried es t e

pub counted : {X : Type 0} (p : X → Bool) (xs : List X) (i : ℕ) (b : Bool) → i < length xs → ((d : X) → b ≡ p (get_or xs i d)) → length (filter p (take (i + 1) xs)) ≡ length (filter p (take i xs)) + cond b 1 0
counted p [] i b h f = absurd (omega arith)
counted p (x ∷ xs) i b h f = length-filter_more p (x ∷ xs) i x h ∙ ap (λ c. length (filter p (take i (x ∷ xs))) + cond c 1 0) (sym (f x))

pub count_is : (r : Area) (es fs : List Event) (t count : ℕ) → IsNode r es → fs ≡ es → count ≡ length (filter (stays fs t) fs) → IfSome (halves_by_time r t) (λ h. count ≡ length (cut h.1 es))
count_is r es fs t count node same is = by (halves_by_time r t) refl
  where
    by : (h : Option (Area × Area)) → halves_by_time r t ≡ h → IfSome h (λ h. count ≡ length (cut h.1 es))
    by None at = tt
    by (Some p) at =
        is ∙ ap (λ l. length (filter (stays l t) l)) same ∙ ap (λ l. length (filter (stays es t) l)) node.whole
        ∙ ap length (sym (halves_at_instant r p.0 p.1 t es node.area at).is_now)
