-- Halves of a rectangle, of a result that has them.
use Rattle.std.proofs.Common.{ℕ, true, ◌≡◌, Option, Some, IfSome, sym, subst, ◌∙◌}
use Rattle.std.proofs.lemmas.Bool.{and_parts}
use Rattle.keyrange.specs.Cut.{PartsTime}
use Rattle.keyrange.specs.Rect.{Area, has_point, IsInside}

-- the first half of a rectangle lies inside it
pub past_inside : (r s : Area) (t : ℕ) (h : Option (Area × Area)) (p : Area × Area) → r ≡ s → IfSome h (λ p. PartsTime r p.0 p.1 t) → h ≡ Some p → IsInside p.0 s
past_inside r s t h p same parts is key u point =
    let halves = subst (λ (h : Option (Area × Area)). IfSome h (λ p. PartsTime r p.0 p.1 t)) is parts in
    subst (λ r. has_point r key u ≡ true) same (and_parts _ _ (sym (halves.before key u) ∙ point)).0
