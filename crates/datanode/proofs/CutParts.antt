-- The cut of a node is a node, and that of its maps.
use Rattle.keyrange.specs.Cut.{PartsKeys, PartsTime}
use Rattle.std.proofs.Common.{ℕ, true, ◌≡◌, Option, Some, IfSome, List, sym, ap, subst, ◌∙◌}
use Rattle.std.proofs.lemmas.List.Kept.{IsStrictlySortedBy-filter}
use Rattle.values.specs.Event.{Event}
use Rattle.values.specs.Events.{event_cmp}
use Rattle.std.proofs.lemmas.Bool.{and_parts}
use Rattle.keyrange.specs.Rect.{Area, has_point, IsArea, IsInside}
use Rattle.datanode.specs.Cut.{IsMap, in_cut, cut}
use Rattle.datanode.specs.Node.{Node, IsCutOf}
use Rattle.datanode.proofs.LawHalves.{cut_of_cut}

pub cut_is_map : (r : Area) (es : List Event) → IsMap es → IsMap (cut r es)
cut_is_map r es map = IsStrictlySortedBy-filter event_cmp (in_cut r es) es map

pub cut_of_itself : (r : Area) (es : List Event) → IsArea r → cut r es ≡ cut r (cut r es)
cut_of_itself r es area = sym (cut_of_cut r r es area (λ key t is. is))

pub map_of_cut : (r : Area) (es fs : List Event) → IsMap es → fs ≡ cut r es → IsMap fs
map_of_cut r es fs map is = subst IsMap (sym is) (cut_is_map r es map)

pub whole_of_cut : (r : Area) (es fs : List Event) → IsArea r → fs ≡ cut r es → fs ≡ cut r fs
whole_of_cut r es fs area is = is ∙ cut_of_itself r es area ∙ ap (cut r) (sym is)

pub part_of_map : (n : Node) (s : Area) (p : Node) → IsArea s → IsInside s n.rect → p ≡ record { rect = s; events = cut s n.events } → (m : List Event) → IsCutOf n m → IsCutOf p m
part_of_map n s p area inside is m h = subst (λ p. IsCutOf p m) (sym is) (record { ordered = h.ordered; events_are = ap (cut s) h.events_are ∙ cut_of_cut n.rect s m area inside })

-- ---- the second half of a rectangle lies inside it

pub now_inside : (r s : Area) (t : ℕ) (h : Option (Area × Area)) (p : Area × Area) → r ≡ s → IfSome h (λ p. PartsTime r p.0 p.1 t) → h ≡ Some p → IsInside p.1 s
now_inside r s t h p same parts is key u point =
    let halves = subst (λ (h : Option (Area × Area)). IfSome h (λ p. PartsTime r p.0 p.1 t)) is parts in
    subst (λ r. has_point r key u ≡ true) same (and_parts _ _ (sym (halves.after key u) ∙ point)).0

pub above_inside : (r s : Area) (k : List ℕ) (h : Option (Area × Area)) (p : Area × Area) → r ≡ s → IfSome h (λ p. PartsKeys r p.0 p.1 k) → h ≡ Some p → IsInside p.1 s
above_inside r s k h p same parts is key u point =
    let halves = subst (λ (h : Option (Area × Area)). IfSome h (λ p. PartsKeys r p.0 p.1 k)) is parts in
    subst (λ r. has_point r key u ≡ true) same (and_parts _ _ (sym (halves.above key u) ∙ point)).0
