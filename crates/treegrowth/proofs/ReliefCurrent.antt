-- An index node without an end has a current reference.
use Rattle.std.proofs.Common.{◌≡◌, ℕ, ◌+◌, ◌<◌, ◌≤◌, max, Bool, true, false, cond, List, [], ◌∷◌, length, Option, Some, None, refl, ap, subst, ◌∙◌, arith}
use Rattle.std.specs.Prelude.{is_none}
use Rattle.std.specs.List.{filter}
use Rattle.std.proofs.lemmas.Bool.{and_from, and_parts, ltb-true, le-leb}
use Rattle.eventlist.proofs.OvertakingNext.{never}
use Rattle.keyrange.specs.Rect.{Area, IsArea, has_point}
use Rattle.keyrange.specs.Range.{is_key_in, is_early}
use Rattle.keyrange.proofs.RectInside.{first_key_in}
use Rattle.indexnode.specs.declared.reference.Reference.{Reference}
use Rattle.indexnode.specs.Node.{Tiles, at_point}
use Rattle.indexnode.specs.Choice.{current_count}
use Rattle.indexnode.specs.Split.{is_current}

end_of : Option ℕ → ℕ
end_of None = 0
end_of (Some end) = end

last_end : List (Reference ℕ) → ℕ
last_end [] = 0
last_end (r ∷ rs) = max (end_of r.rect.time.to) (last_end rs)

-- from its end on a rectangle has no point
ended : (rect : Area) (to : Option ℕ) → rect.time.to ≡ to → is_none to ≡ false → (key : List ℕ) (t : ℕ) → end_of to ≤ t → has_point rect key t ≡ false
unfolding end_of
ended rect None is past key t le = absurd (cc)
ended rect (Some end) is past key t le = never (has_point rect key t) (λ h.
    (let early : is_early t (Some end) ≡ true = subst (λ o. is_early t o ≡ true) is (and_parts _ _ (and_parts (is_key_in rect.keys key) _ h).1).1 in
    let lt : t < end = ltb-true t end early in
    omega arith))

none_there : (rs : List (Reference ℕ)) → current_count rs ≡ 0 → (key : List ℕ) (t : ℕ) → last_end rs ≤ t → length (at_point key t rs) ≡ 0
unfolding last_end
none_there [] none key t le = refl
none_there (r ∷ rs) none key t le = by (is_current r) refl none (λ few. none_there rs few key t (omega arith))
  where
    by : (b : Bool) → is_current r ≡ b → length (cond b (r ∷ filter is_current rs) (filter is_current rs)) ≡ 0 → (current_count rs ≡ 0 → length (at_point key t rs) ≡ 0) → length (cond (has_point r.rect key t) (r ∷ at_point key t rs) (at_point key t rs)) ≡ 0
    by true is few rest = absurd (omega (arith, few))
    by false is few rest = ap (λ b. length (cond b (r ∷ at_point key t rs) (at_point key t rs))) (ended r.rect r.rect.time.to refl is key t (omega arith)) ∙ rest few

pub some_current : (area : Area) (rs : List (Reference ℕ)) → IsArea area → area.time.to ≡ None → Tiles area rs → current_count rs ≡ 0 → ⊥
some_current area rs is endless tiled none =
    let t = area.time.from + last_end rs in
    let here : has_point area area.keys.lo t ≡ true = and_from _ _ (first_key_in area is) (and_from _ _ (le-leb area.time.from t (omega arith)) (ap (is_early t) endless)) in
    let one : length (at_point area.keys.lo t rs) ≡ 1 = tiled.once area.keys.lo t here in
    let no : length (at_point area.keys.lo t rs) ≡ 0 = none_there rs none area.keys.lo t (omega arith) in
    omega (arith, one, no)
