-- The greatest number of values of a row, event by event.
use Rattle.std.proofs.Common.{◌≡◌, ℕ, suc, ◌+◌, ◌<◌, ◌≤◌, List, [], ◌∷◌, length, drop, get_or, max, sym, ap, ◌∙◌, add-one, drop-cons, arith}
use Rattle.std.proofs.lemmas.List.{drop_all}
use Rattle.values.specs.Event.{Event}
use Rattle.blocks.specs.Start.{row_width, greatest_width}

abbrev pub IsGreatestTo : List Event → ℕ → ℕ → Type 0
IsGreatestTo es i greatest = max greatest (greatest_width (drop i es)) ≡ greatest_width es

regrouped : (a b c : ℕ) → max (max a b) c ≡ max a (max b c)
regrouped a b c = omega arith

pub width_more : (es : List Event) (i : ℕ) (e : Event) (old new : ℕ) → i < length es → e ≡ get_or es i e → new ≡ max old (row_width e.row) → IsGreatestTo es i old → IsGreatestTo es (i + 1) new
width_more es i e old new within is more h =
    ap (λ n. max n (greatest_width (drop (i + 1) es))) more
    ∙ regrouped old (row_width e.row) (greatest_width (drop (i + 1) es))
    ∙ ap (λ l. max old (greatest_width l)) (sym next)
    ∙ h
  where
    next : drop i es ≡ e ∷ drop (i + 1) es
    next = drop-cons es i e within ∙ ap (λ x. x ∷ drop (suc i) es) (sym is) ∙ ap (λ k. e ∷ drop k es) (sym (add-one i))

pub width_all : (es : List Event) (i greatest : ℕ) → length es ≤ i → IsGreatestTo es i greatest → greatest ≡ greatest_width es
width_all es i greatest past h =
    let last : max greatest (greatest_width []) ≡ greatest = omega arith in
    sym last ∙ ap (λ l. max greatest (greatest_width l)) (sym (drop_all i es past)) ∙ h
