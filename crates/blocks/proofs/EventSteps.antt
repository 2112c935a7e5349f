-- Events are written one after the other.
use Rattle.std.proofs.Common.{◌≡◌, ℕ, suc, ◌+◌, ◌<◌, ◌≤◌, List, ◌∷◌, ◌++◌, length, take, drop, get_or, sym, subst, ap, ◌∙◌, append_assoc, add-one, drop-cons, All}
use Rattle.std.proofs.lemmas.List.{take_all}
use Rattle.std.proofs.lemmas.List.Elements.{All-more}
use Rattle.values.specs.Event.{Event}
use Rattle.blocks.specs.Event.{event_field, event_fields, IsKept}

-- so many events are written behind the first bytes
pub record ArePushed (first : List ℕ) (es : List Event) (i : ℕ) (bytes : List ℕ) : Type 0 where
  pub spelled : bytes ++ event_fields (drop i es) ≡ first ++ event_fields es
  pub kept : All IsKept (take i es)

pub pushed_more : (first : List ℕ) (es : List Event) (i : ℕ) (e : Event) (old new : List ℕ) → i < length es → e ≡ get_or es i e → new ≡ old ++ event_field e → IsKept e
    → ArePushed first es i old → ArePushed first es (i + 1) new
pushed_more first es i e old new within is more kept h = record {
  spelled =
      ap (λ l. l ++ event_fields (drop (i + 1) es)) more ∙ append_assoc old (event_field e) (event_fields (drop (i + 1) es))
      ∙ ap (λ l. old ++ event_fields l) (sym next) ∙ h.spelled;
  kept = All-more IsKept es i e within h.kept (subst IsKept is kept);
}
  where
    next : drop i es ≡ e ∷ drop (i + 1) es
    next = drop-cons es i e within ∙ ap (λ x. x ∷ drop (suc i) es) (sym is) ∙ ap (λ k. e ∷ drop k es) (sym (add-one i))

pub all_pushed : (first : List ℕ) (es : List Event) (i : ℕ) (bytes : List ℕ) → length es ≤ i → ArePushed first es i bytes → All IsKept es
all_pushed first es i bytes past h = subst (All IsKept) (take_all i es past) h.kept
