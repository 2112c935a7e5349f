use Rattle.std.proofs.Common.{rules, ◌≡◌, [], ◌∷◌, ◌++◌, filter, int_lt, subst, sym, ◌∙◌, w64, ℤ}
use Rattle.std.proofs.lemmas.Int.{to_z-of_z}
use Rattle.std.specs.Int.{cast_signed, cast_unsigned}
use Rattle.std.specs.Int.RustNames.{FitsSigned}
use Rattle.interchange.proofs.ApartSpansTaken.{last_overlaps, none_overlaps, starts_below}
use Rattle.interchange.proofs.apart_spans.ApartSpans.overlaps.Goals as goal

pub returns-in-Some : goal.returns-in-Some
returns-in-Some c = λ turn.
    let span = c.args.span in
    let entries = c.args.self.now.ends.entries in
    let start : ℤ = c.in-Some._start.now in
    let end : ℤ = c.in-Some.end.now in
    let below_bound : filter (starts_below (cast_signed w64 (cast_unsigned w64 span.to))) entries ≡ c.next_back.new.self ++ (start, end) ∷ [] = sym (c.range.ensures.between tt) ∙ c.in-Some.ensures.steps in
    let to_fits : FitsSigned w64 span.to = search rules in
    let from_fits : FitsSigned w64 span.from = search rules in
    let end_fits : FitsSigned w64 end = search rules in
    let below = subst (λ n. filter (starts_below n) entries ≡ c.next_back.new.self ++ (start, end) ∷ []) (to_z-of_z w64 span.to to_fits) below_bound in
    (λ i. int_lt (to_z-of_z w64 span.from from_fits i) (to_z-of_z w64 end end_fits i))
    ∙ sym (last_overlaps span entries c.next_back.new.self (start, end) turn below)

pub returns-in-None : goal.returns-in-None
returns-in-None c = λ turn.
    let span = c.args.span in
    let entries = c.args.self.now.ends.entries in
    let below_bound : filter (starts_below (cast_signed w64 (cast_unsigned w64 span.to))) entries ≡ [] = sym (c.range.ensures.between tt) ∙ c.in-None.ensures.steps.0 in
    let to_fits : FitsSigned w64 span.to = search rules in
    let below = subst (λ n. filter (starts_below n) entries ≡ []) (to_z-of_z w64 span.to to_fits) below_bound in
    sym (none_overlaps span entries below)
