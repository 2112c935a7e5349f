use Rattle.std.proofs.Common.{rules, ◌≡◌, false, List, map, subst, sym, ◌∙◌, w64}
use Rattle.std.proofs.lemmas.Int.{to_z-of_z}
use Rattle.std.specs.BTreeMap.{insert_entry}
use Rattle.std.specs.List.{list_any}
use Rattle.std.specs.Int.{cast_signed, cast_unsigned}
use Rattle.std.specs.Int.RustNames.{FitsSigned}
use Rattle.std.specs.Ordering.{int_cmp}
use Rattle.values.specs.Period.{overlap}
use Rattle.interchange.specs.ApartSpans.{HasOneMore, span_at, spans_in}
use Rattle.interchange.proofs.ApartSpansTaken.{Entry, inserted, one_more}
use Rattle.interchange.proofs.apart_spans.ApartSpans.add.Goals as goal

pub returns-clause-added : goal.returns-clause-added
returns-clause-added c = λ _ proper turn.
    let span = c.args.span in
    let entries = c.args.self.now.ends.entries in
    let from_fits : FitsSigned w64 span.from = search rules in
    let to_fits : FitsSigned w64 span.to = search rules in
    let bound : c.insert.new.self.entries ≡ insert_entry int_cmp entries (cast_signed w64 (cast_unsigned w64 span.from)) (cast_signed w64 (cast_unsigned w64 span.to)) = c.in_ok-insert.ensures.entries in
    let now : c.insert.new.self.entries ≡ inserted span entries = bound ∙ (λ i. insert_entry int_cmp entries (to_z-of_z w64 span.from from_fits i) (to_z-of_z w64 span.to to_fits i)) in
    let apart : list_any (overlap span) (spans_in c.args.self.now) ≡ false = sym (c.overlaps.ensures turn) ∙ c.if-overlaps.false in
    subst (λ (es : List Entry). HasOneMore (map span_at entries) span (map span_at es)) (sym now) (one_more span entries proper turn apart)
