-- Spans of which no two overlap, in the order of their starts.
use Rattle.std.specs.Prelude.{◌≡◌, ◌||◌, ℤ, List, [], ◌∷◌, true, int_le, map}
use Rattle.std.specs.List.{AllByRecursion, list_any}
use Rattle.values.specs.declared.period.Span.{Span}
use Rattle.values.specs.Period.{is_span, overlap}
use Rattle.interchange.specs.declared.apart_spans.ApartSpans.{ApartSpans}

-- a start with its end
abbrev pub span_at : (ℤ × ℤ) → Span
span_at e = record { from = e.0; to = e.1 }

abbrev pub spans_in : ApartSpans → List Span
spans_in spans = map span_at spans.ends.entries

-- each starts before it ends, and ends before those behind it start
abbrev pub AreInTurn : List Span → Type 0
AreInTurn [] = Unit {0}
AreInTurn (s ∷ spans) =
    (is_span s ≡ true) × AllByRecursion (λ t. int_le s.to t.from ≡ true) spans × AreInTurn spans

-- the spans are in turn with one more: it overlaps what it does, and the others what they did
pub record HasOneMore (old : List Span) (span : Span) (new : List Span) : Type 0 where
  pub in_turn : AreInTurn new
  pub any : (s : Span) → list_any (overlap s) new ≡ (list_any (overlap s) old || overlap s span)
