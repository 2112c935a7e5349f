-- Rows that come one after another, and the first that overlaps an earlier one of its entity.
use Rattle.std.specs.Prelude.{◌≡◌, List, [], Option, Some, None, filter, map, true}
use Rattle.std.specs.BTreeMap.{get}
use Rattle.std.specs.List.{AllByRecursion, list_any}
use Rattle.values.specs.declared.key.Key.{Key}
use Rattle.values.specs.declared.period.Period.{Period}
use Rattle.values.specs.declared.period.Span.{Span}
use Rattle.values.specs.Entity.{entity_of}
use Rattle.values.specs.Log.{State}
use Rattle.values.specs.Order.{key_cmp, is_key}
use Rattle.values.specs.Period.{is_span, overlap, span_of}
use Rattle.values.specs.Writes.{overlap_from}
use Rattle.interchange.specs.ApartSpans.{AreInTurn, spans_in}
use Rattle.interchange.specs.declared.overlaps.Overlaps.{Overlaps}

-- the spans of the rows of an entity, in their order; without a period there are none
abbrev pub spans_of : Option Period → Key → State → List Span
spans_of None entity rows = []
spans_of (Some p) entity rows =
    map (λ e. span_of p e.1) (filter (λ e. is_key entity (entity_of e.0)) rows)

-- the spans that are kept of an entity
abbrev pub spans_at : Overlaps → Key → List Span
spans_at o entity = elim (get key_cmp o.spans entity) [ None ↦ [] | Some spans ↦ spans_in spans ]

-- the span of each row has its start below its end
abbrev pub AreProper : Option Period → State → Type 0
AreProper None rows = Unit {0}
AreProper (Some p) rows = AllByRecursion (λ e. is_span (span_of p e.1) ≡ true) rows

-- the spans that are kept are in turn, and overlap what those do that came
pub record AreKept (came kept : List Span) : Type 0 where
  pub in_turn : AreInTurn kept
  pub same : (s : Span) → list_any (overlap s) kept ≡ list_any (overlap s) came

-- these rows came: the first that overlaps is known, and the spans of all while there is none
pub record HasSpans (period : Option Period) (rows : State) (o : Overlaps) : Type 0 where
  pub first : AreProper period rows → o.first ≡ overlap_from period [] rows
  pub kept : AreProper period rows → o.first ≡ None
      → (entity : Key) → AreKept (spans_of period entity rows) (spans_at o entity)
