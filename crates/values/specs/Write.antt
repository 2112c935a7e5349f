-- A statement that writes: its table, why it does not fit it, and what it answers and leaves.
use Rattle.std.specs.Prelude.{ℕ, List, Bool, false, not, Option, Some, None, if◌then◌else◌}
use Rattle.std.specs.List.{list_any}
use Rattle.values.specs.declared.period.Period.{Period}
use Rattle.values.specs.declared.period.Span.{Span}
use Rattle.values.specs.declared.table.Table.{Table}
use Rattle.values.specs.declared.refusal.Refusal.{Refusal}
use Rattle.values.specs.declared.refusal.Refusal.TheVariants.{BadRow, BadPeriod}
use Rattle.values.specs.Log.{Row}
use Rattle.values.specs.Faults.{bad_row}
use Rattle.values.specs.Fit.{rows_fault, first_of}
use Rattle.values.specs.Period.{span_of, is_span}

-- a row's span has no start below its end
abbrev pub has_bad_span : Option Period → List Row → Bool
has_bad_span None rows = false
has_bad_span (Some p) rows = list_any (λ row. not (is_span (span_of p row))) rows

abbrev pub span_refusal : Bool → Option Refusal
span_refusal is_bad = if is_bad then Some BadPeriod else None

-- why rows do not fit: the columns of all come before the spans of any
abbrev pub rows_refusal : Table → List Row → Option Refusal
rows_refusal table rows =
    first_of (bad_row (rows_fault table rows)) (span_refusal (has_bad_span table.period rows))

-- why a portion does not fit: a table without a period has none; columns come before the span
abbrev pub portion_refusal : Table → Span → Option ℕ → Option Refusal
portion_refusal table cut fault = elim table.period [
  | None ↦ Some (BadRow 0)
  | Some p ↦ first_of (bad_row fault) (span_refusal (not (is_span cut)))
]
