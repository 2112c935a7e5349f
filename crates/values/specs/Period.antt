-- Application time: the spans of rows, which a table's period names by two of its columns.
use Rattle.std.specs.Prelude.{ℕ, ◌-◌, ℤ, pos, Bool, ◌&&◌, Option, slice_set, int_lt}
use Rattle.std.specs.Int.{int_min, int_max}
use Rattle.std.specs.Option.{option_and_then}
use Rattle.values.specs.declared.period.Period.{Period}
use Rattle.values.specs.declared.period.Span.{Span}
use Rattle.values.specs.declared.value.Value.{Value}
use Rattle.values.specs.declared.value.Value.TheVariants.{Int}
use Rattle.values.specs.Log.{Row}
use Rattle.values.specs.Tables.{Schema, table_at, value_at}

-- the periods of tables, by the tables' numbers
abbrev pub Periods : Type 0
Periods = ℕ → Option Period

abbrev pub periods_of : Schema → Periods
periods_of schema number = option_and_then (λ t. t.period) (table_at schema number)

-- a whole number; a row that fits has one in both columns of its period
abbrev pub int_of : Value → ℤ
int_of (Int n) = n
int_of _ = pos 0

abbrev pub span_of : Period → Row → Span
span_of p row = record { from = int_of (value_at row p.from); to = int_of (value_at row p.to) }

-- its start is below its end
abbrev pub is_span : Span → Bool
is_span s = int_lt s.from s.to

-- each starts before the other ends
abbrev pub overlap : Span → Span → Bool
overlap s t = int_lt s.from t.to && int_lt t.from s.to

-- what both have
abbrev pub common : Span → Span → Span
common s t = record { from = int_max s.from t.from; to = int_min s.to t.to }

-- what the first has before the second, and behind it
abbrev pub before : Span → Span → Span
before s t = record { from = s.from; to = t.from }

abbrev pub behind : Span → Span → Span
behind s t = record { from = t.to; to = s.to }

-- the row with another span
abbrev pub with_span : Period → Span → Row → Row
with_span p s row = slice_set (slice_set row (p.from - 1) (Int s.from)) (p.to - 1) (Int s.to)
