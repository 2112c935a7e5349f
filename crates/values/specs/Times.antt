-- Points of application time, and spans in others.
use Rattle.std.specs.Prelude.{ℤ, Bool, ◌&&◌, int_lt, int_le}
use Rattle.values.specs.declared.period.Span.{Span}

-- the point of time is in the span
abbrev pub is_time_of : Span → ℤ → Bool
is_time_of s time = int_le s.from time && int_lt time s.to

-- the first span lies in the second
abbrev pub lies_in : Span → Span → Bool
lies_in s t = int_le t.from s.from && int_le s.to t.to
